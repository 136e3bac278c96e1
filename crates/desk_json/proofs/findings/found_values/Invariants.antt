use Rattle.std.proofs.Common.{◌≡◌, map, take}
use Rattle.serde_json.specs.View.{view}
use Rattle.desk_json.specs.Replies.{found_data}
use Rattle.desk_json.proofs.findings.found_values.Given as goal

abbrev pub invariant-loop-row : goal.invariant-loop-row
invariant-loop-row l = map view l.values.items ≡ map found_data (take l.row-index l.rows)
