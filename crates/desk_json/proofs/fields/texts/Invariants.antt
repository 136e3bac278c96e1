use Rattle.std.proofs.Common.{◌≡◌, drop}
use Rattle.serde_json.specs.View.{items_view}
use Rattle.desk_json.specs.Bodies.{texts_of}
use Rattle.desk_json.proofs.Parsed.{onto}
use Rattle.desk_json.proofs.fields.texts.Given as goal

abbrev pub invariant-loop-item : goal.invariant-loop-item
invariant-loop-item l = texts_of (items_view l.items) ≡ onto l.names.items (texts_of (items_view (drop l.item-index l.items)))
