use Rattle.std.proofs.Common.{◌≡◌, ◌≤◌, ◌+◌, length, map, [], ◌∷◌}
use Rattle.std.specs.Prelude.{pos, option_copied}
use Rattle.std.specs.Option.{option_map_or}
use Rattle.schedules.specs.Lines.{value}
use Rattle.schedules.specs.Pieces.{pieces_behind}
use Rattle.schedules.proofs.Values.{filled}
use Rattle.schedules.proofs.fields.values_in.Given as goal

abbrev pub decreases-loop-rest : goal.decreases-loop-rest
decreases-loop-rest l = option_map_or (λ text. length text + 1) (option_copied l.rest) 0

abbrev pub invariant-loop-rest : goal.invariant-loop-rest
invariant-loop-rest l = (l.count ≤ 3)
    × (filled l.values l.count (map value (pieces_behind 32 (option_copied l.rest)))
    ≡ filled (pos 0 ∷ pos 0 ∷ pos 0 ∷ []) 0 (map value (pieces_behind 32 (option_copied l.fn.fields))))
