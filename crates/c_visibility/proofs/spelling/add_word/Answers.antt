use Rattle.std.proofs.Common.{◌≡◌, ◌∙◌, ◌∷◌, ◌++◌, [], map, ap}
use Rattle.std.specs.Prelude.{if◌then◌else◌}
use Rattle.std.specs.List.{list_any}
use Rattle.std.specs.Str.{bytes_eq}
use Rattle.c_visibility.proofs.Words.{items, inserted}
use Rattle.c_visibility.specs.Spelling.{with_word}
use Rattle.c_visibility.proofs.spelling.add_word.Goals as goal

pub returns : goal.returns
returns c =
    ap (map items) c.in_ok-insert.ensures.keys ∙ inserted c.args.names.now.keys c.in_ok-from_slice.field-0
    ∙ ap (λ text. if list_any (bytes_eq text) (map items c.args.names.now.keys) then map items c.args.names.now.keys else map items c.args.names.now.keys ++ text ∷ [])
    (c.in_ok-from_slice.ensures.items ∙ c.bytes.ensures)
