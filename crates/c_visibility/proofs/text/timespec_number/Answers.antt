use Rattle.std.proofs.Common.{◌≡◌, ◌∙◌, map, ap, rules}
use Rattle.std.specs.Prelude.{codes, position}
use Rattle.std.specs.Str.{bytes_eq}
use Rattle.c_visibility.proofs.Words.{items, position_in}
use Rattle.c_visibility.proofs.text.timespec_number.Goals as goal

pub returns : goal.returns
returns c =
    let keys = c.args.names.now.keys in
    let is : c.as_slice.result.now ≡ codes "timespec" = search rules in
    c.get_index_of.ensures.index ∙ position_in c.as_slice.result.now keys ∙ ap (λ text. position (bytes_eq text) (map items keys)) is
