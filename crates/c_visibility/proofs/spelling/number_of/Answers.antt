use Rattle.std.proofs.Common.{◌∙◌, ap, sym, map, length}
use Rattle.std.proofs.lemmas.List.{length-map}
use Rattle.std.specs.Prelude.{position, unwrap_or}
use Rattle.std.specs.Str.{bytes_eq}
use Rattle.c_visibility.proofs.Words.{items, position_in}
use Rattle.c_visibility.proofs.spelling.number_of.Goals as goal

pub returns : goal.returns
returns c =
    let keys = c.args.names.now.keys in
    c.unwrap_or.ensures
    ∙ ap (λ o. unwrap_or o c.len.result)
    (c.get_index_of.ensures.index ∙ position_in c.bytes.result.now keys ∙ ap (λ text. position (bytes_eq text) (map items keys)) c.bytes.ensures)
    ∙ ap (unwrap_or (position (bytes_eq c.args.word.now.text) (map items keys))) (c.len.ensures.len ∙ sym (length-map keys items))
