use Rattle.std.proofs.Common.{arith, rules, ◌≡◌, ◌-◌, Some, None, length, take, drop, sym, ap, ◌∙◌}
use Rattle.std.proofs.lemmas.Grind.{common_steps}
use Rattle.compliance_core.proofs.PatternLemmas.{left_of_any, left_of_byte}
use Rattle.compliance_core.proofs.pattern.behind_first.Goals as goal

pub returns-in-Some-after_index : goal.returns-in-Some-after_index
returns-in-Some-after_index c =
    let three : c.in-Some.rest.now ≡ drop 3 c.args.pattern.now = c.in-Some.ensures.cases.1 ∙ ap (λ xs. drop (length xs) c.args.pattern.now) c.as_slice.ensures in
    left_of_any c.args.pattern.now c.args.text.now _ (Some c.in-Some-after_index.behind.now) (search rules) three (sym c.in-Some-after_index.ensures)

pub returns-in-None : goal.returns-in-None
returns-in-None c =
    let three : c.in-Some.rest.now ≡ drop 3 c.args.pattern.now = c.in-Some.ensures.cases.1 ∙ ap (λ xs. drop (length xs) c.args.pattern.now) c.as_slice.ensures in
    left_of_any c.args.pattern.now c.args.text.now _ None (search rules) three (sym c.in-None.ensures)

pub returns-in-Some-after_byte : goal.returns-in-Some-after_byte
returns-in-Some-after_byte c =
    let rest : take (length c.args.pattern.now - 1) (drop 1 c.args.pattern.now) ≡ drop 1 c.args.pattern.now = grind (arith, common_steps) in
    left_of_byte c.args.pattern.now c.args.text.now _ (Some c.in-Some-after_byte.behind.now) c.requires (search rules) rest (sym c.in-Some-after_byte.ensures)

pub returns-in-None-after_byte : goal.returns-in-None-after_byte
returns-in-None-after_byte c =
    let rest : take (length c.args.pattern.now - 1) (drop 1 c.args.pattern.now) ≡ drop 1 c.args.pattern.now = grind (arith, common_steps) in
    left_of_byte c.args.pattern.now c.args.text.now _ None c.requires (search rules) rest (sym c.in-None-after_byte.ensures)
