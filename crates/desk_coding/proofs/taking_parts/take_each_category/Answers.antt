use Rattle.std.proofs.Common.{◌≡◌, ◌∙◌, ◌<◌, ap, arith, length, take, Some}
use Rattle.std.proofs.lemmas.List.{length-set, take_all, take_more_set}
use Rattle.std.proofs.lemmas.Result.{err_from_is_err_and}
use Rattle.desk_coding.specs.Codings.{many_front}
use Rattle.desk_coding.specs.Parts.{category}
use Rattle.desk_coding.proofs.Loops.{ends, goes_on, is_done}
use Rattle.desk_coding.proofs.taking_parts.take_each_category.Goals as goal

pub returns-in_err-category : goal.returns-in_err-category
returns-in_err-category c =
    let p = err_from_is_err_and c.from_residual.result c.from_residual.ensures.1 in
    rw (p.1, p.2) (ends category c.in_err-category.field-0.0 (take c.loop-i.i c.loop-i.categories) 19 c.loop-i.i c.loop-i.rest.now (many_front category 19 c.args.bytes.now) c.loop-i-test.true c.in_err-category.ensures c.loop-i.invariant.read)

pub loop-i-preserved : goal.loop-i-preserved
loop-i-preserved c =
    let within : c.loop-i.i < length c.loop-i.categories = omega (arith, c.loop-i.invariant.size, c.loop-i-test.true) in
    record {
      size = length-set c.loop-i.categories c.loop-i.i c.in_ok-category.category ∙ c.loop-i.invariant.size;
      read = rw (take_more_set c.loop-i.categories c.loop-i.i c.in_ok-category.category within) (goes_on category (take c.loop-i.i c.loop-i.categories) 19 c.loop-i.i c.loop-i.rest.now c.in_ok-category.category c.in_ok-category.after.now (many_front category 19 c.args.bytes.now) c.loop-i-test.true c.in_ok-category.ensures c.loop-i.invariant.read);
    }

pub returns : goal.returns
returns c =
    is_done category (take c.loop-i.i c.loop-i.categories) 19 c.loop-i.i c.loop-i.rest.now (many_front category 19 c.args.bytes.now) c.loop-i-test.false c.loop-i.invariant.read
    ∙ ap (λ all. Some (all, c.loop-i.rest.now)) (take_all c.loop-i.i c.loop-i.categories (omega (arith, c.loop-i.invariant.size, c.loop-i-test.false)))
