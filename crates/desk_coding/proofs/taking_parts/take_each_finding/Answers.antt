use Rattle.std.proofs.lemmas.Result.{err_from_is_err_and}
use Rattle.desk_coding.specs.Codings.{many_front}
use Rattle.desk_coding.specs.Parts.{finding}
use Rattle.desk_coding.proofs.Loops.{ends, goes_on, is_done}
use Rattle.desk_coding.proofs.taking_parts.take_each_finding.Goals as goal

pub returns-in_err-finding : goal.returns-in_err-finding
returns-in_err-finding c =
    let p = err_from_is_err_and c.from_residual.result c.from_residual.ensures.1 in
    rw (p.1, p.2) (ends finding c.in_err-finding.field-0.0 c.loop.found.items c.args.count c.loop.counter c.loop.rest.now (many_front finding c.args.count c.args.bytes.now) c.loop-test.true c.in_err-finding.ensures c.loop.invariant)

pub loop-preserved : goal.loop-preserved
loop-preserved c =
    rw c.in_ok-push.ensures.items (goes_on finding c.loop.found.items c.args.count c.loop.counter c.loop.rest.now c.in_ok-finding.finding c.in_ok-finding.after.now (many_front finding c.args.count c.args.bytes.now) c.loop-test.true c.in_ok-finding.ensures c.loop.invariant)

pub returns : goal.returns
returns c = is_done finding c.loop.found.items c.args.count c.loop.counter c.loop.rest.now (many_front finding c.args.count c.args.bytes.now) c.loop-test.false c.loop.invariant
