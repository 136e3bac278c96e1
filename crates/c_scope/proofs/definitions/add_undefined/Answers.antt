use Rattle.std.proofs.Common.{arith}
use Rattle.std.proofs.lemmas.Grind.{common_steps}
use Rattle.c_scope.proofs.definitions.add_undefined.Goals as goal

pub loop-seen-preserved : goal.loop-seen-preserved
loop-seen-preserved c =
    let h = c.in_ok-add_undefined_at.ensures c.args.all.now c.in_ok-defined.ensures c.in_ok-called.ensures in
    grind (arith, common_steps, h)
