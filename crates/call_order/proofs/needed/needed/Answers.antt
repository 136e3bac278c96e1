use Rattle.std.proofs.Common.{◌<◌, sym, ◌∙◌, subst}
use Rattle.call_order.proofs.Marking.{only_main, main_grew, needed_marked}
use Rattle.call_order.proofs.needed.needed.Goals as goal

pub loop-grew-init : goal.loop-grew-init
loop-grew-init c =
    let first = c.mark-grew.ensures.here (subst (λ n. c.args.main < n) (sym c.in_ok-marks.ensures.long) c.requires.main) in
    record {
      long = c.mark-grew.ensures.more.long ∙ c.in_ok-marks.ensures.long;
      first = first;
      only = only_main c.args.calls.now c.args.main c.in_ok-marks.marks.items c.mark-grew.new.marks.items c.mark-grew.result c.in_ok-marks.ensures.none c.mark-grew.ensures.more c.mark-grew.ensures.only;
      closed = λ e. absurd
          (main_grew c.args.calls.now c.args.main c.in_ok-marks.marks.items c.mark-grew.new.marks.items c.mark-grew.result c.in_ok-marks.ensures.none c.mark-grew.ensures.more c.mark-grew.ensures.only first e);
    }

pub returns : goal.returns
returns c = needed_marked c.args.calls.now c.args.main c.loop-grew.marks.items c.loop-grew.invariant.long c.loop-grew.invariant.first (c.loop-grew.invariant.closed c.loop-grew-test.false) c.loop-grew.invariant.only
