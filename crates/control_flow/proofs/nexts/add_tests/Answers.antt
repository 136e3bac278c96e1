use Rattle.std.proofs.Common.{arith}
use Rattle.std.proofs.lemmas.Result.{on_ok_weaker}
use Rattle.std.specs.Prelude.{option_to_list}
use Rattle.control_flow.specs.Layout.{size_of}
use Rattle.control_flow.specs.Rows.{nexts_in}
use Rattle.control_flow.proofs.Nexting.{step_more, tests_more, tests_end}
use Rattle.control_flow.proofs.nexts.add_tests.Goals as goal

pub loop-turn-preserved : goal.loop-turn-preserved
loop-turn-preserved c =
    let inv = c.loop-turn.invariant in
    record {
      step = step_more c.args.n c.args.counter (size_of c.args.body.now) c.loop-turn._turn c.loop-turn.step c.in_ok-begin.begin c.args.length c.in_ok-step-2.step
          inv.step c.requires c.in_ok-begin.ensures c.in_ok-step-2.ensures;
      rows = tests_more (nexts_in c.args.rows.now.items) (nexts_in c.loop-turn.rows.items) (nexts_in c.add_one.new.rows.items)
          c.args.counter c.args.body.now c.args.n c.loop-turn._turn c.loop-turn.step c.in_ok-begin.begin _ (option_to_list c.args.here)
          c.loop-turn-test.true inv.step c.in_ok-begin.ensures c.in_ok-found.ensures inv.rows c.in_ok-add_one.ensures;
      end = inv.end;
    }

pub returns : goal.returns
returns c = on_ok_weaker c.add_one-2.result
    (tests_end (nexts_in c.args.rows.now.items) (nexts_in c.loop-turn.rows.items) (nexts_in c.add_one-2.new.rows.items) c.args.counter c.args.body.now c.args.n c.loop-turn._turn
    (option_to_list c.args.here) (omega (arith, c.loop-turn-test.false, c.loop-turn.auto._turn-end)) c.loop-turn.invariant.rows)
    c.add_one-2.ensures
