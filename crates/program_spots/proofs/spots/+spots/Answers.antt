use Rattle.std.proofs.Common.{map}
use Rattle.std.proofs.lemmas.Result.{on_ok_weaker}
use Rattle.control_flow.specs.Labels.{round_of, spot_of}
use Rattle.program_spots.proofs.Spotting.{if_spots, loop_spots, switch_spots, after_spots, counted_spots}
use Rattle.program_spots.proofs.spots.+spots.Goals as goal

pub add_spots-returns-in_ok-add_spots-in-If : goal.add_spots-returns-in_ok-add_spots-in-If
add_spots-returns-in_ok-add_spots-in-If t c = on_ok_weaker c.add_spots-in-If.result
    (if_spots (map round_of c.args.rounds.now) (map spot_of c.args.spots.now.items) (map spot_of c.add_tested_spots.new.spots.items) (map spot_of c.add_spots.new.spots.items) (map spot_of c.add_spots-in-If.new.spots.items)
    c.args.statement.now _ c.in-If.condition _ c.in-If.yes _ c.in-If.no
    c.in-If.is c.get.ensures c.get-in-If.ensures c.get-in-If-2.ensures
    c.in_ok-add_tested_spots-in-If.ensures c.in_ok-add_spots-in-If.ensures)
    c.add_spots-in-If.ensures

pub add_spots-returns-in_ok-add_spots-in-Loop : goal.add_spots-returns-in_ok-add_spots-in-Loop
add_spots-returns-in_ok-add_spots-in-Loop t c = on_ok_weaker c.add_spots-in-Loop-2.result
    (loop_spots (map round_of c.args.rounds.now) (map spot_of c.args.spots.now.items) (map spot_of c.add_spots-in-Loop.new.spots.items) (map spot_of c.add_spots-in-Loop-2.new.spots.items)
    c.args.statement.now _ c.in-Loop.first _ c.in-Loop.second
    c.in-Loop.is c.get-in-Loop.ensures c.get-in-Loop-2.ensures
    c.in_ok-add_spots-in-Loop.ensures)
    c.add_spots-in-Loop-2.ensures

pub add_spots-returns-in_ok-add_test_spots-in-Counted : goal.add_spots-returns-in_ok-add_test_spots-in-Counted
add_spots-returns-in_ok-add_test_spots-in-Counted t c = on_ok_weaker c.add_turn_spots.result
    (counted_spots (map round_of c.args.rounds.now) (map spot_of c.args.spots.now.items) (map spot_of c.add_spot-in-Counted.new.spots.items) (map spot_of c.add_test_spots.new.spots.items)
    (map spot_of c.add_turn_spots.new.spots.items) c.args.statement.now c.in-Counted.counter _ c.in-Counted.body c.in-Counted.is c.get-in-Counted.ensures
    c.in_ok-add_spot-in-Counted.ensures c.in_ok-add_test_spots-in-Counted.ensures)
    c.add_turn_spots.ensures

pub add_spots-returns-in_ok-add_spot-in-Switch : goal.add_spots-returns-in_ok-add_spot-in-Switch
add_spots-returns-in_ok-add_spot-in-Switch t c = on_ok_weaker c.add_spots_in-in-Switch.result
    (switch_spots (map round_of c.args.rounds.now) (map spot_of c.args.spots.now.items) (map spot_of c.add_spot-in-Switch.new.spots.items) (map spot_of c.add_spots_in-in-Switch.new.spots.items)
    c.args.statement.now c.in-Switch.action _ _ c.in-Switch.is c.as_slice-in-Switch.ensures c.in_ok-add_spot-in-Switch.ensures)
    c.add_spots_in-in-Switch.ensures

pub add_tested_spots-returns-in_ok-add_spots-in-After : goal.add_tested_spots-returns-in_ok-add_spots-in-After
add_tested_spots-returns-in_ok-add_spots-in-After t c = on_ok_weaker c.add_tested_spots-in-After.result
    (after_spots (map round_of c.args.rounds.now) (map spot_of c.args.spots.now.items) (map spot_of c.add_spots.new.spots.items) (map spot_of c.add_tested_spots-in-After.new.spots.items)
    c.args.condition.now _ c.in-After.before _ c.in-After.last c.in-After.is c.get-in-After.ensures c.get-in-After-2.ensures
    c.in_ok-add_spots-in-After.ensures)
    c.add_tested_spots-in-After.ensures
