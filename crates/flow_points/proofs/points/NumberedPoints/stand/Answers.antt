use Rattle.std.proofs.Common.{arith, []}
use Rattle.flow_points.proofs.Counted.{all_points}
use Rattle.flow_points.proofs.Frames.{main_frame}
use Rattle.flow_points.proofs.points.NumberedPoints.stand.Goals as goal

pub stand_in-requires-clause-comes : goal.stand_in-requires-clause-comes
stand_in-requires-clause-comes c = record { string = []; frame = main_frame c.args.self.now.graph c.args.self.now.whole; calls = tt }

pub stand_in-requires-clause-high : goal.stand_in-requires-clause-high
stand_in-requires-clause-high c = omega (arith, c.requires, all_points c.args.self.now.graph c.args.self.now.whole)
