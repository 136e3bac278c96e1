use Rattle.std.proofs.Common.{◌-◌, ◌≡◌, ◌<◌, ◌≤◌}
use Rattle.flow_points.specs.Graphs.{first_of, length_of}
use Rattle.flow_points.specs.Tables.{points_before}
use Rattle.flow_points.proofs.points.NumberedPoints.place.Given as goal

abbrev pub invariant-loop-low : goal.invariant-loop-low
invariant-loop-low l = record {
  first : l.f.first ≡ first_of l.self.graph l.function;
  order : l.low < l.high;
  end : l.high ≤ length_of l.self.graph l.function;
  from : points_before l.self.graph l.function l.low ≤ l.offset;
  until : l.offset < points_before l.self.graph l.function l.high;
}

abbrev pub decreases-loop-low : goal.decreases-loop-low
decreases-loop-low l = l.high - l.low
