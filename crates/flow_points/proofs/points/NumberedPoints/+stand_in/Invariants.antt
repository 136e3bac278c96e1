use Rattle.flow_points.proofs.points.NumberedPoints.+stand_in.Given as goal

-- a function that is called stands in front
abbrev pub decreases-stand_in : goal.decreases-stand_in
decreases-stand_in l = l.function
