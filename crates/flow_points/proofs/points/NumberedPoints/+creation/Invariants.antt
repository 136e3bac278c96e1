use Rattle.flow_points.proofs.points.NumberedPoints.+creation.Given as goal

-- a call stands in front of what it calls
abbrev pub decreases-creation : goal.decreases-creation
decreases-creation l = l.point
