use Rattle.desk_links.proofs.tcp.linger.Given as goal

abbrev pub decreases-loop-left : goal.decreases-loop-left
decreases-loop-left l = l.left
