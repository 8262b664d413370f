-- `geomops::minus::push_left` ends: it calls itself for fewer intervals.
use lib.ListN.{length}
use Rattle.geomops.proofs.minus.+push_left.Given as goal

abbrev pub decreases-push_left : goal.decreases-push_left
decreases-push_left l = length l.bs.now
