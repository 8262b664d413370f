-- `layout::counts::adds_up` meets its contract: what is left of the points is what the lengths passed leave of them. Assumes nothing.
use Rattle.layout.proofs.Laws.Counting.{Adding}
use Rattle.layout.proofs.counts.adds_up.Given as goal

abbrev pub invariant-loop-ring : goal.invariant-loop-ring
invariant-loop-ring l = Adding l.lengths l.points l.left l.ring-index
