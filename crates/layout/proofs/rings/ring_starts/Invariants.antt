-- `layout::rings::ring_starts` meets its contract: the starts written so far are a front of the work list. Assumes nothing.
use Rattle.layout.proofs.Laws.Rings.{Starting}
use Rattle.layout.proofs.rings.ring_starts.Given as goal

abbrev pub invariant-loop-i : goal.invariant-loop-i
invariant-loop-i l = Starting l.lengths l.initial.starts l.starts l.at l.i
