-- The loop of `lists::fill` is that of proofs/Laws/Fills.antt.
use Rattle.lists.proofs.Laws.Fills.{Filling}
use Rattle.lists.proofs.fill.Given as goal

abbrev pub invariant-loop-i : goal.invariant-loop-i
invariant-loop-i g l = Filling g.T.Marked.MARK l.initial.list l.list l.fn.from l.i
