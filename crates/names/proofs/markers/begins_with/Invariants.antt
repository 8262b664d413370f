-- `names::markers::begins_with` meets its contract: a walk along pattern and name, of which what is left decides. Assumes nothing.
use Rattle.names.proofs.Laws.Patterns.{Matching}
use Rattle.names.proofs.markers.begins_with.Given as goal

abbrev pub invariant-loop-i : goal.invariant-loop-i
invariant-loop-i l = Matching l.pattern l.name l.i
