-- `names::markers::contains_pattern` meets its contract: a walk along the name, of which what is left decides. Assumes nothing.
use Rattle.names.proofs.Laws.Patterns.{Looking}
use Rattle.names.proofs.markers.contains_pattern.Given as goal

abbrev pub invariant-loop-at : goal.invariant-loop-at
invariant-loop-at l = Looking l.pattern l.name l.at
