-- `number_components` meets its contract. Invariant: `Numbering`, with a law for each way through a turn.
use Rattle.union_find.specs.Forest.{root_of}
use Rattle.union_find.specs.Numbering.{conducts_in}
use Rattle.union_find.proofs.Laws.Numbers.{Numbering}
use Rattle.union_find.proofs.number.number_components.Given as goal

abbrev pub invariant-loop-i : goal.invariant-loop-i
invariant-loop-i l = Numbering (root_of l.table.table.parent) (conducts_in l.conducts) l.initial.components l.components l.numbers l.next l.i
