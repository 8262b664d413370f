-- `point_at` meets its contract. Invariant: pointing the rest gives `compressed` (`Pointing`), and the ranks are as they were.
-- Measure: the parent steps that are left.
use mathlib.Core.Path.{◌≡◌}
use Rattle.union_find.proofs.Laws.Forest.{steps_left}
use Rattle.union_find.proofs.Laws.Compression.{Pointing}
use Rattle.union_find.proofs.UnionFind.point_at.Given as goal

abbrev pub invariant-loop-c : goal.invariant-loop-c
invariant-loop-c l =
    record {
      pointing : Pointing l.initial.self.table.parent l.x l.r l.self.table.parent l.c;
      ranks : l.self.table.rank ≡ l.initial.self.table.rank;
    }

abbrev pub decreases-loop-c : goal.decreases-loop-c
decreases-loop-c l = steps_left l.self.table.parent l.c
