-- `union_pairs` meets its contract. Invariant: the joins that are left make of the table what all of them make of the first.
use mathlib.Core.Path.{◌≡◌}
use Rattle.union_find.specs.Chain.{Polygons, pairs_of, joins, run}
use Rattle.union_find.proofs.UnionFind.union_pairs.Given as goal

abbrev pub invariant-loop-pair : goal.invariant-loop-pair
invariant-loop-pair l =
    record {
      two : l.pair-iterator.size ≡ 2;
      inside : Polygons l.pair-iterator.rest.now;
      left : run (joins (pairs_of l.pair-iterator.rest.now)) l.self.table ≡ run (joins (pairs_of l.pairs)) l.fn.self.table;
    }
