-- `root_above` meets its contract. Invariant: r is a polygon with the root of x. Measure: the parent steps that are left.
use Prim.Native.Nat.{◌<◌}
use mathlib.Core.Path.{◌≡◌}
use Rattle.union_find.specs.Forest.{max_polygons, root_of}
use Rattle.union_find.proofs.Laws.Forest.{steps_left}
use Rattle.union_find.proofs.UnionFind.root_above.Given as goal

abbrev pub invariant-loop-r : goal.invariant-loop-r
invariant-loop-r l = (l.r < max_polygons) × (root_of l.self.table.parent l.r ≡ root_of l.self.table.parent l.x)

abbrev pub decreases-loop-r : goal.decreases-loop-r
decreases-loop-r l = steps_left l.self.table.parent l.r
