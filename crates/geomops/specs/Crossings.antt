-- The crossings of a ring at a height, and the intervals between them ("Rings and the touch test", line 2).
use Rattle.std.specs.Prelude.{ℕ, cond, List, [], ◌∷◌, Float}
use Rattle.lists.specs.Gathered.{gathered}
use Rattle.geometry.specs.Ring.{points_in, point_at, next_of}
use Rattle.geomops.specs.Edge.{crossing_at, counted_at}
use Rattle.geomops.specs.Sorted.{sorted}

-- where edge i, the one from the last point to the first included, crosses height y: one number, or none where it does not count
unfoldable pub edge_crossing : List Float → Float → ℕ → List Float
edge_crossing ring y i =
    let a = point_at ring i in
    let b = point_at ring (next_of (points_in ring) i) in
    cond (counted_at a b y) (crossing_at a b y ∷ []) []

-- the crossings of all edges at height y, in ring order
unfoldable pub crossings_at : List Float → Float → List Float
crossings_at ring y = gathered (edge_crossing ring y) (points_in ring)

abbrev pub Interval : Type 0
Interval = Float × Float

-- paired first with second, third with fourth; an odd last one is dropped
unfoldable pub paired : List Float → List Interval
paired [] = []
paired (x ∷ []) = []
paired (x0 ∷ x1 ∷ xs) = (x0, x1) ∷ paired xs

-- the intervals of a ring on the line at height y
unfoldable pub intervals_at : List Float → Float → List Interval
intervals_at ring y = paired (sorted (crossings_at ring y))
