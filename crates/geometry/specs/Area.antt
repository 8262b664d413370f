-- The area of a ring ("Rings and the touch test", line 5): half the sum of a.x*b.y - b.x*a.y in ring order, sign dropped; 0 under 3 points.
use Rattle.std.specs.Prelude.{ℕ, zero, suc, cond, List, nat_lt, Float}
use Rattle.std.specs.Float.{binary64}
use Rattle.std.specs.Float.Ieee.{add, sub, mul, div}
use Rattle.geometry.specs.declared.ring.Point.{Point}
use Rattle.geometry.specs.Number.{nought, two, size_of}
use Rattle.geometry.specs.Ring.{points_in, point_at, next_of}

-- a.x * b.y - b.x * a.y
unfoldable pub cross_of : Point → Point → Float
cross_of a b = sub binary64 (mul binary64 a.x b.y) (mul binary64 b.x a.y)

-- the sum over the first k edges, in ring order
unfoldable pub cross_sum : List Float → ℕ → Float
cross_sum ring zero = nought
cross_sum ring (suc k) = add binary64 (cross_sum ring k) (cross_of (point_at ring k) (point_at ring (next_of (points_in ring) k)))

-- half the sum over all edges; 0 under 3 points
unfoldable pub signed_area_of : List Float → Float
signed_area_of ring = cond (nat_lt (points_in ring) 3) nought (div binary64 (cross_sum ring (points_in ring)) two)

unfoldable pub area_of : List Float → Float
area_of ring = size_of (signed_area_of ring)
