-- A ring is a flat list of coordinates, x then y of each point; edge i goes from point i to the next, the last to the first.
use Rattle.std.specs.Prelude.{ℕ, ◌+◌, ◌*◌, ◌/◌, cond, List, length, nat_lt, slice_index_or, Float}
use Rattle.std.specs.Float.{nan}
use Rattle.geometry.specs.declared.ring.Point.{Point}

abbrev pub points_in : List Float → ℕ
points_in ring = length ring / 2

unfoldable pub point_at : List Float → ℕ → Point
point_at ring i = record { x = slice_index_or ring (2 * i) nan; y = slice_index_or ring (2 * i + 1) nan }

-- of n points the one behind point i; behind the last comes the first
unfoldable pub next_of : ℕ → ℕ → ℕ
next_of n i = cond (nat_lt (i + 1) n) (i + 1) 0
