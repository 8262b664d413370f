-- One edge of a ring at one height ("Rings and the touch test", line 2).
use Rattle.std.specs.Prelude.{Bool, ◌&&◌, ◌||◌, Float}
use Rattle.std.specs.Float.{binary64}
use Rattle.std.specs.Float.Ieee.{add, sub, mul, div, lt, le}
use Rattle.geometry.specs.declared.ring.Point.{Point}
use Rattle.geomops.specs.declared.edge.Side.{Side}

-- a.x + (y - a.y) / (b.y - a.y) * (b.x - a.x), operations in that order, each rounded once
unfoldable pub crossing_at : Point → Point → Float → Float
crossing_at a b y =
    add binary64 a.x (mul binary64 (div binary64 (sub binary64 y a.y) (sub binary64 b.y a.y)) (sub binary64 b.x a.x))

-- the edge counts: one end is at or below y and the other strictly above
unfoldable pub counted_at : Point → Point → Float → Bool
counted_at a b y = le a.y y && lt y b.y || le b.y y && lt y a.y

-- on which side of the line at height y a point of height h is
unfoldable pub side_of : Float → Float → Side
side_of h y = record { low = le h y; high = lt y h }

-- the edge between points on these sides counts
unfoldable pub counted_sides : Side → Side → Bool
counted_sides a b = a.low && b.high || b.low && a.high
