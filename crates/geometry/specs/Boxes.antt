-- Boxes around rings.
use Rattle.std.specs.Prelude.{ℕ, zero, suc, Bool, true, false, ◌||◌, List, Float}
use Rattle.std.specs.Float.{inf}
use Rattle.std.specs.Float.Ieee.{lt}
use Rattle.geometry.specs.declared.ring.Point.{Point}
use Rattle.geometry.specs.declared.boxes.Bbox.{Bbox}
use Rattle.geometry.specs.Number.{lesser, greater}
use Rattle.geometry.specs.Ring.{points_in, point_at}

-- the box around no point
unfoldable pub empty_box : Bbox
empty_box = record { min_x = inf false; min_y = inf false; max_x = inf true; max_y = inf true }

-- a minimum above its maximum
unfoldable pub is_empty : Bbox → Bool
is_empty b = lt b.max_x b.min_x || lt b.max_y b.min_y

-- the box with one more point in it
unfoldable pub extended : Bbox → Point → Bbox
extended b p =
    record {
      min_x = lesser b.min_x p.x;
      min_y = lesser b.min_y p.y;
      max_x = greater b.max_x p.x;
      max_y = greater b.max_y p.y;
    }

-- the box around the first k points
unfoldable pub box_of_first : List Float → ℕ → Bbox
box_of_first ring zero = empty_box
box_of_first ring (suc k) = extended (box_of_first ring k) (point_at ring k)

-- the box around all points
unfoldable pub box_of : List Float → Bbox
box_of ring = box_of_first ring (points_in ring)
