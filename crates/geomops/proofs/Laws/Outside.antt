-- A line below all points of a ring, or above them all, crosses no edge of it. Assumes nothing.
use mathlib.Core.Path.{◌≡◌, refl}
use Prim.Native.Nat.{ℕ, zero, suc, ◌≤◌, ◌<◌}
use native.Mathlib.Omega.{arith}
use mathlib.Core.Bool.{true, false, and-false}
use mathlib.Core.List.{List, []}
use lib.Ieee.{Float, lt, le}
use Rattle.lists.specs.Gathered.{gathered}
use Rattle.lists.proofs.Laws.Tests.{never, refuted}
use Rattle.floats.proofs.Laws.Order.{lt_trans, le_lt_trans}
use Rattle.geometry.specs.Ring.{points_in, point_at, next_of}
use Rattle.geometry.specs.Boxes.{box_of}
use Rattle.geometry.proofs.Laws.Area.{next_among}
use Rattle.geometry.proofs.Laws.Boxes.{inside_box}
use Rattle.geomops.specs.Edge.{counted_at}
use Rattle.geomops.specs.Crossings.{edge_crossing, crossings_at}

module _ (ring : List Float) (y : Float) where
  none_gathered : ((i : ℕ) → i < points_in ring → edge_crossing ring y i ≡ []) → (k : ℕ) → k ≤ points_in ring → gathered (edge_crossing ring y) k ≡ []
  unfolding gathered
  none_gathered out zero h = refl
  none_gathered out (suc k) h = rw (none_gathered out k (omega arith), out k (omega arith))

  module _ (under : lt y (box_of ring).min_y ≡ true) where
    not_low : (i : ℕ) → i < points_in ring → le (point_at ring i).y y ≡ false
    not_low i h = refuted (λ b. never (le_lt_trans _ _ _ b under) (inside_box ring i h).below)

    edge_under : (i : ℕ) → i < points_in ring → edge_crossing ring y i ≡ []
    unfolding edge_crossing counted_at
    edge_under i h = rw (not_low i h, not_low (next_of (points_in ring) i) (next_among (points_in ring) i h))

    pub none_under : crossings_at ring y ≡ []
    unfolding crossings_at
    none_under = none_gathered edge_under (points_in ring) (omega arith)

  module _ (over : lt (box_of ring).max_y y ≡ true) where
    not_high : (i : ℕ) → i < points_in ring → lt y (point_at ring i).y ≡ false
    not_high i h = refuted (λ b. never (lt_trans _ _ _ over b) (inside_box ring i h).above)

    edge_over : (i : ℕ) → i < points_in ring → edge_crossing ring y i ≡ []
    unfolding edge_crossing counted_at
    edge_over i h = rw (not_high i h, not_high (next_of (points_in ring) i) (next_among (points_in ring) i h), and-false, and-false)

    pub none_over : crossings_at ring y ≡ []
    unfolding crossings_at
    none_over = none_gathered edge_over (points_in ring) (omega arith)
