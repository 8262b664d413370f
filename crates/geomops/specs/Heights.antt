-- The heights at which two rings are cut into bands, and the lines between them ("Rings and the touch test", line 3).
use Rattle.std.specs.Prelude.{ℕ, Bool, true, false, List, [], ◌∷◌, ◌++◌, Float}
use Rattle.std.specs.Float.{binary64}
use Rattle.std.specs.Float.Ieee.{of_bits, add, sub, mul, lt}
use Rattle.lists.specs.Gathered.{tabulate}
use Rattle.geometry.specs.Number.{resolution, size_of}
use Rattle.geometry.specs.Ring.{points_in, point_at}
use Rattle.geomops.specs.Crossings.{Interval}
use Rattle.geomops.specs.Sorted.{sorted}

-- the height of point i
abbrev pub height_at : List Float → ℕ → Float
height_at ring i = (point_at ring i).y

-- all heights of a ring, in ring order
unfoldable pub heights : List Float → List Float
heights ring = tabulate (height_at ring) (points_in ring)

-- the distance of h to the last one kept is under 1e-15
unfoldable pub close_to : Float → Float → Bool
close_to last h = lt (size_of (sub binary64 h last)) resolution

-- those that are not dropped, where `last` is the last one kept
unfoldable pub thinned_after : Float → List Float → List Float
thinned_after last [] = []
thinned_after last (h ∷ hs) = elim (close_to last h) [ true ↦ thinned_after last hs | false ↦ h ∷ thinned_after h hs ]

-- a height is dropped when its distance to the last one kept is under 1e-15
unfoldable pub thinned : List Float → List Float
thinned [] = []
thinned (h ∷ hs) = h ∷ thinned_after h hs

-- the heights of two rings: all y, sorted, some dropped
unfoldable pub bands_of : List Float → List Float → List Float
bands_of a b = thinned (sorted (heights a ++ heights b))

-- each height with the next one
unfoldable pub neighbours : List Float → List Interval
neighbours [] = []
neighbours (y ∷ []) = []
neighbours (y0 ∷ y1 ∷ ys) = (y0, y1) ∷ neighbours (y1 ∷ ys)

-- 0.5
abbrev pub half : Float
half = of_bits binary64 0x3fe0_0000_0000_0000

-- the test line between two neighbours: 0.5 * (lower + upper)
unfoldable pub line_between : Float → Float → Float
line_between lower upper = mul binary64 half (add binary64 lower upper)
