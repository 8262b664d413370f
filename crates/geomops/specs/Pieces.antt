-- The difference and the intersection of two rings, as rectangles between neighbouring heights ("Cutting the channel").
use Rattle.std.specs.Prelude.{ℕ, Bool, cond, ◌&&◌, ◌||◌, leb, Float}
use mathlib.Core.List.{List, [], ◌∷◌, ◌++◌, flat_map}
use Rattle.std.specs.Float.Ieee.{lt, le}
use Rattle.geometry.specs.Number.{lesser, greater}
use Rattle.geometry.specs.Ring.{points_in}
use Rattle.geomops.specs.declared.rects.Rect.{Rect}
use Rattle.geomops.specs.declared.pieces.Operation.{Operation}
use Rattle.geomops.specs.declared.pieces.Operation.TheVariants.{Minus, Intersection}
use Rattle.geomops.specs.Crossings.{Interval, crossings_at, paired, intervals_at}
use Rattle.geomops.specs.Sorted.{sorted}
use Rattle.geomops.specs.Heights.{neighbours, line_between, bands_of}
use Rattle.geomops.specs.Rects.{wide}

-- the rectangle over an interval, between the heights y0 and y1
abbrev pub rect_over : Float → Float → Interval → Rect
rect_over y0 y1 s = record { x0 = s.0; y0 = y0; x1 = s.1; y1 = y1 }

-- ---- taking away

-- the sides of r below b0 and above b1
abbrev pub side_below : Float → Rect → Rect
side_below b0 r = record { x0 = r.x0; y0 = r.y0; x1 = b0; y1 = r.y1 }

abbrev pub side_above : Float → Rect → Rect
side_above b1 r = record { x0 = b1; y0 = r.y0; x1 = r.x1; y1 = r.y1 }

-- the interval from b0 to b1 lies beside r
unfoldable pub is_apart : Float → Float → Rect → Bool
is_apart b0 b1 r = le b1 r.x0 || le r.x1 b0

-- what an interval leaves of r: r itself where it lies beside r, else those of the sides below and above it that there are
unfoldable pub less_one : Interval → Rect → List Rect
less_one b r =
    cond (is_apart b.0 b.1 r) (r ∷ [])
    (cond (lt r.x0 b.0) (side_below b.0 r ∷ []) [] ++ cond (lt b.1 r.x1) (side_above b.1 r ∷ []) [])

-- intervals taken away in turn, each from all that those before it left
unfoldable pub less_all : List Interval → List Rect → List Rect
less_all [] rs = rs
less_all (b ∷ bs) rs = less_all bs (flat_map (less_one b) rs)

-- ---- sharing

-- the part of r that an interval has too
abbrev pub shared_part : Rect → Interval → Rect
shared_part r b = record { x0 = greater r.x0 b.0; y0 = r.y0; x1 = lesser r.x1 b.1; y1 = r.y1 }

-- ---- two rings

-- the pieces of one rectangle, by the intervals of the second ring; a width counts only above 1e-15
unfoldable pub pieces_of : Operation → List Interval → Rect → List Rect
pieces_of Minus bs r = flat_map wide (less_all bs (r ∷ []))
pieces_of Intersection bs r = flat_map (λ b. wide (shared_part r b)) bs

-- the crossings of the second ring on the line at height y, sorted: none under 3 points
unfoldable pub covered_at : List Float → Float → List Float
covered_at b y = cond (leb 3 (points_in b)) (sorted (crossings_at b y)) []

-- the pieces between two neighbouring heights: those of the first ring's intervals, left to right; none where the upper is not above the lower
unfoldable pub band_pieces : Operation → List Float → List Float → Interval → List Rect
band_pieces op a b band =
    let y = line_between band.0 band.1 in
    cond (le band.1 band.0) [] (flat_map (λ s. pieces_of op (paired (covered_at b y)) (rect_over band.0 band.1 s)) (intervals_at a y))

-- a first ring under 3 points gives nothing; a second one takes nothing away, and shares nothing
unfoldable pub enough : Operation → ℕ → ℕ → Bool
enough Minus na nb = leb 3 na
enough Intersection na nb = leb 3 na && leb 3 nb

-- the pieces between all neighbouring heights of ys, upward
unfoldable pub pieces_between : Operation → List Float → List Float → List Float → List Rect
pieces_between op a b ys = cond (enough op (points_in a) (points_in b)) (flat_map (band_pieces op a b) (neighbours ys)) []

-- a less b, and what a and b share
unfoldable pub minus_rects : List Float → List Float → List Rect
minus_rects a b = pieces_between Minus a b (bands_of a b)

unfoldable pub intersection_rects : List Float → List Float → List Rect
intersection_rects a b = pieces_between Intersection a b (bands_of a b)
