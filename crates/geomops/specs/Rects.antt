-- Rectangles: their area, ring and box, and lists of them, four numbers each.
use Rattle.std.specs.Prelude.{◌≡◌, ℕ, zero, suc, ◌+◌, ◌*◌, ◌-◌, ◌/◌, cond, List, [], ◌∷◌, ◌++◌, Result, Ok, Err, leb, length, get_or, take, drop, Float}
use Rattle.std.proofs.lemmas.List.Edits.{sets}
use Rattle.std.specs.Float.{nan, binary64}
use Rattle.std.specs.Float.Ieee.{add, sub, mul, lt}
use Rattle.geometry.specs.Number.{nought, resolution, greater}
use Rattle.geometry.specs.declared.boxes.Bbox.{Bbox}
use Rattle.geomops.specs.declared.rects.Rect.{Rect}
use Rattle.geomops.specs.declared.rects.NoRoom.{NoRoom}

-- width times height, each 0 where it is not above 0
unfoldable pub area_of : Rect → Float
area_of r = mul binary64 (greater nought (sub binary64 r.x1 r.x0)) (greater nought (sub binary64 r.y1 r.y0))

-- the five-point ring, the closing point repeated
unfoldable pub ring_of : Rect → List Float
ring_of r = r.x0 ∷ r.y0 ∷ r.x1 ∷ r.y0 ∷ r.x1 ∷ r.y1 ∷ r.x0 ∷ r.y1 ∷ r.x0 ∷ r.y0 ∷ []

unfoldable pub bbox_of : Rect → Bbox
bbox_of r = record { min_x = r.x0; min_y = r.y0; max_x = r.x1; max_y = r.y1 }

-- how many rectangles a list has room for
abbrev pub room_in : List Float → ℕ
room_in l = length l / 4

-- rectangle i of a list: x0, y0, x1, y1
unfoldable pub rect_at : List Float → ℕ → Rect
rect_at l i =
    record { x0 = get_or l (4 * i) nan; y0 = get_or l (4 * i + 1) nan; x1 = get_or l (4 * i + 2) nan; y1 = get_or l (4 * i + 3) nan }

-- the areas of the first k rectangles, summed from the first on
unfoldable pub area_sum : List Float → ℕ → Float
area_sum l zero = nought
area_sum l (suc k) = add binary64 (area_sum l k) (area_of (rect_at l k))

-- the area of all
unfoldable pub rects_area : List Float → Float
rects_area l = area_sum l (room_in l)

-- ---- rectangles written into a lent list

-- the numbers of rectangles, one behind the other
unfoldable pub numbers_of : List Rect → List Float
numbers_of [] = []
numbers_of (r ∷ rs) = r.x0 ∷ r.y0 ∷ r.x1 ∷ r.y1 ∷ numbers_of rs

-- a width counts only above 1e-15: r alone, or nothing
unfoldable pub wide : Rect → List Rect
wide r = cond (lt resolution (sub binary64 r.x1 r.x0)) (r ∷ []) []

-- the place behind rs, which begin at place p, or that there is no room for all
unfoldable pub place_behind : ℕ → ℕ → List Rect → Result ℕ NoRoom
place_behind room p rs = cond (leb (length rs) (room - p)) (Ok (p + length rs)) (Err (record {}))

-- `after` is `before` with rs from place p on, as far as there is room, and r is the place behind them
pub record Pushed (rs : List Rect) (before after : List Float) (p : ℕ) (r : Result ℕ NoRoom) : Type 0 where
  pub place : r ≡ place_behind (room_in before) p rs
  pub list : after ≡ sets before (4 * p) (numbers_of (take (room_in before - p) rs))

-- how many rs are, or that there are more than there is room for
unfoldable pub answer_of : ℕ → List Rect → Result ℕ NoRoom
answer_of room rs = cond (leb (length rs) room) (Ok (length rs)) (Err (record {}))

-- rs in front of the list, as many as there is room for; nothing changes behind them
unfoldable pub rects_front : List Rect → List Float → List Float
rects_front rs l = let held = take (room_in l) rs in numbers_of held ++ drop (4 * length held) l

-- the answer, and the list that came in as `before`
pub record Pieced (rs : List Rect) (before after : List Float) (r : Result ℕ NoRoom) : Type 0 where
  pub answer : r ≡ answer_of (room_in before) rs
  pub list : after ≡ rects_front rs before
