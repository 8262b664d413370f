-- What intervals leave of a rectangle: the sides that one leaves are taken away from by themselves. Assumes nothing.
use mathlib.Core.Path.{◌≡◌, refl, ap, ◌∙◌}
use Prim.Native.Nat.{◌-◌, ◌≤◌, ◌<◌}
use native.Mathlib.Omega.{arith}
use mathlib.Core.Bool.{true, false, cond}
use mathlib.Core.List.{List, [], ◌∷◌, ◌++◌, flat_map, append-nil}
use lib.ListN.{length, get_or, take, drop, length-drop}
use lib.Seq.{take_all}
use lib.Ieee.{Float, nan, lt}
use Rattle.lists.proofs.Laws.Tests.{by_cases}
use Rattle.lists.proofs.Laws.Each.{each_append, each_one}
use Rattle.geomops.specs.declared.rects.Rect.{Rect}
use Rattle.geomops.specs.declared.pieces.Operation.TheVariants.{Minus}
use Rattle.geomops.specs.Crossings.{Interval, paired}
use Rattle.geomops.specs.Rects.{wide}
use Rattle.geomops.specs.Pieces.{is_apart, side_below, side_above, less_one, less_all, pieces_of}
use Rattle.geomops.proofs.Laws.Pairs.{paired_short, paired_first}

less_all_append : (bs : List Interval) (rs ts : List Rect) → less_all bs (rs ++ ts) ≡ less_all bs rs ++ less_all bs ts
unfolding less_all
less_all_append [] rs ts = refl
less_all_append (b ∷ bs) rs ts =
    rw (each_append (less_one b) rs ts) (less_all_append bs (flat_map (less_one b) rs) (flat_map (less_one b) ts))

less_all_none : (bs : List Interval) → less_all bs [] ≡ []
unfolding less_all flat_map
less_all_none [] = refl
less_all_none (b ∷ bs) = less_all_none bs

-- what the intervals of bs leave of rs, the wide ones
left : List Interval → List Rect → List Rect
left bs rs = flat_map wide (less_all bs rs)

left_append : (bs : List Interval) (rs ts : List Rect) → left bs (rs ++ ts) ≡ left bs rs ++ left bs ts
unfolding left
left_append bs rs ts = rw (less_all_append bs rs ts) (each_append wide (less_all bs rs) (less_all bs ts))

left_none : (bs : List Interval) → left bs [] ≡ []
unfolding left flat_map
left_none bs = rw (less_all_none bs)

-- fewer than two numbers are no interval
pub left_short : (bs : List Float) (r : Rect) → length bs < 2 → pieces_of Minus (paired bs) r ≡ wide r
unfolding pieces_of less_all
left_short bs r h = rw (paired_short bs h) (each_one wide r)

-- the part that the code hands on
abbrev pub rest : List Float → List Float
rest bs = take (length bs - 2) (drop 2 bs)

less_all_first : (b : Interval) (bs : List Interval) (r : Rect) → less_all (b ∷ bs) (r ∷ []) ≡ less_all bs (less_one b r)
unfolding less_all
less_all_first b bs r = ap (less_all bs) (each_one (less_one b) r)

-- what the first interval leaves goes on to the rest
left_step : (bs : List Float) (r : Rect) → 2 ≤ length bs → pieces_of Minus (paired bs) r ≡ left (paired (rest bs)) (less_one (get_or bs 0 nan, get_or bs 1 nan) r)
unfolding pieces_of left
left_step bs r h =
    let all : rest bs ≡ drop 2 bs = take_all (length bs - 2) (drop 2 bs) (rw length-drop (omega arith)) in
    rw (all, paired_first bs h, less_all_first)

module _ (bs : List Float) (r : Rect) (two : 2 ≤ length bs) where
  pub left_apart : is_apart (get_or bs 0 nan) (get_or bs 1 nan) r ≡ true → pieces_of Minus (paired bs) r ≡ pieces_of Minus (paired (rest bs)) r
  unfolding pieces_of left less_one
  left_apart t = left_step bs r two ∙ rw t

  module _ (met : is_apart (get_or bs 0 nan) (get_or bs 1 nan) r ≡ false) where
    -- the side below comes first
    pub left_first : lt r.x0 (get_or bs 0 nan) ≡ true →
        pieces_of Minus (paired bs) r ≡ pieces_of Minus (paired (rest bs)) (side_below (get_or bs 0 nan) r) ++ cond (lt (get_or bs 1 nan) r.x1) (pieces_of Minus (paired (rest bs)) (side_above (get_or bs 1 nan) r)) []
    unfolding pieces_of left less_one
    left_first s =
        left_step bs r two
        ∙ by_cases (lt (get_or bs 1 nan) r.x1) (λ t. rw (met, s, t) (left_append (paired (rest bs)) (side_below (get_or bs 0 nan) r ∷ []) (side_above (get_or bs 1 nan) r ∷ [])))
        (λ t. rw (met, s, t, append-nil))

    pub left_both : lt r.x0 (get_or bs 0 nan) ≡ true → lt (get_or bs 1 nan) r.x1 ≡ true →
        pieces_of Minus (paired bs) r ≡ pieces_of Minus (paired (rest bs)) (side_below (get_or bs 0 nan) r) ++ pieces_of Minus (paired (rest bs)) (side_above (get_or bs 1 nan) r)
    left_both s t = left_first s ∙ rw t

    pub left_below : lt r.x0 (get_or bs 0 nan) ≡ true → lt (get_or bs 1 nan) r.x1 ≡ false →
        pieces_of Minus (paired bs) r ≡ pieces_of Minus (paired (rest bs)) (side_below (get_or bs 0 nan) r)
    left_below s t = left_first s ∙ rw (t, append-nil)

    pub left_above : lt r.x0 (get_or bs 0 nan) ≡ false → lt (get_or bs 1 nan) r.x1 ≡ true →
        pieces_of Minus (paired bs) r ≡ pieces_of Minus (paired (rest bs)) (side_above (get_or bs 1 nan) r)
    unfolding pieces_of left less_one
    left_above s t = left_step bs r two ∙ rw (met, s, t)

    pub left_nothing : lt r.x0 (get_or bs 0 nan) ≡ false → lt (get_or bs 1 nan) r.x1 ≡ false → pieces_of Minus (paired bs) r ≡ []
    unfolding less_one
    left_nothing s t = left_step bs r two ∙ rw (met, s, t) (left_none (paired (rest bs)))
