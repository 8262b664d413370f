-- What a box says of each of its points, and where its corners come from; the box of a ring with one point more. Assumes nothing.
use Rattle.std.proofs.Common.{◌≡◌, ℕ, zero, suc, ◌+◌, ◌*◌, ◌<◌, ◌≤◌, Bool, true, false, T, eqb, ltb, List, [], ◌∷◌, ◌++◌, length, get_or, refl, ap, ◌∙◌, arith, length-append, get_or-append-add, ltb-false, ltb-true, eqb-true}
use borrow.Author.Tests.{eqb-false}
use lib.ListN.{get_or-append}
use lib.Ieee.{Float, nan, lt, le}
use lib.Ieee.Scale.{finite}
use Rattle.lists.specs.All.{AllOf}
use Rattle.lists.proofs.Laws.All.{all_at}
use Rattle.lists.proofs.Laws.Tests.{by_cases, never}
use Rattle.floats.specs.Kinds.{is_number}
use Rattle.floats.proofs.Laws.Order.{lt_trans, lt_irrefl, le_trans, le_not_lt, not_lt, lt_top, bottom_lt}
use Rattle.floats.proofs.Laws.Kinds.{finite_number}
use Rattle.geometry.specs.declared.ring.Point.{Point}
use Rattle.geometry.specs.declared.boxes.Bbox.{Bbox}
use Rattle.geometry.specs.Number.{lesser, greater}
use Rattle.geometry.specs.Ring.{points_in, point_at}
use Rattle.geometry.specs.Boxes.{empty_box, is_empty, extended, box_of_first, box_of}

-- ---- the lesser and the greater of two

-- nothing is below the lesser of two that was not below both
lesser_low : (m q p : Float) → lt p m ≡ false → lt p (lesser m q) ≡ false
unfolding lesser
lesser_low m q p h =
    by_cases (lt q m) (λ b. rw b (by_cases (lt p q) (λ t. never (lt_trans p q m t b) h) (λ t. t))) (λ b. rw b h)

lesser_self : (m q : Float) → lt q (lesser m q) ≡ false
unfolding lesser
lesser_self m q = by_cases (lt q m) (λ b. rw b (lt_irrefl q)) (λ b. rw (b, b))

greater_high : (m q p : Float) → lt m p ≡ false → lt (greater m q) p ≡ false
unfolding greater
greater_high m q p h =
    by_cases (lt m q) (λ b. rw b (by_cases (lt q p) (λ t. never (lt_trans m q p b t) h) (λ t. t))) (λ b. rw b h)

greater_self : (m q : Float) → lt (greater m q) q ≡ false
unfolding greater
greater_self m q = by_cases (lt m q) (λ b. rw b (lt_irrefl q)) (λ b. rw (b, b))

-- the one or the other passes what both pass
pub lesser_tested : (test : Float → Bool) (a b : Float) → test a ≡ true → test b ≡ true → test (lesser a b) ≡ true
unfolding lesser
lesser_tested test a b p q = by_cases (lt b a) (λ t. rw t q) (λ t. rw t p)

pub greater_tested : (test : Float → Bool) (a b : Float) → test a ≡ true → test b ≡ true → test (greater a b) ≡ true
unfolding greater
greater_tested test a b p q = by_cases (lt a b) (λ t. rw t q) (λ t. rw t p)

-- ---- what a box says of its points

-- the point is nowhere outside the box
pub record Inside (p : Point) (b : Bbox) : Type 0 where
  pub left : lt p.x b.min_x ≡ false
  pub below : lt p.y b.min_y ≡ false
  pub right : lt b.max_x p.x ≡ false
  pub above : lt b.max_y p.y ≡ false

inside_more : (p q : Point) (b : Bbox) → Inside p b → Inside p (extended b q)
unfolding extended
inside_more p q b i =
    record { left = lesser_low _ _ _ i.left; below = lesser_low _ _ _ i.below; right = greater_high _ _ _ i.right; above = greater_high _ _ _ i.above }

inside_new : (p : Point) (b : Bbox) → Inside p (extended b p)
unfolding extended
inside_new p b = record { left = lesser_self _ _; below = lesser_self _ _; right = greater_self _ _; above = greater_self _ _ }

inside_first : (ring : List Float) (k i : ℕ) → i < k → Inside (point_at ring i) (box_of_first ring k)
unfolding box_of_first
inside_first ring zero i h = absurd (omega arith)
inside_first ring (suc k) i h =
    by_cases (ltb i k) (λ e. inside_more _ _ _ (inside_first ring k i (ltb-true i k e)))
    (λ e. let last : i ≡ k = omega (arith, ltb-false i k e) in rw last (inside_new _ _))

-- every point of a ring is inside the ring's box
pub inside_box : (ring : List Float) (i : ℕ) → i < points_in ring → Inside (point_at ring i) (box_of ring)
unfolding box_of
inside_box ring i h = inside_first ring (points_in ring) i h

-- ---- where a box's corners come from

-- each side of the box passes a test
pub record Tested (test : Float → Bool) (b : Bbox) : Type 0 where
  pub left : test b.min_x ≡ true
  pub below : test b.min_y ≡ true
  pub right : test b.max_x ≡ true
  pub above : test b.max_y ≡ true

module _ (test : Float → Bool) (bounded : (x : Float) → test x ≡ true → T (finite x)) (ring : List Float) (all : AllOf test ring) where
  at_x : (i : ℕ) → i < points_in ring → test (point_at ring i).x ≡ true
  unfolding point_at
  at_x i h = all_at test ring (2 * i) nan all (omega arith)

  at_y : (i : ℕ) → i < points_in ring → test (point_at ring i).y ≡ true
  unfolding point_at
  at_y i h = all_at test ring (2 * i + 1) nan all (omega arith)

  tested_one : (p : Point) → test p.x ≡ true → test p.y ≡ true → Tested test (extended empty_box p)
  unfolding empty_box extended lesser greater
  tested_one p tx ty =
      record {
        left = rw (lt_top _ (bounded _ tx)) tx;
        below = rw (lt_top _ (bounded _ ty)) ty;
        right = rw (bottom_lt _ (bounded _ tx)) tx;
        above = rw (bottom_lt _ (bounded _ ty)) ty;
      }

  tested_more : (b : Bbox) (p : Point) → Tested test b → test p.x ≡ true → test p.y ≡ true → Tested test (extended b p)
  unfolding extended
  tested_more b p t tx ty =
      record {
        left = lesser_tested test _ _ t.left tx;
        below = lesser_tested test _ _ t.below ty;
        right = greater_tested test _ _ t.right tx;
        above = greater_tested test _ _ t.above ty;
      }

  tested_first : (k : ℕ) → suc k ≤ points_in ring → Tested test (box_of_first ring (suc k))
  unfolding box_of_first
  tested_first zero h = tested_one (point_at ring 0) (at_x 0 h) (at_y 0 h)
  tested_first (suc k) h = tested_more _ _ (tested_first k (omega arith)) (at_x (suc k) h) (at_y (suc k) h)

  -- the sides of the box of a ring that has a point are coordinates of its points
  pub box_tested : 0 < points_in ring → Tested test (box_of ring)
  unfolding box_of
  box_tested h = from (points_in ring) h (omega arith)
    where
      from : (n : ℕ) → 0 < n → n ≤ points_in ring → Tested test (box_of_first ring n)
      from zero some le = absurd (omega arith)
      from (suc k) some le = tested_first k le

  -- no side lies beyond the opposite one
  box_some : 0 < points_in ring → is_empty (box_of ring) ≡ false
  unfolding is_empty
  box_some h =
      let t = box_tested h in
      let i = inside_box ring 0 h in
      let n : (x : Float) → test x ≡ true → is_number x ≡ true = λ x u. finite_number x (bounded x u) in
      let across = le_trans _ _ _ (not_lt _ _ (n _ (at_x 0 h)) (n _ t.left) i.left) (not_lt _ _ (n _ t.right) (n _ (at_x 0 h)) i.right) in
      let up = le_trans _ _ _ (not_lt _ _ (n _ (at_y 0 h)) (n _ t.below) i.below) (not_lt _ _ (n _ t.above) (n _ (at_y 0 h)) i.above) in
      rw (le_not_lt _ _ across, le_not_lt _ _ up)

  -- the box of finite coordinates is empty exactly when there is no point
  pub box_empty : is_empty (box_of ring) ≡ eqb (points_in ring) 0
  unfolding is_empty box_of box_of_first empty_box lt
  box_empty = by_cases (eqb (points_in ring) 0) (λ e. rw (eqb-true (points_in ring) 0 e)) (λ e. rw e (box_some (positive _ (eqb-false _ 0 e))))
    where
      positive : (n : ℕ) → (n ≡ 0 → ⊥) → 0 < n
      positive zero h = absurd (h refl)
      positive (suc n) h = omega arith

-- ---- one point more

module _ (ring : List Float) (x y : Float) where
  same_first : (k : ℕ) → k ≤ points_in ring → box_of_first (ring ++ (x ∷ y ∷ [])) k ≡ box_of_first ring k
  unfolding box_of_first point_at
  same_first zero h = refl
  same_first (suc k) h =
      rw (same_first k (omega arith), get_or-append ring (x ∷ y ∷ []) nan (2 * k) (omega arith), get_or-append ring (x ∷ y ∷ []) nan (2 * k + 1) (omega arith))

  -- the box of a ring with a point behind it
  pub box_append : length ring ≡ 2 * points_in ring → box_of (ring ++ (x ∷ y ∷ [])) ≡ extended (box_of ring) (record { x = x; y = y })
  unfolding box_of point_at box_of_first
  box_append even =
      let more : points_in (ring ++ (x ∷ y ∷ [])) ≡ suc (points_in ring) = rw length-append (omega arith) in
      let at_x : get_or (ring ++ (x ∷ y ∷ [])) (2 * points_in ring) nan ≡ x = rw (← even) (ap (λ (k : ℕ). get_or (ring ++ (x ∷ y ∷ [])) k nan) (omega arith) ∙ get_or-append-add ring (x ∷ y ∷ []) 0 nan) in
      let at_y : get_or (ring ++ (x ∷ y ∷ [])) (2 * points_in ring + 1) nan ≡ y = rw (← even) (get_or-append-add ring (x ∷ y ∷ []) 1 nan) in
      rw (more, same_first (points_in ring) (omega arith), at_x, at_y)
