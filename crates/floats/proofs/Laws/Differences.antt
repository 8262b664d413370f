-- The sign of a difference is that of the order, and it is zero only between equals: a difference of two f64 values is a whole number of units,
-- and what is not nothing is not rounded to nothing.
use mathlib.Core.Path.{◌≡◌, refl, sym, ap, ap₂, ◌∙◌}
use mathlib.Core.Logic.{◌⊎◌, inl, inr}
use Prim.Native.Nat.{ℕ, ◌+◌, ◌*◌, ◌^◌, ◌≤◌, ◌<◌, suc}
use native.Mathlib.Nat.{le_trans, le_of_eq, pow-succ', eq-zero-or-pos, add_comm}
use native.Mathlib.Omega.{arith}
use mathlib.Core.Bool.{Bool, true, false, cond}
use lib.IntN.{pos}
use lib.Dec.{T, leb, ltb}
use lib.Pow.{pow_pos}
use lib.Ieee.{Float, nan, inf, fin, binary64, fits, of_bits, round, sub, neg, lt, le}
use lib.Ieee.Scale.{finite, grid}
use borrow.Author.Tests.{leb-true, leb-false}
use Rattle.floats.specs.Scaled.{mag, negative, over, under, Near}
use Rattle.floats.specs.Kinds.{is_number, negative_zero, plain}
use Rattle.lists.proofs.Laws.Tests.{never, by_cases}
use Rattle.floats.proofs.Laws.Distance.{Split, split}
use Rattle.floats.proofs.Laws.Scale.{On, less_alike, lt_on}
use Rattle.floats.proofs.Laws.Kinds.{is_plain, plain_unsigned}
use Rattle.floats.proofs.Laws.Order.{lt_irrefl}
use Rattle.floats.proofs.Laws.Value.{Known, known, own_size, neg_known, neg_over, neg_under}
use Rattle.floats.proofs.Laws.Units.{lt_is, le_units}
use Rattle.floats.proofs.Laws.Equality.{lt_neither}
use Rattle.floats.proofs.Laws.Growth.{f64_scale, placed, placed_none, placed_some, round_negative, round_on}
use Rattle.floats.proofs.Laws.Sums.{Signed, Rounded, units_summed, add_number, add_unsigned, sub_rounded, rounded_within, exactly}
use Rattle.floats.proofs.Laws.Exactness.{power_own}

-- 0.0 as the code writes it
abbrev pub nought : Float
nought = of_bits binary64 0

nought_is : nought ≡ fin false 0 (pos 0)
unfolding of_bits
nought_is = refl

round_nothing : round binary64 false 0 (2 ^ 1074) ≡ nought
unfolding round of_bits
round_nothing = refl

-- ---- the difference, before it is rounded
pub record Difference (x y r : Float) : Type 0 where
  pub sign : Bool
  pub size : ℕ
  pub value : Signed sign (over x + under y) (under x + over y) size
  pub minus : sign ≡ true → (0 < size) ⊎ ((negative x ≡ true) × (negative (neg y) ≡ true))
  pub is : r ≡ round binary64 sign size (2 ^ 1074)

module _ (x y : Float) (X : Known x) (Y : Known y) where
  pub difference : Difference x y (sub binary64 x y)
  unfolding sub
  difference =
      let U = units_summed x (neg y) X (neg_known y Y) in
      record { sign = U.sign; size = U.size; value = rw (neg_over y Y, neg_under y Y) at U.value; minus = U.minus; is = U.is }

-- ---- against zero
nought_on : On f64_scale (fin false 0 (pos 0))
nought_on = record { at = 0; stands = (refl, pow_pos 2098) }

-- something is rounded to something, nothing to nothing
module _ (p n w g : ℕ) (some : 0 < w → 0 < g) (none : w ≡ 0 → g ≡ 0) where
  kept_sign : 0 < g → 0 < w
  kept_sign h = elim (eq-zero-or-pos w) [ inl z ↦ let e = none z in absurd (omega arith) | inr k ↦ k ]

  above : (s : Bool) → Signed s p n w → ltb (0 + cond s g 0) (cond s 0 g + 0) ≡ ltb n p
  above false v = less_alike 0 (g + 0) n p (λ h. let k = kept_sign (omega arith) in omega arith) (λ h. let k = some (omega arith) in omega arith)
  above true v = less_alike (0 + g) (0 + 0) n p (λ h. omega arith) (λ h. omega arith)

  below : (s : Bool) → Signed s p n w → ltb (cond s 0 g + 0) (0 + cond s g 0) ≡ ltb p n
  below false v = less_alike (g + 0) (0 + 0) p n (λ h. omega arith) (λ h. omega arith)
  below true v = less_alike (0 + 0) (0 + g) p n (λ h. let k = kept_sign (omega arith) in omega arith) (λ h. let k = some (omega arith) in omega arith)

module _ (s : Bool) (p n w : ℕ) (v : Signed s p n w) where
  round_above : lt nought (round binary64 s w (2 ^ 1074)) ≡ ltb n p
  unfolding round_on nought_on
  round_above =
      let g = placed w (2 ^ 1074) in
      let h : lt (fin false 0 (pos 0)) (round binary64 s w (2 ^ 1074)) ≡ ltb (0 + cond s g 0) (cond s 0 g + 0) = rw (round_negative s w (2 ^ 1074)) at (lt_on nought_on (round_on s w (2 ^ 1074))) in
      rw nought_is (h ∙ above p n w g (placed_some w) (λ e. rw e (placed_none (2 ^ 1074) (pow_pos 1074))) s v)

  round_below : lt (round binary64 s w (2 ^ 1074)) nought ≡ ltb p n
  unfolding round_on nought_on
  round_below =
      let g = placed w (2 ^ 1074) in
      let h : lt (round binary64 s w (2 ^ 1074)) (fin false 0 (pos 0)) ≡ ltb (cond s 0 g + 0) (0 + cond s g 0) = rw (round_negative s w (2 ^ 1074)) at (lt_on (round_on s w (2 ^ 1074)) nought_on) in
      rw nought_is (h ∙ below p n w g (placed_some w) (λ e. rw e (placed_none (2 ^ 1074) (pow_pos 1074))) s v)

module _ (x y : Float) (X : Known x) (Y : Known y) where
  -- x - y is above zero exactly where y < x, and below zero exactly where x < y
  pub sub_above : lt nought (sub binary64 x y) ≡ lt y x
  sub_above =
      let D = difference x y X Y in
      ap (lt nought) D.is ∙ round_above D.sign (over x + under y) (under x + over y) D.size D.value
      ∙ ap (λ (n : ℕ). ltb n (over x + under y)) (add_comm (under x) (over y)) ∙ sym (lt_is y x Y X)

  pub sub_below : lt (sub binary64 x y) nought ≡ lt x y
  sub_below =
      let D = difference x y X Y in
      ap (λ (r : Float). lt r nought) D.is ∙ round_below D.sign (over x + under y) (under x + over y) D.size D.value
      ∙ ap (ltb (over x + under y)) (add_comm (under x) (over y)) ∙ sym (lt_is x y X Y)

  -- it is a number, and no negative zero if x is none
  pub sub_number : is_number (sub binary64 x y) ≡ true
  unfolding sub
  sub_number = add_number x (neg y) X (neg_known y Y)

  pub sub_unsigned : negative_zero x ≡ false → negative_zero (sub binary64 x y) ≡ false
  unfolding sub
  sub_unsigned z = add_unsigned x (neg y) X (neg_known y Y) z

  pub sub_plain : plain x ≡ true → plain (sub binary64 x y) ≡ true
  sub_plain p = is_plain (sub binary64 x y) sub_number (sub_unsigned (plain_unsigned x p))

-- ---- zero exactly between equals
both_signs : (x : Float) → Known x → negative x ≡ true → negative (neg x) ≡ true → ⊥
unfolding neg
both_signs nan X h k = X
both_signs (inf s) X h k = X
both_signs (fin true m e) X h k = never k refl
both_signs (fin false m e) X h k = never h refl

pub sub_self : (x : Float) → Known x → sub binary64 x x ≡ nought
sub_self x X =
    let D = difference x x X X in
    let (s, w) = alone D.sign (over x) (under x) D.size D.value D.minus in
    D.is ∙ ap₂ (λ (s : Bool) (w : ℕ). round binary64 s w (2 ^ 1074)) s w ∙ round_nothing
  where
    alone : (s : Bool) (p n w : ℕ) → Signed s (p + n) (n + p) w → (s ≡ true → (0 < w) ⊎ ((negative x ≡ true) × (negative (neg x) ≡ true))) → (s ≡ false) × (w ≡ 0)
    alone false p n w v m = (refl, omega arith)
    alone true p n w v m = elim (m refl) [ inl h ↦ absurd (omega arith) | inr h ↦ absurd (both_signs x X h.0 h.1) ]

pub sub_nought : (x y : Float) → T (fits binary64 x) → T (fits binary64 y) → T (finite x) → T (finite y) → plain x ≡ true → plain y ≡ true → sub binary64 x y ≡ nought → x ≡ y
sub_nought x y f g i j p q e =
    let X = known x f i in
    let Y = known y g j in
    lt_neither x y f g p q (sym (sub_below x y X Y) ∙ ap (λ (r : Float). lt r nought) e ∙ lt_irrefl nought) (sym (sub_above x y X Y) ∙ ap (lt nought) e ∙ lt_irrefl nought)

-- ---- sizes
-- the difference of two values of at most 2 ^ j units is at most twice that
pub sub_size : (x y : Float) (j : ℕ) → Known x → Known y → 2 ^ suc j ≤ 2 ^ 1074 * 2 ^ 1022 → mag x ≤ 2 ^ j → mag y ≤ 2 ^ j → mag (sub binary64 x y) ≤ 2 ^ suc j
sub_size x y j X Y l a b =
    le_trans (rounded_within (over x + under y) (under x + over y) (2 ^ suc j) (sub binary64 x y) (sub_rounded x y X Y (le_trans (both (mag x) (mag y) a b) l)) (wide (over x) (under x) (over y) (under y) (mag x) (mag y) (own_size x) (own_size y) a b) l)
    (le_of_eq (power_own (suc j) l))
  where
    both : (x y : ℕ) → x ≤ 2 ^ j → y ≤ 2 ^ j → x + y ≤ 2 ^ suc j
    both x y a b = rw (pow-succ' 2 j) (omega arith)

    wide : (xp xn yp yn x y : ℕ) → Near x xp xn → Near y yp yn → x ≤ 2 ^ j → y ≤ 2 ^ j → Near (2 ^ suc j) (xp + yn) (xn + yp)
    wide xp xn yp yn x y h k a b = rw (pow-succ' 2 j) (omega arith)

some : (t a : ℕ) → t < a → 0 < a
some t a h = omega arith

one_part : (x : Float) → 0 < over x → (under x ≡ 0) × (mag x ≡ over x)
one_part x h = go (negative x) (mag x) h
  where
    go : (s : Bool) (g : ℕ) → 0 < cond s 0 g → (cond s g 0 ≡ 0) × (g ≡ cond s 0 g)
    go true g h = absurd (omega arith)
    go false g h = (refl, refl)

-- p - n is rounded to more than t units, and t to itself: then p - n is more than t
over_grid : (p n t : ℕ) (r : Float) → Rounded p n r → t ≤ 2 ^ 1074 * 2 ^ 1022 → grid binary64 t (2 ^ 1074) ≡ t → t < over r → n + t < p
over_grid p n t r R l own h = go (split p n) (one_part r (some t (over r) h))
  where
    not_under : (rp rn i : ℕ) → n ≡ p + i → rn ≡ 0 → 0 < rp → 2 ^ 53 * (rp + n) ≤ 2 ^ 53 * (rn + p) + i → ⊥
    not_under rp rn i e z h k = omega arith

    clash : (g rp : ℕ) → t < rp → g ≡ rp → g ≤ t → ⊥
    clash g rp h e k = omega arith

    go : Split p n → (under r ≡ 0) × (mag r ≡ over r) → n + t < p
    go (inr i) o = absurd (not_under (over r) (under r) i.0 i.1 o.0 (some t (over r) h) (R.near i.0 (exactly p n i.0 (inr i.1))).0)
    go (inl i) o =
        by_cases (leb i.0 t)
        (λ b. absurd (clash (mag r) (over r) h o.1 (le_trans (rounded_within p n t r R (exactly_within i.0 i.1 (leb-true i.0 t b)) l) (le_of_eq own))))
        (λ b. beyond i.0 i.1 (leb-false i.0 t b))
      where
        exactly_within : (i : ℕ) → p ≡ n + i → i ≤ t → Near t p n
        exactly_within i e h = omega arith

        beyond : (i : ℕ) → p ≡ n + i → t < i → n + t < p
        beyond i e h = omega arith

-- where the rounded difference is at or above a value of more than 2 ^ j units, the two are more than 2 ^ j units apart
pub sub_apart : (x y d : Float) (j : ℕ) → Known x → Known y → Known d → mag x + mag y ≤ 2 ^ 1074 * 2 ^ 1022 → 2 ^ j ≤ 2 ^ 1074 * 2 ^ 1022 → 2 ^ j < over d
    → le d (sub binary64 x y) ≡ true → over y + under x + 2 ^ j < over x + under y
sub_apart x y d j X Y D l m big h =
    let r = sub binary64 x y in
    let R = sub_rounded x y X Y l in
    rw (add_comm (over y) (under x))
    (over_grid (over x + under y) (under x + over y) (2 ^ j) r R m (power_own j m)
    (more (2 ^ j) (over d) (under d) (over r) (under r) big (one_part d (some (2 ^ j) (over d) big)).0 (le_units d r D R.known h)))
  where
    more : (t dp dn rp rn : ℕ) → t < dp → dn ≡ 0 → dp + rn ≤ rp + dn → t < rp
    more t dp dn rp rn a b c = omega arith
