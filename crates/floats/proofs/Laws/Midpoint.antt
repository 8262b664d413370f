-- 0.5 * (x + y), as it is computed, lies between x and y: 2 x and 2 y are f64 values, so that neither rounding passes them.
use mathlib.Core.Path.{◌≡◌, refl, sym, ap, ap₂, ◌∙◌}
use mathlib.Core.Logic.{inl, inr}
use Prim.Native.Nat.{ℕ, zero, suc, ◌+◌, ◌*◌, ◌^◌, ◌≤◌, ◌<◌}
use native.Mathlib.Nat.{lt_of_lt_of_le, mul-pos, mul-le-mul_right, eq-or-lt_of_le, pow-succ'}
use native.Mathlib.Omega.{arith}
use mathlib.Core.Bool.{Bool, true, false, cond}
use lib.IntN.{pos, negsuc}
use lib.Dec.{T, lit<}
use lib.Pow.{pow_pos}
use lib.Ieee.{Float, fin, binary64, fits, of_bits, round, unlike, add, mul, le}
use lib.Ieee.Exact.{HasValue}
use lib.Ieee.Scale.{finite, round_same}
use Rattle.floats.specs.Scaled.{mag, negative, over, under}
use Rattle.floats.specs.Kinds.{negative_zero}
use Rattle.floats.proofs.Laws.Order.{between_finite}
use Rattle.floats.proofs.Laws.Value.{Known, known, value_known, value_mag, value_sign}
use Rattle.floats.proofs.Laws.Units.{le_units}
use Rattle.floats.proofs.Laws.Growth.{round_le, round_negative, round_off_zero, placed_some, placed_grows}
use Rattle.floats.proofs.Laws.Sums.{Signed, units_summed, sum_some, add_rounded, rounded_at_least}
use Rattle.floats.proofs.Laws.Products.{mul_at}
use Rattle.floats.proofs.Laws.Exactness.{Short, mag_short, round_own, rounds_to_itself}

-- 0.5 as the code writes it
abbrev pub half : Float
half = of_bits binary64 0x3fe0_0000_0000_0000

half_is : half ≡ fin false 1 (negsuc 0)
unfolding of_bits
half_is = refl

-- ---- half of a known value
half_known : Known (fin false 1 (negsuc 0))
unfolding mag
half_known = (refl, refl)

half_mag : mag (fin false 1 (negsuc 0)) ≡ 2 ^ 1073
unfolding mag
half_mag = refl

halved : (s : Float) → Known s → mul binary64 half s ≡ round binary64 (negative s) (mag s) (2 * 2 ^ 1074)
halved s K =
    ap (λ (h : Float). mul binary64 h s) half_is ∙ mul_at (fin false 1 (negsuc 0)) s half_known K
    ∙ ap₂ (λ (t : Bool) (n : ℕ). round binary64 t (n * mag s) (2 ^ 1074 * 2 ^ 1074)) (own_sign (negative s)) half_mag
    ∙ round_same binary64 (negative s) (2 ^ 1073 * mag s) (2 ^ 1074 * 2 ^ 1074) (mag s) (2 * 2 ^ 1074) (mul-pos (pow_pos 1074) (pow_pos 1074)) (pow_pos 1075) (doubled (2 ^ 1073) (2 ^ 1074) (mag s) refl)
  where
    own_sign : (t : Bool) → unlike false t ≡ t
    own_sign true = refl
    own_sign false = refl

    doubled : (h u g : ℕ) → u ≡ 2 * h → h * g * (2 * u) ≡ g * (u * u)
    doubled h u g e = let k : u * (g * u) ≡ 2 * h * (g * u) = ap (λ (z : ℕ). z * (g * u)) e in omega arith

-- ---- twice a value that f64 holds
twice_short : (n : ℕ) → Short n → Short (2 * n)
twice_short n h = (h.0, suc h.1, h.2, ap (λ (z : ℕ). 2 * z) h.3 ∙ moved h.0 h.1)
  where
    moved : (q j : ℕ) → 2 * (q * 2 ^ j) ≡ q * 2 ^ suc j
    moved q j = rw (pow-succ' 2 j) (omega arith)

-- 2 z is rounded to itself
double : (z : Float) → T (fits binary64 z) → T (finite z) → 2 * mag z < 2 ^ 2098 → HasValue (round binary64 (negative z) (2 * mag z) (2 ^ 1074)) (negative z) (2 * mag z) (2 ^ 1074)
double z f i b = rounds_to_itself (negative z) (2 * mag z) (twice_short (mag z) (mag_short z f i)) b

-- z itself, as the rounding of 2 z by halves
own_halved : (z : Float) → T (fits binary64 z) → T (finite z) → z ≡ round binary64 (negative z) (2 * mag z) (2 * 2 ^ 1074)
own_halved z f i = sym (round_own z f i) ∙ round_same binary64 (negative z) (mag z) (2 ^ 1074) (2 * mag z) (2 * 2 ^ 1074) (pow_pos 1074) (pow_pos 1075) (moved (mag z) (2 ^ 1074))
  where
    moved : (n u : ℕ) → n * (2 * u) ≡ 2 * n * u
    moved n u = omega arith

-- ---- 2 z against the sum
low_order : (s r : Bool) (m yp yn w : ℕ) → Signed r (cond s 0 m + yp) (cond s m 0 + yn) w → cond s 0 m + yn ≤ yp + cond s m 0 → cond s 0 (2 * m) + cond r w 0 ≤ cond r 0 w + cond s (2 * m) 0
low_order false false m yp yn w v h = omega arith
low_order false true m yp yn w v h = omega arith
low_order true false m yp yn w v h = omega arith
low_order true true m yp yn w v h = omega arith

high_order : (s r : Bool) (m xp xn w : ℕ) → Signed r (xp + cond s 0 m) (xn + cond s m 0) w → xp + cond s m 0 ≤ cond s 0 m + xn → cond r 0 w + cond s (2 * m) 0 ≤ cond s 0 (2 * m) + cond r w 0
high_order false false m xp xn w v h = omega arith
high_order false true m xp xn w v h = omega arith
high_order true false m xp xn w v h = omega arith
high_order true true m xp xn w v h = omega arith

twice_below : (a b t e : ℕ) → a + b ≤ t → 2 * t < e → (2 * a < e) × (2 * b < e)
twice_below a b t e h k = (omega arith, omega arith)

-- ---- where the sum is one unit below zero, both are next to zero
-- from 2 ^ 53 units on, every f64 is an even number of them
even_short : (n : ℕ) → Short n → 2 ^ 53 ≤ n → (k : ℕ) × (n ≡ 2 * k)
even_short n h l = go h.0 h.1 h.2 h.3
  where
    go : (q j : ℕ) → q < 2 ^ 53 → n ≡ q * 2 ^ j → (k : ℕ) × (n ≡ 2 * k)
    go q zero b e = absurd (omega arith)
    go q (suc j) b e = (q * 2 ^ j, e ∙ rw (pow-succ' 2 j) (omega arith))

not_one_below : (s t : Bool) (a b : ℕ) → Short a → Short b → cond s 0 a + cond t b 0 + 2 ^ 54 ≤ cond t 0 b + cond s a 0 → cond s a 0 + cond t b 0 ≡ cond s 0 a + cond t 0 b + 1 → ⊥
not_one_below false false a b h k l e = omega arith
not_one_below false true a b h k l e = omega arith
not_one_below true true a b h k l e = omega arith
not_one_below true false a b h k l e =
    let (i, f) = even_short a h (omega arith) in
    let (j, g) = even_short b k (omega arith) in
    omega arith

two_at_least : (w : ℕ) → 0 < w → (w ≡ 1 → ⊥) → 2 ≤ w
two_at_least w h k = elim (eq-or-lt_of_le h) [ inl e ↦ absurd (k (sym e)) | inr l ↦ l ]

still_two : (w g : ℕ) → 2 ≤ w → 2 ^ 53 * w ≤ 2 ^ 53 * g + w → 2 ≤ g
still_two w g h k = omega arith

-- ---- x ≤ y, of at most 2 ^ 1022 in size together
module _ (x y : Float) (fx : T (fits binary64 x)) (fy : T (fits binary64 y)) (ix : T (finite x)) (iy : T (finite y)) (l : mag x + mag y ≤ 2 ^ 1074 * 2 ^ 1022) (o : le x y ≡ true) where
  X : Known x
  X = known x fx ix

  Y : Known y
  Y = known y fy iy

  S : Known (add binary64 x y)
  S = (add_rounded x y X Y l).known

  room : (2 * mag x < 2 ^ 2098) × (2 * mag y < 2 ^ 2098)
  room = twice_below (mag x) (mag y) (2 ^ 1074 * 2 ^ 1022) (2 ^ 2098) l (lit< tt)

  from_low : cond (negative x) 0 (2 * mag x) + under (add binary64 x y) ≤ over (add binary64 x y) + cond (negative x) (2 * mag x) 0
  from_low =
      let U = units_summed x y X Y in
      let s = negative x in
      let d = round binary64 s (2 * mag x) (2 ^ 1074) in
      let v = double x fx ix room.0 in
      let h : le d (add binary64 x y) ≡ true = rw U.is (round_le s U.sign (2 * mag x) U.size (2 ^ 1074) (pow_pos 1074) (low_order s U.sign (mag x) (over y) (under y) U.size U.value (le_units x y X Y o))) in
      rw (value_sign d s (2 * mag x) v, value_mag d s (2 * mag x) v) at (le_units d (add binary64 x y) (value_known d s (2 * mag x) v) S h)

  to_high : over (add binary64 x y) + cond (negative y) (2 * mag y) 0 ≤ cond (negative y) 0 (2 * mag y) + under (add binary64 x y)
  to_high =
      let U = units_summed x y X Y in
      let s = negative y in
      let d = round binary64 s (2 * mag y) (2 ^ 1074) in
      let v = double y fy iy room.1 in
      let h : le (add binary64 x y) d ≡ true = rw U.is (round_le U.sign s U.size (2 * mag y) (2 ^ 1074) (pow_pos 1074) (high_order s U.sign (mag y) (over x) (under x) U.size U.value (le_units x y X Y o))) in
      rw (value_sign d s (2 * mag y) v, value_mag d s (2 * mag y) v) at (le_units (add binary64 x y) d S (value_known d s (2 * mag y) v) h)

  pub midpoint_low : le x (mul binary64 half (add binary64 x y)) ≡ true
  midpoint_low =
      let s = add binary64 x y in
      ap₂ le (own_halved x fx ix) (halved s S) ∙ round_le (negative x) (negative s) (2 * mag x) (mag s) (2 * 2 ^ 1074) (pow_pos 1075) from_low

  pub midpoint_high : le (mul binary64 half (add binary64 x y)) y ≡ true
  midpoint_high =
      let s = add binary64 x y in
      ap₂ le (halved s S) (own_halved y fy iy) ∙ round_le (negative s) (negative y) (mag s) (2 * mag y) (2 * 2 ^ 1074) (pow_pos 1075) to_high

  pub midpoint_finite : T (finite (mul binary64 half (add binary64 x y)))
  midpoint_finite = between_finite x (mul binary64 half (add binary64 x y)) y ix iy midpoint_low midpoint_high

  -- it is no negative zero if x is none and the two are 2 ^ 54 units apart or more
  module _ (z : negative_zero x ≡ false) (gap : over x + under y + 2 ^ 54 ≤ over y + under x) where
    two_below : negative (add binary64 x y) ≡ true → 2 ≤ mag (add binary64 x y)
    two_below n =
        let U = units_summed x y X Y in
        let minus : U.sign ≡ true = sym (ap negative U.is ∙ round_negative U.sign U.size (2 ^ 1074)) ∙ n in
        let v : under x + under y ≡ over x + over y + U.size = rw minus at U.value in
        let w : 2 ≤ U.size = two_at_least U.size (sum_some x y X Y z minus) (λ e. not_one_below (negative x) (negative y) (mag x) (mag y) (mag_short x fx ix) (mag_short y fy iy) gap (rw e at v)) in
        still_two U.size (mag (add binary64 x y)) w (rounded_at_least (over x + over y) (under x + under y) U.size (add binary64 x y) (add_rounded x y X Y l) (inr v))

    pub midpoint_unsigned : negative_zero (mul binary64 half (add binary64 x y)) ≡ false
    midpoint_unsigned =
        let s = add binary64 x y in
        rw (halved s S)
        (round_off_zero (negative s) (mag s) (2 * 2 ^ 1074)
        (λ n. lt_of_lt_of_le (placed_some 1 (lit< tt)) (placed_grows 1 (2 ^ 1074) (mag s) (2 * 2 ^ 1074) (pow_pos 1074) (pow_pos 1075) (mul-le-mul_right (2 ^ 1074) (two_below n)))))

-- next to zero it may be one: half the unit below zero is rounded to -0
beside_zero : mul binary64 half (add binary64 (fin true 1 (negsuc 1073)) (fin false 0 (pos 0))) ≡ fin true 0 (pos 0)
unfolding of_bits add mul
beside_zero = refl
