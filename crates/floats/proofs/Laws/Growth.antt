-- `round` keeps the order: of two fractions, signs counted, the larger is rounded to no less, also where it overflows to an infinity.
-- A rounded value stands on the scale of the smallest f64 values, which ends where values overflow.
use mathlib.Core.Path.{◌≡◌, refl, sym, ◌∙◌, subst}
use Prim.Native.Nat.{ℕ, ◌+◌, ◌*◌, ◌^◌, ◌≤◌, ◌<◌, min}
use native.Mathlib.Nat.{zero-mul, mul-le-mul_right, le_of_mul-le-mul_right}
use native.Mathlib.Omega.{arith}
use mathlib.Core.Bool.{Bool, true, false, not, cond}
use lib.Dec.{T, ltb, ltb→lt, nltb→le}
use lib.Pow.{pow_pos}
use lib.Ieee.{Float, nan, inf, fin, binary64, odd, units, round, le}
use lib.Ieee.Fits.{round_is}
use lib.Ieee.Exact.{HasValue, odd_sign}
use lib.Ieee.Order.{kept, drop, round_mono}
use lib.Ieee.Scale.{grid, overflow}
use Rattle.floats.specs.Scaled.{negative}
use Rattle.floats.specs.Kinds.{negative_zero}
use Rattle.lists.proofs.Laws.Tests.{told}
use Rattle.floats.proofs.Laws.Scale.{Scale, On, Stands, le_says, says_le, on_unsigned}
use Rattle.floats.proofs.Laws.Rounding.{round_near, round_near_whole, under_overflow}

-- parts of 2 ^ -1074, and the end where values overflow
abbrev pub f64_scale : Scale
f64_scale = record { part = 2 ^ 1074; end = overflow binary64; some = pow_pos 1074; long = pow_pos 2098 }

-- the place of num / den, rounded
unfoldable pub placed : ℕ → ℕ → ℕ
placed num den = min (grid binary64 num den) (overflow binary64)

value_stands : (x : Float) (s : Bool) (a : ℕ) (S : Scale) → HasValue x s a S.part → a < S.end → (negative x ≡ s) × Stands x a S
value_stands nan s a S h l = absurd h
value_stands (inf t) s a S h l = absurd h
value_stands (fin t m e) s a S h l = (h.0, (h.1, l))

lower : (n b : ℕ) → n < b → min n b ≡ n
lower n b h = omega arith

higher : (n b : ℕ) → b ≤ n → min n b ≡ b
higher n b h = omega arith

units_stands : (s : Bool) (q k : ℕ) → (negative (units binary64 s q k) ≡ s) × Stands (units binary64 s q k) (min (q * 2 ^ k) (overflow binary64)) f64_scale
unfolding units
units_stands s q k = go (ltb (q * 2 ^ k) (overflow binary64)) (ltb→lt (q * 2 ^ k) (overflow binary64)) (nltb→le (q * 2 ^ k) (overflow binary64))
  where
    go : (b : Bool) → (T b → q * 2 ^ k < overflow binary64) → (T (not b) → overflow binary64 ≤ q * 2 ^ k)
        → (negative (cond b (odd 54 s q k 1074) (inf s)) ≡ s) × Stands (cond b (odd 54 s q k 1074) (inf s)) (min (q * 2 ^ k) (overflow binary64)) f64_scale
    go true h g = rw (lower (q * 2 ^ k) (overflow binary64) (h tt)) (value_stands (odd 54 s q k 1074) s (q * 2 ^ k) f64_scale (odd_sign 54 s q k 1074) (h tt))
    go false h g = (refl, higher (q * 2 ^ k) (overflow binary64) (g tt))

module _ (s : Bool) (num den : ℕ) where
  pub round_stands : (negative (round binary64 s num den) ≡ s) × Stands (round binary64 s num den) (placed num den) f64_scale
  unfolding placed
  round_stands =
      subst (λ (x : Float). (negative x ≡ s) × Stands x (placed num den) f64_scale) (sym (round_is binary64 s num den))
      (units_stands s (kept 53 (num * 2 ^ 1074) den) (drop 53 (num * 2 ^ 1074) den))

  pub round_negative : negative (round binary64 s num den) ≡ s
  round_negative = round_stands.0

  unfoldable pub round_on : On f64_scale (round binary64 s num den)
  round_on = record { at = placed num den; stands = round_stands.1 }

-- ---- sizes
-- a larger fraction stands no lower
pub placed_grows : (a b c d : ℕ) → 0 < b → 0 < d → a * d ≤ c * b → placed a b ≤ placed c d
unfolding round_on
placed_grows a b c d B D h =
    let k = le_says (round_on false a b) (round_on false c d) (told (round_mono binary64 a b c d B D h)) in
    ends (rw (round_negative false a b, round_negative false c d) at k)
  where
    ends : placed a b + 0 ≤ placed c d + 0 → placed a b ≤ placed c d
    ends h = omega arith

-- nothing is rounded to nothing, and a whole number of units to something
pub grid_none : (den : ℕ) → 0 < den → grid binary64 0 den ≡ 0
grid_none den D = go (grid binary64 0 den) (rw (zero-mul (2 ^ 1074)) at (round_near 0 den D).0)
  where
    go : (g : ℕ) → 2 ^ 53 * (g * den) ≤ 2 ^ 53 * 0 + (0 + 2 ^ 52 * den) → g ≡ 0
    go g h =
        let k : 2 * g * den ≤ 1 * den = omega arith in
        let l : 2 * g ≤ 1 = le_of_mul-le-mul_right k D in
        omega arith

grid_some : (w : ℕ) → 0 < w → 0 < grid binary64 w (2 ^ 1074)
grid_some w W = go (grid binary64 w (2 ^ 1074)) (round_near_whole w).1
  where
    go : (g : ℕ) → 2 ^ 53 * w ≤ 2 ^ 53 * g + w → 0 < g
    go g h = omega arith

least : (n b : ℕ) → 0 < n → 0 < b → 0 < min n b
least n b h k = omega arith

pub placed_none : (den : ℕ) → 0 < den → placed 0 den ≡ 0
unfolding placed
placed_none den D = rw (grid_none den D) (lower 0 (overflow binary64) (pow_pos 2098))

pub placed_some : (w : ℕ) → 0 < w → 0 < placed w (2 ^ 1074)
unfolding placed
placed_some w W = least (grid binary64 w (2 ^ 1074)) (overflow binary64) (grid_some w W) (pow_pos 2098)

pub placed_is : (num den : ℕ) → 0 < den → num ≤ den * 2 ^ 1022 → placed num den ≡ grid binary64 num den
unfolding placed
placed_is num den D l = lower (grid binary64 num den) (overflow binary64) (under_overflow num den D l)

pub grid_grows : (a b c d : ℕ) → 0 < b → 0 < d → a ≤ b * 2 ^ 1022 → c ≤ d * 2 ^ 1022 → a * d ≤ c * b → grid binary64 a b ≤ grid binary64 c d
grid_grows a b c d B D k l h = rw (← (placed_is a b B k), ← (placed_is c d D l)) (placed_grows a b c d B D h)

-- ---- with signs
signed_grows : (s t : Bool) (w v c : ℕ) → 0 < c → cond s 0 w + cond t v 0 ≤ cond t 0 v + cond s w 0
    → cond s 0 (placed w c) + cond t (placed v c) 0 ≤ cond t 0 (placed v c) + cond s (placed w c) 0
signed_grows false false w v c C h = omega (arith, placed_grows w c v c C C (mul-le-mul_right c (omega arith)))
signed_grows true true w v c C h = omega (arith, placed_grows v c w c C C (mul-le-mul_right c (omega arith)))
signed_grows true false w v c C h = omega arith
signed_grows false true w v c C h =
    let i : w ≡ 0 = omega arith in
    let j : v ≡ 0 = omega arith in
    rw (i, j, placed_none c C) (omega arith)

pub round_le : (s t : Bool) (w v c : ℕ) → 0 < c → cond s 0 w + cond t v 0 ≤ cond t 0 v + cond s w 0 → le (round binary64 s w c) (round binary64 t v c) ≡ true
unfolding round_on
round_le s t w v c C h = says_le (round_on s w c) (round_on t v c) (rw (round_negative s w c, round_negative t v c) (signed_grows s t w v c C h))

-- ---- a negative zero comes of nothing only
pub round_off_zero : (s : Bool) (num den : ℕ) → (s ≡ true → 0 < placed num den) → negative_zero (round binary64 s num den) ≡ false
unfolding round_on
round_off_zero s num den h = on_unsigned (round_on s num den) (λ n. h (sym (round_negative s num den) ∙ n))

pub round_unsigned : (s : Bool) (w : ℕ) → (s ≡ true → 0 < w) → negative_zero (round binary64 s w (2 ^ 1074)) ≡ false
round_unsigned s w h = round_off_zero s w (2 ^ 1074) (λ n. placed_some w (h n))
