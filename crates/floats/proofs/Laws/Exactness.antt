-- Where nothing is lost: a value that f64 holds is rounded to itself, and adding a zero leaves it as it is.
use mathlib.Core.Path.{◌≡◌, refl, sym, ap, ap₂, ◌∙◌, subst}
use mathlib.Core.Logic.{◌⊎◌, inl, inr}
use Prim.Native.Nat.{ℕ, zero, suc, ◌+◌, ◌-◌, ◌*◌, ◌/◌, ◌%◌, ◌^◌, ◌≤◌, ◌<◌}
use native.Mathlib.Nat.{le_of_eq, lt_of_le_of_lt, lt_of_lt_of_le, div-lt_iff_lt-mul, mul-lt-mul_of_pos_right, mul_right_comm, mul-one, one-mul, mul_assoc, mul-div_cancel, zero-mul, div-one}
use native.Mathlib.Omega.{arith}
use mathlib.Core.Bool.{Bool, true, false, ◌&&◌, cond}
use lib.IntN.{ℤ, pos, negsuc}
use lib.Dec.{T, leb, ltb, eqb, leb→le, ltb→lt, lit<}
use lib.Pow.{pow-add, pow_pos}
use lib.Ieee.{Float, nan, inf, fin, binary64, up, down, fits, round, add}
use lib.Ieee.Fits.{down_pos, and_l, and_r, round-fits}
use lib.Ieee.Exact.{HasValue, round_exact}
use lib.Ieee.Scale.{finite, grid}
use Rattle.floats.specs.Scaled.{mag, negative}
use Rattle.floats.specs.Kinds.{negative_zero}
use Rattle.lists.proofs.Laws.Tests.{never}
use Rattle.floats.proofs.Laws.Rounding.{round_value}
use Rattle.floats.proofs.Laws.Value.{Known, known_finite, value_finite, value_mag, value_sign, power_divides, low_enough, unsigned_mag}
use Rattle.floats.proofs.Laws.Equality.{units_unique}
use Rattle.floats.proofs.Laws.Sums.{Signed, units_summed}

-- ---- a value that f64 holds is rounded to itself
-- n has at most 53 digits, and zeros behind them
abbrev pub Short : ℕ → Type 0
Short n = (q : ℕ) × (j : ℕ) × (q < 2 ^ 53) × (n ≡ q * 2 ^ j)

held_short : (m : ℕ) (e : ℤ) → m < 2 ^ 53 → down e ≤ 2 ^ 1074 → Short (m * up e * 2 ^ 1074 / down e)
held_short m (pos k) h d = (m, k + 1074, h, div-one (m * 2 ^ k * 2 ^ 1074) ∙ mul_assoc m (2 ^ k) (2 ^ 1074) ∙ ap (λ (z : ℕ). m * z) (sym (pow-add 2 k 1074)))
held_short m (negsuc k) h d =
    let i = 1074 - suc k in
    (m, i, h, ap (λ (z : ℕ). z / 2 ^ suc k) (power_divides (m * 1) (suc k) 1074 (low_enough (suc k) 1074 d)) ∙ mul-div_cancel (m * 1 * 2 ^ i) (pow_pos (suc k)) ∙ ap (λ (z : ℕ). z * 2 ^ i) (mul-one m))

zero_short : (a b d : ℕ) → 0 < d → Short (zero * a * b / d)
zero_short a b d D = (0, 0, lit< tt, ap (λ (z : ℕ). z / d) (ap (λ (z : ℕ). z * b) (zero-mul a) ∙ zero-mul b ∙ sym (zero-mul d)) ∙ mul-div_cancel 0 D)

pub mag_short : (x : Float) → T (fits binary64 x) → T (finite x) → Short (mag x)
unfolding fits mag
mag_short nan h f = absurd f
mag_short (inf s) h f = absurd f
mag_short (fin s zero e) h f = zero_short (up e) (2 ^ 1074) (down e) (down_pos e)
mag_short (fin s (suc m) e) h f =
    let o : Bool = eqb (suc m % 2) 1 in
    let a : Bool = ltb (suc m) (2 ^ 53) in
    let b : Bool = leb (down e) (2 ^ 1074) in
    let c : Bool = ltb (suc m * up e) (2 ^ 1024 * down e) in
    held_short (suc m) e (ltb→lt (suc m) (2 ^ 53) (and_r o a (and_l (o && a) b (and_l (o && a && b) c h)))) (leb→le (down e) (2 ^ 1074) (and_r (o && a) b (and_l (o && a && b) c h)))

-- ---- it is below the end of f64
few_units : (m u d : ℕ) → 0 < d → m * u < 2 ^ 1024 * d → m * u * 2 ^ 1074 / d < 2 ^ 2098
few_units m u d D h =
    (div-lt_iff_lt-mul D).1 (lt_of_lt_of_le (mul-lt-mul_of_pos_right h (pow_pos 1074)) (le_of_eq (mul_right_comm (2 ^ 1024) d (2 ^ 1074) ∙ ap (λ (z : ℕ). z * d) (sym (pow-add 2 1024 1074)))))

zero_units : (a b d : ℕ) → 0 < d → zero * a * b / d < 2 ^ 2098
zero_units a b d D = subst (λ (n : ℕ). n < 2 ^ 2098) (sym (ap (λ (z : ℕ). z / d) (ap (λ (z : ℕ). z * b) (zero-mul a) ∙ zero-mul b ∙ sym (zero-mul d)) ∙ mul-div_cancel 0 D)) (pow_pos 2098)

pub mag_below : (x : Float) → T (fits binary64 x) → T (finite x) → mag x < 2 ^ 2098
unfolding fits mag
mag_below nan h f = absurd f
mag_below (inf s) h f = absurd f
mag_below (fin s zero e) h f = zero_units (up e) (2 ^ 1074) (down e) (down_pos e)
mag_below (fin s (suc m) e) h f =
    let a : Bool = eqb (suc m % 2) 1 && ltb (suc m) (2 ^ 53) && leb (down e) (2 ^ 1074) in
    let c : Bool = ltb (suc m * up e) (2 ^ 1024 * down e) in
    few_units (suc m) (up e) (down e) (down_pos e) (ltb→lt (suc m * up e) (2 ^ 1024 * down e) (and_r a c h))

-- ---- so it is rounded to itself
pub rounds_to_itself : (s : Bool) (n : ℕ) → Short n → n < 2 ^ 2098 → HasValue (round binary64 s n (2 ^ 1074)) s n (2 ^ 1074)
rounds_to_itself s n h l =
    round_exact binary64 s n (2 ^ 1074) h.0 h.1 (pow_pos 1074) h.2 (subst (λ (z : ℕ). z < 2 ^ 2098) h.3 l) (ap (λ (z : ℕ). z * 2 ^ 1074) h.3)

pub round_own : (x : Float) → T (fits binary64 x) → T (finite x) → round binary64 (negative x) (mag x) (2 ^ 1074) ≡ x
round_own x h f =
    let s = negative x in
    let r = round binary64 s (mag x) (2 ^ 1074) in
    let v = rounds_to_itself s (mag x) (mag_short x h f) (mag_below x h f) in
    units_unique r x (round-fits binary64 s (mag x) (2 ^ 1074)) h (value_finite r s (mag x) (2 ^ 1074) v) f (value_sign r s (mag x) v) (value_mag r s (mag x) v)

pub grid_own : (n : ℕ) → Short n → n ≤ 2 ^ 1074 * 2 ^ 1022 → grid binary64 n (2 ^ 1074) ≡ n
grid_own n h l =
    let r = round binary64 false n (2 ^ 1074) in
    sym (value_mag r false (grid binary64 n (2 ^ 1074)) (round_value false n (2 ^ 1074) (pow_pos 1074) l)) ∙ value_mag r false n (rounds_to_itself false n h (lt_of_le_of_lt l (lit< tt)))

-- 2 ^ j is rounded to itself
pub power_own : (j : ℕ) → 2 ^ j ≤ 2 ^ 1074 * 2 ^ 1022 → grid binary64 (2 ^ j) (2 ^ 1074) ≡ 2 ^ j
power_own j l = grid_own (2 ^ j) (1, j, lit< tt, sym (one-mul (2 ^ j))) l

-- ---- x + 0 is x, for a zero of either sign, if x is not negative zero
nothing_added : (r s t : Bool) (a b w : ℕ) → b ≡ 0 → (s ≡ true → 0 < a) → Signed r (cond s 0 a + cond t 0 b) (cond s a 0 + cond t b 0) w → (r ≡ true → (0 < w) ⊎ ((s ≡ true) × (t ≡ true))) → (r ≡ s) × (w ≡ a)
nothing_added true true true a b w e h v m = (refl, omega arith)
nothing_added true true false a b w e h v m = (refl, omega arith)
nothing_added false false true a b w e h v m = (refl, omega arith)
nothing_added false false false a b w e h v m = (refl, omega arith)
nothing_added false true true a b w e h v m = let l = h refl in absurd (omega arith)
nothing_added false true false a b w e h v m = let l = h refl in absurd (omega arith)
nothing_added true false t a b w e h v m = elim (m refl) [ inl l ↦ absurd (no t v l) | inr l ↦ never l.0 refl ]
  where
    no : (t : Bool) → Signed true (a + cond t 0 b) (0 + cond t b 0) w → 0 < w → ⊥
    no true v l = omega arith
    no false v l = omega arith

pub add_nothing : (x y : Float) → T (fits binary64 x) → Known x → Known y → negative_zero x ≡ false → mag y ≡ 0 → add binary64 x y ≡ x
add_nothing x y h X Y z e =
    let U = units_summed x y X Y in
    let (s, w) = nothing_added U.sign (negative x) (negative y) (mag x) (mag y) U.size e (unsigned_mag x X z) U.value U.minus in
    U.is ∙ ap₂ (λ (s : Bool) (w : ℕ). round binary64 s w (2 ^ 1074)) s w ∙ round_own x h (known_finite x X)
