-- How far `round` moves a fraction: by half a unit in the last place that it keeps. So by at most one part in 2 ^ prec, and half of the format's smallest value.
use mathlib.Core.Path.{◌≡◌, sym, ap, ◌∙◌, subst}
use mathlib.Core.Logic.{inl, inr}
use Prim.Native.Nat.{ℕ, zero, suc, ◌+◌, ◌-◌, ◌*◌, ◌/◌, ◌%◌, ◌^◌, ◌≤◌, ◌<◌, compare, Ordering}
use native.Mathlib.Nat.{mod-lt, div-add-mod', le-div_iff_mul-le, eq-zero-or-pos, mul-pos, mul-one, le_trans, le_of_eq, lt_of_le_of_lt, le_of_mul-le-mul_right, mul-le-mul_left, mul-le-mul_right, mul_assoc, mul_comm, mul_left_comm}
use native.Mathlib.Omega.{arith}
use mathlib.Core.Bool.{Bool, not}
use lib.Dec.{T, is_le, compare_is_eq, eqb, leb→le, nleb→lt, eqb→eq, eqb_refl, lit<}
use lib.Arith.{lt_of_le-ne}
use lib.Pow.{pow_pos, pow-add}
use lib.Ieee.{Float, binary64, size, nearest, round}
use lib.Ieee.Digits.{size_reaches}
use lib.Ieee.Nearest.{closest}
use lib.Ieee.Fits.{round_is}
use lib.Ieee.Exact.{HasValue, units_val}
use lib.Ieee.Order.{drop, kept}
use lib.Ieee.Scale.{grid, overflow}
use Rattle.floats.specs.Scaled.{Near}
use Rattle.floats.proofs.Laws.Distance.{Close, near_cancel}

-- ---- what `compare` says
abbrev Compared : Ordering → ℕ → ℕ → Type 0
Compared Ordering.lt a b = a < b
Compared Ordering.eq a b = a ≡ b
Compared Ordering.gt a b = b < a

compared : (a b : ℕ) → Compared (compare a b) a b
compared a b = go (compare a b) (leb→le a b) (nleb→lt a b) (eqb→eq a b) (λ (e : a ≡ b). subst (λ (x : ℕ). T (eqb a x)) e (eqb_refl a))
  where
    go : (o : Ordering) → (T (is_le o) → a ≤ b) → (T (not (is_le o)) → b < a) → (T (compare_is_eq o) → a ≡ b) → (a ≡ b → T (compare_is_eq o)) → Compared o a b
    go Ordering.lt h k e n = lt_of_le-ne (h tt) n
    go Ordering.eq h k e n = e tt
    go Ordering.gt h k e n = k tt

-- ---- the nearest whole number is no more than a half away
at_tie : (w i b r : ℕ) → i < 2 → r * 2 ≡ b → Near b (2 * ((w + i) * b)) (2 * (w * b + r))
at_tie w zero b r I h = omega arith
at_tie w (suc zero) b r I h = omega arith
at_tie w (suc (suc i)) b r I h = absurd (no i I)
  where
    no : (i : ℕ) → suc (suc i) < 2 → ⊥
    no i I = omega arith

nearest_near : (w b r : ℕ) (o : Ordering) → Compared o (r * 2) b → r < b → Near b (2 * (nearest w o * b)) (2 * (w * b + r))
nearest_near w b r Ordering.lt h R = omega arith
nearest_near w b r Ordering.eq h R = at_tie w (w % 2) b r (omega arith) h
nearest_near w b r Ordering.gt h R = omega arith

pub closest_near : (a b : ℕ) → 0 < b → Near b (2 * (closest a b * b)) (2 * a)
closest_near a b B =
    subst (λ (x : ℕ). Near b (2 * (closest a b * b)) (2 * x)) (div-add-mod' a b)
    (nearest_near (a / b) b (a % b) (compare (a % b * 2) b) (compared (a % b * 2) b) (mod-lt a B))

-- ---- a number of which digits are dropped has all the digits that are kept
room : (z p : ℕ) → 0 < p → 0 < z - p → p - 1 + (z - p) < z
room z p P h = omega arith

filled : (p n den : ℕ) → 0 < p → 0 < den → 0 < drop p n den → 2 ^ (p - 1) * (den * 2 ^ drop p n den) ≤ n
filled p n den P D K =
    let k = drop p n den in
    let a : 2 ^ (p - 1 + k) * den ≤ n = (le-div_iff_mul-le D).0 (size_reaches (n / den) (p - 1 + k) (room (size (n / den)) p P K)) in
    le_trans (le_of_eq (simp (pow-add, mul_assoc, mul_comm, mul_left_comm))) a

-- so a unit in the last place is small beside the number, or is the smallest value
ulp_small : (p n den : ℕ) → 0 < p → 0 < den → 2 ^ (p - 1) * (den * 2 ^ drop p n den) ≤ n + 2 ^ (p - 1) * den
ulp_small p n den P D =
    elim (eq-zero-or-pos (drop p n den)) [
      | inl z ↦ subst (λ (k : ℕ). 2 ^ (p - 1) * (den * 2 ^ k) ≤ n + 2 ^ (p - 1) * den) (sym z) (omega arith)
      | inr K ↦ le_trans (filled p n den P D K) (omega arith)
    ]

-- ---- half a unit in the last place, as a part of the number
scale_near : (h u a b e : ℕ) → Near u (2 * a) (2 * b) → h * u ≤ e → Near e (2 * h * a) (2 * h * b)
scale_near h u a b e c l =
    let x : h * (2 * a) ≤ h * (2 * b + u) = mul-le-mul_left h c.0 in
    let y : h * (2 * b) ≤ h * (2 * a + u) = mul-le-mul_left h c.1 in
    (omega arith, omega arith)

twice : (p : ℕ) → 0 < p → 2 ^ p ≡ 2 * 2 ^ (p - 1)
twice zero P = omega arith
twice (suc p) P = subst (λ (q : ℕ). 2 ^ suc p ≡ 2 * 2 ^ q) (pred p) (omega arith)
  where
    pred : (p : ℕ) → p ≡ suc p - 1
    pred p = omega arith

-- the rounded value of num / den, in units of the smallest value
pub kept_near : (p n den : ℕ) → 0 < p → 0 < den → Near (n + 2 ^ (p - 1) * den) (2 ^ p * (kept p n den * 2 ^ drop p n den * den)) (2 ^ p * n)
kept_near p n den P D =
    let k = drop p n den in
    let u = den * 2 ^ k in
    let c : Near u (2 * (kept p n den * u)) (2 * n) = closest_near n u (mul-pos D (pow_pos k)) in
    let e : kept p n den * u ≡ kept p n den * 2 ^ k * den = simp (mul_assoc, mul_comm, mul_left_comm) in
    rw (twice p P, ← e) (scale_near (2 ^ (p - 1)) u (kept p n den * u) n (n + 2 ^ (p - 1) * den) c (ulp_small p n den P D))

-- ---- a fraction that is a whole number of the smallest values: nothing is lost where no digit is dropped
exact_kept : (w q den : ℕ) → 0 < den → Near den (2 * (q * den)) (2 * (w * den)) → q ≡ w
exact_kept w q den D c =
    let d : Near 1 (2 * q) (2 * w) = near_cancel 1 (2 * q) (2 * w) den D (omega arith) in
    omega arith

whole_near : (h w q den t : ℕ) → 0 < den → Near (den * t) (2 * (q * (den * t))) (2 * (w * den)) → h * (den * t) ≤ w * den → Near w (2 * h * (q * t)) (2 * h * w)
whole_near h w q den t D c l =
    let d : Near (w * den) (2 * h * (q * (den * t))) (2 * h * (w * den)) = scale_near h (den * t) (q * (den * t)) (w * den) (w * den) c l in
    near_cancel w (2 * h * (q * t)) (2 * h * w) den D (omega arith)

pub kept_near_whole : (p w den : ℕ) → 0 < p → 0 < den → Near w (2 ^ p * (kept p (w * den) den * 2 ^ drop p (w * den) den)) (2 ^ p * w)
kept_near_whole p w den P D =
    let n = w * den in
    let k = drop p n den in
    let c : Near (den * 2 ^ k) (2 * (kept p n den * (den * 2 ^ k))) (2 * n) = closest_near n (den * 2 ^ k) (mul-pos D (pow_pos k)) in
    elim (eq-zero-or-pos k) [
      | inl z ↦
          let none : den * 2 ^ k ≡ den = ap (λ (j : ℕ). den * 2 ^ j) z ∙ mul-one den in
          let same : kept p n den ≡ w = exact_kept w (kept p n den) den D (subst (λ (u : ℕ). Near u (2 * (kept p n den * u)) (2 * n)) none c) in
          let all : kept p n den * 2 ^ k ≡ w = ap (λ (j : ℕ). kept p n den * 2 ^ j) z ∙ mul-one (kept p n den) ∙ same in
          rw all (omega arith)
      | inr K ↦ rw (twice p P) (whole_near (2 ^ (p - 1)) w (kept p n den) den (2 ^ k) D c (filled p n den P D K))
    ]

-- ---- `round` at binary64: the result is `grid` units of 2 ^ -1074, and is off by at most one part in 2 ^ 53 and half a unit
pub round_near : (num den : ℕ) → 0 < den → Close (num * 2 ^ 1074 + 2 ^ 52 * den) (grid binary64 num den * den) (num * 2 ^ 1074)
round_near num den D = kept_near 53 (num * 2 ^ 1074) den (lit< tt) D

-- of a whole number of units it is off by one part in 2 ^ 53 at most
pub round_near_whole : (w : ℕ) → Close w (grid binary64 w (2 ^ 1074)) w
round_near_whole w = kept_near_whole 53 w (2 ^ 1074) (lit< tt) (pow_pos 1074)

few_units : (g n den top : ℕ) → 0 < den → 2 ^ 53 * (g * den) ≤ 2 ^ 53 * n + (n + 2 ^ 52 * den) → n ≤ top * den → g ≤ 2 * top + 1
few_units g n den top D c l =
    let x : g * den ≤ (2 * top + 1) * den = omega arith in
    le_of_mul-le-mul_right x D

pub under_overflow : (num den : ℕ) → 0 < den → num ≤ den * 2 ^ 1022 → grid binary64 num den < overflow binary64
under_overflow num den D l =
    lt_of_le_of_lt
    (few_units (grid binary64 num den) (num * 2 ^ 1074) den (2 ^ 1022 * 2 ^ 1074) D (round_near num den D).0
    (le_trans (mul-le-mul_right (2 ^ 1074) l) (le_of_eq (mul_assoc den (2 ^ 1022) (2 ^ 1074) ∙ mul_comm den (2 ^ 1022 * 2 ^ 1074)))))
    (lit< tt)

-- it is finite, and has the sign that it was given
pub round_value : (s : Bool) (num den : ℕ) → 0 < den → num ≤ den * 2 ^ 1022 → HasValue (round binary64 s num den) s (grid binary64 num den) (2 ^ 1074)
round_value s num den D l =
    subst (λ (x : Float). HasValue x s (grid binary64 num den) (2 ^ 1074)) (sym (round_is binary64 s num den))
    (units_val binary64 s (kept 53 (num * 2 ^ 1074) den) (drop 53 (num * 2 ^ 1074) den) (under_overflow num den D l))
