-- A finite f64 as a sign and a whole number of units of 2 ^ -1074 (`Known`).
use mathlib.Core.Path.{◌≡◌, refl, sym, ap, ◌∙◌}
use Prim.Native.Nat.{ℕ, zero, suc, ◌-◌, ◌*◌, ◌/◌, ◌%◌, ◌^◌, ◌≤◌, ◌<◌}
use native.Mathlib.Nat.{le_of_suc-le-suc, lt_of_not-le, not-le_of_lt, zero-lt-suc, mul-pos, mul-one, zero-mul, mul_assoc, mul-div_cancel, add-sub_of_le, mul_comm}
use native.Mathlib.Omega.{arith}
use mathlib.Core.Bool.{Bool, true, false, ◌&&◌, cond}
use lib.IntN.{ℤ, pos, negsuc}
use lib.Dec.{T, leb, ltb, eqb, leb→le}
use lib.Pow.{pow-add, pow_pos, pow-lt}
use lib.Ieee.{Float, nan, inf, fin, binary64, up, down, neg, fits}
use lib.Ieee.Fits.{up_pos, down_pos, and_l, and_r}
use lib.Ieee.Exact.{HasValue}
use lib.Ieee.Scale.{finite}
use lib.Ieee.Positive.{first_pos}
use Rattle.floats.specs.Scaled.{mag, negative, over, under, Near}
use Rattle.floats.specs.Kinds.{negative_zero}
use Rattle.lists.proofs.Laws.Tests.{never}

-- x is finite, and is exactly `mag x` units in size
abbrev pub Known : Float → Type 0
Known x = HasValue x (negative x) (mag x) (2 ^ 1074)

-- ---- what a value of so many units is known to be
pub value_mag : (x : Float) (s : Bool) (g : ℕ) → HasValue x s g (2 ^ 1074) → mag x ≡ g
unfolding mag
value_mag nan s g h = absurd h
value_mag (inf t) s g h = absurd h
value_mag (fin t m e) s g h = ap (λ (n : ℕ). n / down e) h.1 ∙ mul-div_cancel g (down_pos e)

pub value_sign : (x : Float) (s : Bool) (g : ℕ) → HasValue x s g (2 ^ 1074) → negative x ≡ s
value_sign nan s g h = absurd h
value_sign (inf t) s g h = absurd h
value_sign (fin t m e) s g h = h.0

pub value_known : (x : Float) (s : Bool) (g : ℕ) → HasValue x s g (2 ^ 1074) → Known x
value_known x s g h = rw (value_mag x s g h, value_sign x s g h) h

pub value_finite : (x : Float) (s : Bool) (a c : ℕ) → HasValue x s a c → T (finite x)
value_finite nan s a c h = h
value_finite (inf t) s a c h = h
value_finite (fin t m e) s a c h = tt

pub known_finite : (x : Float) → Known x → T (finite x)
known_finite x h = value_finite x (negative x) (mag x) (2 ^ 1074) h

-- ---- a finite value that fits
divides : (n q d : ℕ) → 0 < d → n ≡ q * d → n ≡ n / d * d
divides n q d D e = e ∙ ap (λ (k : ℕ). k * d) (sym (ap (λ (k : ℕ). k / d) e ∙ mul-div_cancel q D))

pub low_enough : (i j : ℕ) → 2 ^ i ≤ 2 ^ j → i ≤ j
low_enough i j h = le_of_suc-le-suc (lt_of_not-le (λ (g : suc j ≤ i). not-le_of_lt (pow-lt g) h))

pub power_divides : (a i j : ℕ) → i ≤ j → a * 2 ^ j ≡ a * 2 ^ (j - i) * 2 ^ i
power_divides a i j h = ap (λ (k : ℕ). a * 2 ^ k) (sym (add-sub_of_le h)) ∙ ap (λ (k : ℕ). a * k) (pow-add 2 i (j - i) ∙ mul_comm (2 ^ i) (2 ^ (j - i))) ∙ sym (mul_assoc a (2 ^ (j - i)) (2 ^ i))

whole_units : (m : ℕ) (e : ℤ) → down e ≤ 2 ^ 1074 → m * up e * 2 ^ 1074 ≡ m * up e * 2 ^ 1074 / down e * down e
whole_units m (pos k) h = divides (m * 2 ^ k * 2 ^ 1074) (m * 2 ^ k * 2 ^ 1074) 1 (down_pos (pos k)) (sym (mul-one (m * 2 ^ k * 2 ^ 1074)))
whole_units m (negsuc k) h =
    divides (m * 1 * 2 ^ 1074) (m * 1 * 2 ^ (1074 - suc k)) (2 ^ suc k) (pow_pos (suc k)) (power_divides (m * 1) (suc k) 1074 (low_enough (suc k) 1074 h))

no_units : (a b d : ℕ) → 0 < d → zero * a * b ≡ zero * a * b / d * d
no_units a b d D = divides (zero * a * b) zero d D (ap (λ (k : ℕ). k * b) (zero-mul a) ∙ zero-mul b ∙ sym (zero-mul d))

pub known : (x : Float) → T (fits binary64 x) → T (finite x) → Known x
unfolding fits mag
known nan h f = absurd f
known (inf s) h f = absurd f
known (fin s zero e) h f = (refl, no_units (up e) (2 ^ 1074) (down e) (down_pos e))
known (fin s (suc m) e) h f =
    let a : Bool = eqb (suc m % 2) 1 && ltb (suc m) (2 ^ 53) in
    let b : Bool = leb (down e) (2 ^ 1074) in
    let c : Bool = ltb (suc m * up e) (2 ^ 1024 * down e) in
    (refl, whole_units (suc m) e (leb→le (down e) (2 ^ 1074) (and_r a b (and_l (a && b) c h))))

-- ---- the other sign
pub neg_known : (x : Float) → Known x → Known (neg x)
unfolding neg mag
neg_known nan h = absurd h
neg_known (inf s) h = absurd h
neg_known (fin s m e) h = (refl, h.1)

pub neg_mag : (x : Float) → mag (neg x) ≡ mag x
unfolding neg mag
neg_mag nan = refl
neg_mag (inf s) = refl
neg_mag (fin s m e) = refl

pub neg_over : (x : Float) → Known x → over (neg x) ≡ under x
unfolding neg mag
neg_over nan h = absurd h
neg_over (inf s) h = absurd h
neg_over (fin true m e) h = refl
neg_over (fin false m e) h = refl

pub neg_under : (x : Float) → Known x → under (neg x) ≡ over x
unfolding neg mag
neg_under nan h = absurd h
neg_under (inf s) h = absurd h
neg_under (fin true m e) h = refl
neg_under (fin false m e) h = refl

-- ---- negative zero
some_units : (m u v g d : ℕ) → 0 < u → 0 < v → m * u * v ≡ g * d → 0 < m → 0 < g
some_units m u v g d A B e M = first_pos g d (rw (sym e) (mul-pos (mul-pos M A) B))

not_zero : (m : ℕ) → eqb m 0 ≡ false → 0 < m
not_zero zero h = never refl h
not_zero (suc m) h = zero-lt-suc m

pub unsigned_mag : (x : Float) → Known x → negative_zero x ≡ false → negative x ≡ true → 0 < mag x
unfolding negative_zero
unsigned_mag nan h z n = absurd h
unsigned_mag (inf s) h z n = absurd h
unsigned_mag (fin true m e) h z n = some_units m (up e) (2 ^ 1074) (mag (fin true m e)) (down e) (up_pos e) (pow_pos 1074) h.1 (not_zero m z)
unsigned_mag (fin false m e) h z n = never n refl

-- ---- the two parts
pub own_size : (x : Float) → Near (mag x) (over x) (under x)
own_size x = go (negative x) (mag x)
  where
    go : (s : Bool) (g : ℕ) → Near g (cond s 0 g) (cond s g 0)
    go true g = omega arith
    go false g = omega arith

pub parts_size : (x : Float) (c : ℕ) → mag x ≤ c → (over x ≤ c) × (under x ≤ c)
parts_size x c h = go (negative x) (mag x) h
  where
    go : (s : Bool) (g : ℕ) → g ≤ c → (cond s 0 g ≤ c) × (cond s g 0 ≤ c)
    go true g h = omega arith
    go false g h = omega arith
