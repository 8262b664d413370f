-- A product or a quotient of two f64 values is off by at most one part in 2 ^ 53 of the exact one, and half a unit of 2 ^ -1074.
use mathlib.Core.Path.{◌≡◌, ap, ap₂, ◌∙◌}
use Prim.Native.Nat.{ℕ, zero, suc, ◌+◌, ◌*◌, ◌^◌, ◌≤◌, ◌<◌}
use native.Mathlib.Nat.{mul-mul-mul_comm, mul-pos, eq_of_mul-eq-mul_right, lt_irrefl}
use native.Mathlib.Omega.{arith}
use mathlib.Core.Bool.{Bool, true, false, cond}
use lib.Dec.{eqb, eqb-suc-zero}
use lib.Pow.{pow_pos}
use lib.Ieee.{Float, nan, inf, fin, binary64, up, down, round, mul, div, unlike}
use lib.Ieee.Fits.{down_pos, up_pos}
use lib.Ieee.Scale.{grid, round_same}
use lib.Ieee.Positive.{first_pos}
use Rattle.floats.specs.Scaled.{mag, negative, over, under}
use Rattle.floats.proofs.Laws.Distance.{Close, close_cancel}
use Rattle.floats.proofs.Laws.Rounding.{round_near, round_value}
use Rattle.floats.proofs.Laws.Growth.{grid_none}
use Rattle.floats.proofs.Laws.Value.{Known, value_mag, value_sign, value_known}

-- x * y is direct x y - crossed x y squared units
abbrev pub direct : Float → Float → ℕ
direct x y = over x * over y + under x * under y

abbrev pub crossed : Float → Float → ℕ
crossed x y = over x * under y + under x * over y

-- r is x * y, rounded: by the sizes, and with the signs
pub record Times (x y r : Float) : Type 0 where
  pub known : Known r
  pub size : mag r ≡ grid binary64 (mag x * mag y) (2 ^ 1074 * 2 ^ 1074)
  pub sizes : Close (mag x * mag y + 2 ^ 52 * 2 ^ 1074) (mag r * 2 ^ 1074) (mag x * mag y)
  pub near : Close (mag x * mag y + 2 ^ 52 * 2 ^ 1074) (over r * 2 ^ 1074 + crossed x y) (under r * 2 ^ 1074 + direct x y)

-- r is x / y, rounded
pub record Over (x y r : Float) : Type 0 where
  pub known : Known r
  pub size : mag r ≡ grid binary64 (mag x) (mag y)
  pub sizes : Close (mag x * 2 ^ 1074 + 2 ^ 52 * mag y) (mag r * mag y) (mag x * 2 ^ 1074)
  pub near : Close (mag x * 2 ^ 1074 + 2 ^ 52 * mag y) (direct r y + under x * 2 ^ 1074) (crossed r y + over x * 2 ^ 1074)

-- ---- the product
product_near : (g w u : ℕ) → 0 < u → Close (w * u + 2 ^ 52 * (u * u)) (g * (u * u)) (w * u) → Close (w + 2 ^ 52 * u) (g * u) w
product_near g w u U h = close_cancel (w + 2 ^ 52 * u) (g * u) w u U (omega arith)

signed_product : (s t : Bool) (x y g u e : ℕ) → Close e (g * u) (x * y)
    → Close e (cond (unlike s t) 0 g * u + (cond s 0 x * cond t y 0 + cond s x 0 * cond t 0 y)) (cond (unlike s t) g 0 * u + (cond s 0 x * cond t 0 y + cond s x 0 * cond t y 0))
signed_product true true x y g u e h = omega arith
signed_product true false x y g u e h = omega arith
signed_product false true x y g u e h = omega arith
signed_product false false x y g u e h = omega arith

pub mul_at : (x y : Float) → Known x → Known y → mul binary64 x y ≡ round binary64 (unlike (negative x) (negative y)) (mag x * mag y) (2 ^ 1074 * 2 ^ 1074)
unfolding mul
mul_at nan y h k = absurd h
mul_at (inf s) y h k = absurd h
mul_at (fin s m e) nan h k = absurd k
mul_at (fin s m e) (inf t) h k = absurd k
mul_at (fin s m e) (fin t n d) h k =
    let x = mag (fin s m e) in
    let y = mag (fin t n d) in
    round_same binary64 (unlike s t) (m * up e * (n * up d)) (down e * down d) (x * y) (2 ^ 1074 * 2 ^ 1074) (mul-pos (down_pos e) (down_pos d)) (mul-pos (pow_pos 1074) (pow_pos 1074))
    (mul-mul-mul_comm (m * up e) (n * up d) (2 ^ 1074) (2 ^ 1074) ∙ ap₂ (λ (a b : ℕ). a * b) h.1 k.1 ∙ mul-mul-mul_comm x (down e) y (down d))

pub mul_rounded : (x y : Float) → Known x → Known y → mag x * mag y ≤ 2 ^ 1074 * 2 ^ 1074 * 2 ^ 1022 → Times x y (mul binary64 x y)
mul_rounded x y h k l = rw (mul_at x y h k) made
  where
    made : Times x y (round binary64 (unlike (negative x) (negative y)) (mag x * mag y) (2 ^ 1074 * 2 ^ 1074))
    made =
        let s = unlike (negative x) (negative y) in
        let r = round binary64 s (mag x * mag y) (2 ^ 1074 * 2 ^ 1074) in
        let g = grid binary64 (mag x * mag y) (2 ^ 1074 * 2 ^ 1074) in
        let U2 = mul-pos (pow_pos 1074) (pow_pos 1074) in
        let v = round_value s (mag x * mag y) (2 ^ 1074 * 2 ^ 1074) U2 l in
        let c = product_near g (mag x * mag y) (2 ^ 1074) (pow_pos 1074) (round_near (mag x * mag y) (2 ^ 1074 * 2 ^ 1074) U2) in
        record {
          known = value_known r s g v;
          size = value_mag r s g v;
          sizes = rw (value_mag r s g v) c;
          near = rw (value_sign r s g v, value_mag r s g v) (signed_product (negative x) (negative y) (mag x) (mag y) g (2 ^ 1074) (mag x * mag y + 2 ^ 52 * 2 ^ 1074) c);
        }

-- ---- the quotient
signed_quotient : (s t : Bool) (x y g u e : ℕ) → Close e (g * y) (x * u)
    → Close e (cond (unlike s t) 0 g * cond t 0 y + cond (unlike s t) g 0 * cond t y 0 + cond s x 0 * u) (cond (unlike s t) 0 g * cond t y 0 + cond (unlike s t) g 0 * cond t 0 y + cond s 0 x * u)
signed_quotient true true x y g u e h = omega arith
signed_quotient true false x y g u e h = omega arith
signed_quotient false true x y g u e h = omega arith
signed_quotient false false x y g u e h = omega arith

-- a / c and b / d are x / u and y / u, so a / c over b / d is x / y
ratio : (a b c d x y u : ℕ) → 0 < u → a * u ≡ x * c → b * u ≡ y * d → a * d * y ≡ x * (b * c)
ratio a b c d x y u U p q =
    let p' : a * u * (d * y) ≡ x * c * (d * y) = ap (λ (z : ℕ). z * (d * y)) p in
    let q' : b * u * (c * x) ≡ y * d * (c * x) = ap (λ (z : ℕ). z * (c * x)) q in
    eq_of_mul-eq-mul_right u U (a * d * y) (x * (b * c)) (omega arith)

not_zero : (n : ℕ) {A : Type 0} (a b : A) → 0 < n → cond (eqb n 0) a b ≡ b
not_zero zero a b h = absurd (lt_irrefl 0 h)
not_zero (suc n) a b h = ap (λ (t : Bool). cond t a b) (eqb-suc-zero n)

-- a value of some units has digits
digits : (n d c y u : ℕ) → 0 < c → 0 < y → n * d * u ≡ y * c → 0 < n
digits n d c y u C Y e = first_pos n d (first_pos (n * d) u (rw e (mul-pos Y C)))

div_at : (x y : Float) → Known x → Known y → 0 < mag y → div binary64 x y ≡ round binary64 (unlike (negative x) (negative y)) (mag x) (mag y)
unfolding div
div_at nan y h k Y = absurd h
div_at (inf s) y h k Y = absurd h
div_at (fin s m e) nan h k Y = absurd k
div_at (fin s m e) (inf t) h k Y = absurd k
div_at (fin s m e) (fin t n d) h k Y =
    let x = mag (fin s m e) in
    let y = mag (fin t n d) in
    let r = round binary64 (unlike s t) (m * up e * down d) (n * up d * down e) in
    let N : 0 < n = digits n (up d) (down d) y (2 ^ 1074) (down_pos d) Y k.1 in
    not_zero n (cond (eqb m 0) nan (inf (unlike s t))) r N
    ∙ round_same binary64 (unlike s t) (m * up e * down d) (n * up d * down e) x y (mul-pos (mul-pos N (up_pos d)) (down_pos e)) Y
    (ratio (m * up e) (n * up d) (down e) (down d) x y (2 ^ 1074) (pow_pos 1074) h.1 k.1)

pub div_rounded : (x y : Float) → Known x → Known y → 0 < mag y → mag x ≤ mag y * 2 ^ 1022 → Over x y (div binary64 x y)
div_rounded x y h k Y l = rw (div_at x y h k Y) made
  where
    made : Over x y (round binary64 (unlike (negative x) (negative y)) (mag x) (mag y))
    made =
        let s = unlike (negative x) (negative y) in
        let r = round binary64 s (mag x) (mag y) in
        let g = grid binary64 (mag x) (mag y) in
        let v = round_value s (mag x) (mag y) Y l in
        let c = round_near (mag x) (mag y) Y in
        record {
          known = value_known r s g v;
          size = value_mag r s g v;
          sizes = rw (value_mag r s g v) c;
          near = rw (value_sign r s g v, value_mag r s g v) (signed_quotient (negative x) (negative y) (mag x) (mag y) g (2 ^ 1074) (mag x * 2 ^ 1074 + 2 ^ 52 * mag y) c);
        }

-- ---- nothing times or over anything is nothing
pub times_nothing : (x y r : Float) → Times x y r → mag x * mag y ≡ 0 → mag r ≡ 0
times_nothing x y r R e = R.size ∙ ap (λ (n : ℕ). grid binary64 n (2 ^ 1074 * 2 ^ 1074)) e ∙ grid_none (2 ^ 1074 * 2 ^ 1074) (mul-pos (pow_pos 1074) (pow_pos 1074))

pub over_nothing : (x y r : Float) → Over x y r → 0 < mag y → mag x ≡ 0 → mag r ≡ 0
over_nothing x y r R Y e = R.size ∙ ap (λ (n : ℕ). grid binary64 n (mag y)) e ∙ grid_none (mag y) Y
