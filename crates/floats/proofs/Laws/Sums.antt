-- A sum or a difference of two finite f64 values is the exact one, rounded once. Every f64 is a whole number of units, so nothing is lost to underflow:
-- it is off by at most one part in 2 ^ 53.
use mathlib.Core.Path.{◌≡◌, refl, sym, ap, ◌∙◌}
use mathlib.Core.Logic.{◌⊎◌, inl, inr}
use Prim.Native.Nat.{ℕ, ◌+◌, ◌-◌, ◌*◌, ◌^◌, ◌≤◌, ◌<◌}
use native.Mathlib.Nat.{le_trans, le_of_eq, mul_comm, mul-sub, mul-pos, mul-le-mul_right}
use native.Mathlib.Omega.{arith}
use mathlib.Core.Bool.{Bool, true, false, not, ◌&&◌, cond}
use lib.Dec.{T, ltb, ltb→lt, nltb→le}
use lib.Pow.{pow_pos}
use lib.Ieee.{Float, nan, inf, fin, Format, binary64, up, down, round, sum, add, sub, neg}
use lib.Ieee.Fits.{down_pos}
use lib.Ieee.Scale.{finite, grid, round_same}
use Rattle.floats.specs.Scaled.{mag, negative, over, under, Near}
use Rattle.floats.specs.Kinds.{is_number, negative_zero, plain}
use Rattle.lists.proofs.Laws.Tests.{never}
use Rattle.floats.proofs.Laws.Kinds.{is_plain, plain_unsigned}
use Rattle.floats.proofs.Laws.Distance.{Apart, Close, Split, split}
use Rattle.floats.proofs.Laws.Scale.{Scale, On, Stands, on_number, scaled_less, common_left, common_right}
use Rattle.floats.proofs.Laws.Rounding.{round_near_whole, round_value}
use Rattle.floats.proofs.Laws.Growth.{round_on, round_negative, round_unsigned, grid_grows}
use Rattle.floats.proofs.Laws.Value.{Known, known_finite, value_mag, value_sign, value_known, neg_known, neg_mag, neg_over, neg_under, unsigned_mag}
use Rattle.floats.proofs.Laws.Units.{first_on, second_on}

-- p - n is w, or -w where s is true
abbrev pub Signed : Bool → ℕ → ℕ → ℕ → Type 0
Signed false p n w = p ≡ n + w
Signed true p n w = n ≡ p + w

-- r is ±a / c + ±b / c, rounded. It is below zero only where the sum is, or is a negative zero of two negatives.
pub record Summed (s : Bool) (a : ℕ) (t : Bool) (b c : ℕ) (r : Float) : Type 0 where
  pub sign : Bool
  pub size : ℕ
  pub value : Signed sign (cond s 0 a + cond t 0 b) (cond s a 0 + cond t b 0) size
  pub minus : sign ≡ true → (0 < size) ⊎ ((s ≡ true) × (t ≡ true))
  pub is : r ≡ round binary64 sign size c

summed : (s : Bool) (a : ℕ) (t : Bool) (b c : ℕ) → Summed s a t b c (sum binary64 s a t b c)
unfolding sum
summed true a true b c = record { sign = true; size = a + b; value = omega arith; minus = λ h. inr (refl, refl); is = refl }
summed false a false b c = record { sign = false; size = a + b; value = omega arith; minus = λ h. never h refl; is = refl }
summed false a true b c = go (ltb a b) (ltb→lt a b) (nltb→le a b)
  where
    go : (i : Bool) → (T i → a < b) → (T (not i) → b ≤ a) → Summed false a true b c (cond i (round binary64 true (b - a) c) (round binary64 false (a - b) c))
    go true h k = let l = h tt in record { sign = true; size = b - a; value = omega arith; minus = λ n. inl (omega arith); is = refl }
    go false h k = let l = k tt in record { sign = false; size = a - b; value = omega arith; minus = λ n. never n refl; is = refl }
summed true a false b c = go (ltb a b) (ltb b a) (ltb→lt a b) (ltb→lt b a) (nltb→le a b) (nltb→le b a)
  where
    go : (i j : Bool) → (T i → a < b) → (T j → b < a) → (T (not i) → b ≤ a) → (T (not j) → a ≤ b)
        → Summed true a false b c (cond i (round binary64 false (b - a) c) (round binary64 j (a - b) c))
    go true j h k m n = let l = h tt in record { sign = false; size = b - a; value = omega arith; minus = λ n. never n refl; is = refl }
    go false true h k m n = let l = k tt in record { sign = true; size = a - b; value = omega arith; minus = λ n. inl (omega arith); is = refl }
    go false false h k m n =
        let l = m tt in
        let o = n tt in
        record { sign = false; size = a - b; value = omega arith; minus = λ n. never n refl; is = refl }

-- ---- `sum` sees only the values: a / c and b / c are x / u and y / u
rest : (a b c x y u : ℕ) → a * u ≡ x * c → b * u ≡ y * c → (b - a) * u ≡ (y - x) * c
rest a b c x y u p q =
    mul_comm (b - a) u ∙ mul-sub u b a
    ∙ ap (λ (z : ℕ). z - u * a) (mul_comm u b ∙ q ∙ mul_comm y c)
    ∙ ap (λ (z : ℕ). c * y - z) (mul_comm u a ∙ p ∙ mul_comm x c)
    ∙ sym (mul-sub c y x) ∙ mul_comm c (y - x)

both : (a b c x y u : ℕ) → a * u ≡ x * c → b * u ≡ y * c → (a + b) * u ≡ (x + y) * c
both a b c x y u p q = omega arith

sum_same : (f : Format) (s t : Bool) (a b c x y u : ℕ) → 0 < c → 0 < u → a * u ≡ x * c → b * u ≡ y * c → sum f s a t b c ≡ sum f s x t y u
unfolding sum
sum_same f s t a b c x y u C U p q =
    rw (
      round_same f s (a + b) c (x + y) u C U (both a b c x y u p q),
      round_same f t (b - a) c (y - x) u C U (rest a b c x y u p q),
      round_same f (s && ltb b a) (a - b) c (x - y) u C U (rest b a c y x u q p),
      scaled_less a b c x y u C U p q,
      scaled_less b a c y x u C U q p,
    )

-- ---- the sum of two finite numbers on a scale
add_stands : (S : Scale) (x y : Float) (a b : ℕ) → T (finite x) → T (finite y) → Stands x a S → Stands y b S → add binary64 x y ≡ sum binary64 (negative x) a (negative y) b S.part
unfolding add
add_stands S nan y a b i j h k = absurd i
add_stands S (inf s) y a b i j h k = absurd i
add_stands S (fin s m e) nan a b i j h k = absurd j
add_stands S (fin s m e) (inf t) a b i j h k = absurd j
add_stands S (fin s m e) (fin t n d) a b i j h k =
    sum_same binary64 s t (m * up e * down d) (n * up d * down e) (down e * down d) a b S.part (mul-pos (down_pos e) (down_pos d)) S.some
    (common_left S m n e d a b h.0 k.0) (common_right S m n e d a b h.0 k.0)

module _ {S : Scale} {x y : Float} (i : T (finite x)) (j : T (finite y)) (p : On S x) (q : On S y) where
  pub add_summed : Summed (negative x) p.at (negative y) q.at S.part (add binary64 x y)
  add_summed = rw (add_stands S x y p.at q.at i j p.stands q.stands) (summed (negative x) p.at (negative y) q.at S.part)

-- ---- in units: of two known values
module _ (x y : Float) (X : Known x) (Y : Known y) where
  pub units_summed : Summed (negative x) (mag x) (negative y) (mag y) (2 ^ 1074) (add binary64 x y)
  units_summed = add_summed (known_finite x X) (known_finite y Y) (first_on x y X Y) (second_on x y X Y)

-- ---- r is p - n units, rounded: it is off by at most a 2 ^ 53rd of any bound on |p - n|, and its size is that of |p - n|, rounded
pub record Rounded (p n : ℕ) (r : Float) : Type 0 where
  pub known : Known r
  pub near : (w : ℕ) → Near w p n → Close w (over r + n) (under r + p)
  pub size : (w : ℕ) → Apart w p n → mag r ≡ grid binary64 w (2 ^ 1074)

signed_near : (s : Bool) (p n g w : ℕ) → Signed s p n w → Close w g w → (v : ℕ) → Near v p n → Close v (cond s 0 g + n) (cond s g 0 + p)
signed_near false p n g w e h v l = omega arith
signed_near true p n g w e h v l = omega arith

same_width : (s : Bool) (p n v w : ℕ) → Signed s p n v → Apart w p n → v ≡ w
same_width false p n v w e (inl f) = omega arith
same_width false p n v w e (inr f) = omega arith
same_width true p n v w e (inl f) = omega arith
same_width true p n v w e (inr f) = omega arith

rounded : (s : Bool) (p n w : ℕ) → Signed s p n w → w ≤ 2 ^ 1074 * 2 ^ 1022 → Rounded p n (round binary64 s w (2 ^ 1074))
rounded s p n w e l =
    let r = round binary64 s w (2 ^ 1074) in
    let g = grid binary64 w (2 ^ 1074) in
    let v = round_value s w (2 ^ 1074) (pow_pos 1074) l in
    record {
      known = value_known r s g v;
      near = rw (value_sign r s g v, value_mag r s g v) (signed_near s p n g w e (round_near_whole w));
      size = λ u h. value_mag r s g v ∙ ap (λ (k : ℕ). grid binary64 k (2 ^ 1074)) (same_width s p n w u e h);
    }

-- a sum is no larger than its parts together
no_larger : (r s t : Bool) (a b w : ℕ) → Signed r (cond s 0 a + cond t 0 b) (cond s a 0 + cond t b 0) w → w ≤ a + b
no_larger false false false a b w h = omega arith
no_larger false false true a b w h = omega arith
no_larger false true false a b w h = omega arith
no_larger false true true a b w h = omega arith
no_larger true false false a b w h = omega arith
no_larger true false true a b w h = omega arith
no_larger true true false a b w h = omega arith
no_larger true true true a b w h = omega arith

pub add_rounded : (x y : Float) → Known x → Known y → mag x + mag y ≤ 2 ^ 1074 * 2 ^ 1022 → Rounded (over x + over y) (under x + under y) (add binary64 x y)
add_rounded x y X Y l =
    let U = units_summed x y X Y in
    rw U.is (rounded U.sign (over x + over y) (under x + under y) U.size U.value (le_trans (no_larger U.sign (negative x) (negative y) (mag x) (mag y) U.size U.value) l))

pub sub_rounded : (x y : Float) → Known x → Known y → mag x + mag y ≤ 2 ^ 1074 * 2 ^ 1022 → Rounded (over x + under y) (under x + over y) (sub binary64 x y)
unfolding sub
sub_rounded x y X Y l = rw (neg_over y Y, neg_under y Y) at (add_rounded x (neg y) X (neg_known y Y) (rw (neg_mag y) l))

-- ---- the size of a rounded difference of size w: a little over, or under
over_by : (g p n w : ℕ) → n ≤ p + w → 2 ^ 53 * (g + p) ≤ 2 ^ 53 * (0 + n) + w → 2 ^ 53 * g ≤ (2 ^ 53 + 1) * w
over_by g p n w h k = omega arith

at_most : (s : Bool) (g p n w : ℕ) → Near w p n → Close w (cond s 0 g + n) (cond s g 0 + p) → 2 ^ 53 * g ≤ (2 ^ 53 + 1) * w
at_most true g p n w h k = over_by g p n w h.1 k.1
at_most false g p n w h k = over_by g n p w h.0 k.0

pub rounded_at_most : (p n w : ℕ) (r : Float) → Rounded p n r → Near w p n → 2 ^ 53 * mag r ≤ (2 ^ 53 + 1) * w
rounded_at_most p n w r R h = at_most (negative r) (mag r) p n w h (R.near w h)

at_least : (s : Bool) (g p n w : ℕ) → Apart w p n → Close w (cond s 0 g + n) (cond s g 0 + p) → 2 ^ 53 * w ≤ 2 ^ 53 * g + w
at_least true g p n w (inl e) k = omega arith
at_least true g p n w (inr e) k = omega arith
at_least false g p n w (inl e) k = omega arith
at_least false g p n w (inr e) k = omega arith

pub exactly : (p n w : ℕ) → Apart w p n → Near w p n
exactly p n w (inl e) = omega arith
exactly p n w (inr e) = omega arith

pub rounded_at_least : (p n w : ℕ) (r : Float) → Rounded p n r → Apart w p n → 2 ^ 53 * w ≤ 2 ^ 53 * mag r + w
rounded_at_least p n w r R e = at_least (negative r) (mag r) p n w e (R.near w (exactly p n w e))

-- a difference of two values that differ is not zero
pub rounded_not_zero : (p n w : ℕ) (r : Float) → Rounded p n r → Apart w p n → 0 < w → 0 < mag r
rounded_not_zero p n w r R e W = go (mag r) (rounded_at_least p n w r R e)
  where
    go : (g : ℕ) → 2 ^ 53 * w ≤ 2 ^ 53 * g + w → 0 < g
    go g h = omega arith

-- no larger than a bound on the exact one, rounded
pub rounded_within : (p n w : ℕ) (r : Float) → Rounded p n r → Near w p n → w ≤ 2 ^ 1074 * 2 ^ 1022 → mag r ≤ grid binary64 w (2 ^ 1074)
rounded_within p n w r R h l = go (split p n)
  where
    grows : (v : ℕ) → v ≤ w → Apart v p n → mag r ≤ grid binary64 w (2 ^ 1074)
    grows v k e =
        le_trans (le_of_eq (R.size v e))
        (grid_grows v (2 ^ 1074) w (2 ^ 1074) (pow_pos 1074) (pow_pos 1074) (le_trans k l) l (mul-le-mul_right (2 ^ 1074) k))

    go : Split p n → mag r ≤ grid binary64 w (2 ^ 1074)
    go (inl i) = grows i.0 (omega arith) (inl i.1)
    go (inr i) = grows i.0 (omega arith) (inr i.1)

-- within bounds it is finite
pub add_finite : (x y : Float) → Known x → Known y → mag x + mag y ≤ 2 ^ 1074 * 2 ^ 1022 → T (finite (add binary64 x y))
add_finite x y X Y l = known_finite (add binary64 x y) (add_rounded x y X Y l).known

pub sub_finite : (x y : Float) → Known x → Known y → mag x + mag y ≤ 2 ^ 1074 * 2 ^ 1022 → T (finite (sub binary64 x y))
sub_finite x y X Y l = known_finite (sub binary64 x y) (sub_rounded x y X Y l).known

-- ---- the kind and the sign
pub add_number : (x y : Float) → Known x → Known y → is_number (add binary64 x y) ≡ true
add_number x y X Y = let U = units_summed x y X Y in rw U.is (on_number (round_on U.sign U.size (2 ^ 1074)))

-- a sum is negative only where both are, or where it is below zero
pub add_sign : (x y : Float) → Known x → Known y → negative (add binary64 x y) ≡ true → ((negative x ≡ true) × (negative y ≡ true)) ⊎ (over x + over y < under x + under y)
add_sign x y X Y n =
    let U = units_summed x y X Y in
    let minus : U.sign ≡ true = sym (ap negative U.is ∙ round_negative U.sign U.size (2 ^ 1074)) ∙ n in
    elim (U.minus minus) [ inl h ↦ inr (go U.sign (over x + over y) (under x + under y) U.size minus h U.value) | inr h ↦ inl h ]
  where
    go : (s : Bool) (p n w : ℕ) → s ≡ true → 0 < w → Signed s p n w → p < n
    go true p n w e h v = omega arith
    go false p n w e h v = never e refl

-- a sum with the minus sign whose first part is no negative zero is below zero
pub sum_some : (x y : Float) (X : Known x) (Y : Known y) → negative_zero x ≡ false → (units_summed x y X Y).sign ≡ true → 0 < (units_summed x y X Y).size
sum_some x y X Y z n =
    let U = units_summed x y X Y in
    elim (U.minus n) [ inl h ↦ h | inr h ↦ go U.sign (negative x) (negative y) (mag x) (mag y) U.size n h.0 h.1 (unsigned_mag x X z h.0) U.value ]
  where
    go : (r s t : Bool) (a b w : ℕ) → r ≡ true → s ≡ true → t ≡ true → 0 < a → Signed r (cond s 0 a + cond t 0 b) (cond s a 0 + cond t b 0) w → 0 < w
    go r s t a b w e f g h v = let k : a + b ≡ 0 + 0 + w = rw (e, f, g) at v in omega arith

-- so a sum whose first part is no negative zero is none
pub add_unsigned : (x y : Float) → Known x → Known y → negative_zero x ≡ false → negative_zero (add binary64 x y) ≡ false
add_unsigned x y X Y z = let U = units_summed x y X Y in rw U.is (round_unsigned U.sign U.size (sum_some x y X Y z))

pub add_plain : (x y : Float) → Known x → Known y → plain x ≡ true → plain (add binary64 x y) ≡ true
add_plain x y X Y p = is_plain (add binary64 x y) (add_number x y X Y) (add_unsigned x y X Y (plain_unsigned x p))
