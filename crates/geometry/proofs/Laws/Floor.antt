-- `floor_of` is f64's own floor, cast to the nearest i64. A finite x is n / d in size, with n = m * up e and d = down e: from 2 ^ 53 on it has no
-- fraction, and below that its whole part and the next number up are floats. Assumes nothing.
use Rattle.std.proofs.Common.{◌≡◌, ℕ, zero, suc, ◌+◌, ◌*◌, ◌-◌, ◌/◌, ◌%◌, ◌^◌, ◌<◌, ◌≤◌, min, Bool, true, false, cond, ◌&&◌, T, eqb, ltb, leb, ℤ, pos, negsuc, neg_ℤ, sym, refl, ◌∙◌, le_trans, le_refl, mul-lt-mul_of_pos_right, mul-le-mul_left, div-lt_iff_lt-mul, le-div_iff_mul-le, mul-one, mul_assoc, div-one, arith, lit<, ltb→lt, pow_pos, ltb-false, ltb-true, mul-div_cancel}
use lib.Pow.{pow-add}
use lib.Ieee.{Float, nan, inf, fin, binary64, up, down, fits, round, to_signed}
use lib.Ieee.Fits.{down_pos, and_l, and_r}
use lib.Ieee.Exact.{HasValue, round_exact}
use lib.Ieee.Back.{round_whole}
use Rattle.std.specs.Float.{round_with, floor}
use Rattle.geometry.specs.Number.{rounded_up, size_up, floor_of}

-- ---- fractions

-- whether n / d rounded up is above its whole part
rounded_by : (n d : ℕ) {b : Bool} → ltb (n / d * d) n ≡ b → rounded_up n d ≡ cond b (suc (n / d)) (n / d)
unfolding rounded_up
rounded_by n d t = rw t

-- rounded up, as std has it
rounded_is : (n d : ℕ) → 0 < d → (n + d - 1) / d ≡ rounded_up n d
rounded_is n d some = by_test (ltb (n / d * d) n) refl
  where
    by_test : (b : Bool) → ltb (n / d * d) n ≡ b → (n + d - 1) / d ≡ rounded_up n d
    by_test true e =
        let part : n / d * d < n = ltb-true _ n e in
        let low : suc (n / d) ≤ (n + d - 1) / d = (le-div_iff_mul-le some).1 (omega arith) in
        let high : (n + d - 1) / d < suc (suc (n / d)) = (div-lt_iff_lt-mul some).1 (omega arith) in
        rw (rounded_by n d e) (omega arith)
    by_test false e =
        let all : n ≤ n / d * d = ltb-false _ n e in
        let low : n / d ≤ (n + d - 1) / d = (le-div_iff_mul-le some).1 (omega arith) in
        let high : (n + d - 1) / d < suc (n / d) = (div-lt_iff_lt-mul some).1 (omega arith) in
        rw (rounded_by n d e) (omega arith)

rounded_ge : (n d : ℕ) → n / d ≤ rounded_up n d
unfolding rounded_up
rounded_ge n d = by_test (ltb (n / d * d) n)
  where
    by_test : (b : Bool) → n / d ≤ cond b (suc (n / d)) (n / d)
    by_test true = omega arith
    by_test false = omega arith

rounded_le : (n d : ℕ) → 0 < d → rounded_up n d ≤ n
rounded_le n d some = by_test (ltb (n / d * d) n) refl
  where
    less : n / d ≤ n / d * d
    less = omega (arith, mul-le-mul_left (n / d) some)

    by_test : (b : Bool) → ltb (n / d * d) n ≡ b → rounded_up n d ≤ n
    by_test true e = rw (rounded_by n d e) (let part : n / d * d < n = ltb-true _ n e in omega (arith, less))
    by_test false e = rw (rounded_by n d e) (omega (arith, less))

-- ---- whole numbers that are floats

-- a float has 53 digits, and is below 2 ^ 1024
record Digits (m : ℕ) (e : ℤ) : Type 0 where
  few : m < 2 ^ 53
  small : m * up e < 2 ^ 1024 * down e

digits : (s : Bool) (m : ℕ) (e : ℤ) → T (fits binary64 (fin s m e)) → Digits m e
unfolding fits
digits s zero e t = record { few = lit< tt; small = omega (arith, down_pos e) }
digits s (suc m) e t = record {
  few = ltb→lt (suc m) (2 ^ 53)
      (and_r (eqb (suc m % 2) 1) (ltb (suc m) (2 ^ 53))
      (and_l (eqb (suc m % 2) 1 && ltb (suc m) (2 ^ 53)) (leb (down e) (2 ^ 1074))
      (and_l (eqb (suc m % 2) 1 && ltb (suc m) (2 ^ 53) && leb (down e) (2 ^ 1074)) (ltb (suc m * up e) (2 ^ 1024 * down e)) t)));
  small = ltb→lt _ _ (and_r (eqb (suc m % 2) 1 && ltb (suc m) (2 ^ 53) && leb (down e) (2 ^ 1074)) (ltb (suc m * up e) (2 ^ 1024 * down e)) t);
}

-- the whole part of a float, and that part or the next number up, is a float
rounds : (s : Bool) (m : ℕ) (e : ℤ) → Digits m e → (w : ℕ) → m * up e / down e ≤ w → w ≤ rounded_up (m * up e) (down e) → HasValue (round binary64 s w 1) s w 1
rounds s m (pos k) t w low high =
    let all : w ≡ m * 2 ^ k = omega (arith, rw div-one at low, rounded_le (m * 2 ^ k) 1 (lit< tt)) in
    let cut : m * 2 ^ (k + 1074) ≡ m * 2 ^ k * 2 ^ 1074 = rw pow-add (sym (mul_assoc m (2 ^ k) (2 ^ 1074))) in
    rw all
    (round_exact binary64 s (m * 2 ^ k) 1 m (k + 1074) (lit< tt) t.few (rw cut (mul-lt-mul_of_pos_right t.small (pow_pos 1074)))
    (sym cut ∙ sym (mul-one (m * 2 ^ (k + 1074)))))
rounds s m (negsuc k) t w low high =
    round_whole binary64 s w (le_trans high (le_trans (rounded_le (m * 1) (2 ^ suc k) (pow_pos (suc k))) (omega (arith, t.few))))

cast_whole : (y : Float) (s : Bool) (w : ℕ) → HasValue y s w 1 → to_signed 63 y ≡ cond s (neg_ℤ (pos (min w (2 ^ 63)))) (pos (min w (2 ^ 63 - 1)))
unfolding to_signed
cast_whole nan s w v = absurd v
cast_whole (inf t) s w v = absurd v
cast_whole (fin t m e) s w v =
    let same : m * up e ≡ w * down e = sym (mul-one (m * up e)) ∙ v.1 in
    rw (v.0, same, mul-div_cancel w (down_pos e))

pub floored : (x : Float) → T (fits binary64 x) → to_signed 63 (floor binary64 x) ≡ floor_of x
unfolding round_with floor_of size_up to_signed
floored nan t = refl
floored (inf true) t = refl
floored (inf false) t = refl
floored (fin false m e) t =
    cast_whole _ false (m * up e / down e) (rounds false m e (digits false m e t) (m * up e / down e) (le_refl _) (rounded_ge (m * up e) (down e)))
floored (fin true m e) t =
    rw (rounded_is (m * up e) (down e) (down_pos e))
    (cast_whole _ true (rounded_up (m * up e) (down e)) (rounds true m e (digits true m e t) (rounded_up (m * up e) (down e)) (rounded_ge (m * up e) (down e)) (le_refl _)))
