-- A sum and a product are the same either way round, of all floats: NaN, infinities and both zeros included.
use mathlib.Core.Path.{◌≡◌, refl, sym, ap, ◌∙◌}
use Prim.Native.Nat.{ℕ, ◌-◌, ◌*◌, ◌≤◌, ◌<◌}
use native.Mathlib.Nat.{mul_comm as times-comm, add_comm as plus_comm}
use native.Mathlib.Omega.{arith}
use mathlib.Core.Bool.{Bool, true, false, not, cond, beq}
use lib.Dec.{T, eqb, ltb, ltb→lt, nltb→le}
use lib.Ieee.{Float, nan, inf, fin, Format, up, down, round, sum, add, mul}

-- ---- sums
-- -a + b and b - a
mixed : (f : Format) (a b c : ℕ) → sum f true a false b c ≡ sum f false b true a c
unfolding sum
mixed f a b c = go (ltb a b) (ltb b a) (ltb→lt a b) (ltb→lt b a) (nltb→le a b) (nltb→le b a)
  where
    go : (i j : Bool) → (T i → a < b) → (T j → b < a) → (T (not i) → b ≤ a) → (T (not j) → a ≤ b)
        → cond i (round f false (b - a) c) (round f j (a - b) c) ≡ cond j (round f true (a - b) c) (round f false (b - a) c)
    go true true h k m n = absurd (clash (h tt) (k tt))
      where
        clash : a < b → b < a → ⊥
        clash h k = omega arith
    go true false h k m n = refl
    go false true h k m n = refl
    go false false h k m n = ap (λ (w : ℕ). round f false w c) (level (m tt) (n tt))
      where
        level : b ≤ a → a ≤ b → a - b ≡ b - a
        level h k = omega arith

sum_comm : (f : Format) (s : Bool) (a : ℕ) (t : Bool) (b c : ℕ) → sum f s a t b c ≡ sum f t b s a c
unfolding sum
sum_comm f true a true b c = ap (λ (w : ℕ). round f true w c) (plus_comm a b)
sum_comm f false a false b c = ap (λ (w : ℕ). round f false w c) (plus_comm a b)
sum_comm f true a false b c = mixed f a b c
sum_comm f false a true b c = sym (mixed f b a c)

like : (s t : Bool) → beq s t ≡ beq t s
like true true = refl
like true false = refl
like false true = refl
like false false = refl

infinities : (s t : Bool) → cond (beq s t) (inf s) nan ≡ cond (beq t s) (inf t) nan
infinities true true = refl
infinities true false = refl
infinities false true = refl
infinities false false = refl

pub add_comm : (f : Format) (x y : Float) → add f x y ≡ add f y x
unfolding add
add_comm f nan nan = refl
add_comm f nan (inf t) = refl
add_comm f nan (fin t n d) = refl
add_comm f (inf s) nan = refl
add_comm f (inf s) (inf t) = infinities s t
add_comm f (inf s) (fin t n d) = refl
add_comm f (fin s m e) nan = refl
add_comm f (fin s m e) (inf t) = refl
add_comm f (fin s m e) (fin t n d) =
    sum_comm f s (m * up e * down d) t (n * up d * down e) (down e * down d) ∙ ap (sum f t (n * up d * down e) s (m * up e * down d)) (times-comm (down e) (down d))

-- ---- products
pub mul_comm : (f : Format) (x y : Float) → mul f x y ≡ mul f y x
unfolding mul
mul_comm f nan nan = refl
mul_comm f nan (inf t) = refl
mul_comm f nan (fin t n d) = refl
mul_comm f (inf s) nan = refl
mul_comm f (inf s) (inf t) = ap (λ (b : Bool). inf (not b)) (like s t)
mul_comm f (inf s) (fin t n d) = ap (λ (b : Bool). cond (eqb n 0) nan (inf (not b))) (like s t)
mul_comm f (fin s m e) nan = refl
mul_comm f (fin s m e) (inf t) = ap (λ (b : Bool). cond (eqb m 0) nan (inf (not b))) (like s t)
mul_comm f (fin s m e) (fin t n d) = rw (like s t, times-comm (m * up e) (n * up d), times-comm (down e) (down d))
