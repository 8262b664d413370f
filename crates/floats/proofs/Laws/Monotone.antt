-- A sum grows with each of its parts, and a difference x - y with x and against y: of all finite values, also where the result overflows.
use mathlib.Core.Path.{◌≡◌}
use Prim.Native.Nat.{ℕ, ◌+◌, ◌≤◌}
use native.Mathlib.Omega.{arith}
use mathlib.Core.Bool.{Bool, true, false, cond}
use lib.Dec.{T}
use lib.Ieee.{Float, nan, inf, fin, binary64, add, sub, neg, le}
use lib.Ieee.Scale.{finite}
use Rattle.floats.proofs.Laws.Kinds.{finite_number}
use Rattle.floats.proofs.Laws.Order.{le_left, le_right}
use Rattle.floats.proofs.Laws.Scale.{high, deep, three, le_says, says_le, neg_on, high_neg, deep_neg}
use Rattle.floats.proofs.Laws.Growth.{round_le}
use Rattle.floats.proofs.Laws.Sums.{Signed, add_summed}
use Rattle.floats.proofs.Laws.Commuting.{add_comm}

signed_order : (s t : Bool) (p n q m w v : ℕ) → Signed s p n w → Signed t q m v → p + m ≤ q + n → cond s 0 w + cond t v 0 ≤ cond t 0 v + cond s w 0
signed_order false false p n q m w v h k l = omega arith
signed_order false true p n q m w v h k l = omega arith
signed_order true false p n q m w v h k l = omega arith
signed_order true true p n q m w v h k l = omega arith

-- ---- sums
pub add_le_left : (x y z : Float) → T (finite x) → T (finite y) → T (finite z) → le x y ≡ true → le (add binary64 x z) (add binary64 y z) ≡ true
add_le_left x y z i j k h =
    let (S, p, q, r) = three x y z (finite_number x i) (finite_number y j) (finite_number z k) in
    let A = add_summed i k p r in
    let B = add_summed j k q r in
    rw (A.is, B.is)
    (round_le A.sign B.sign A.size B.size S.part S.some
    (signed_order A.sign B.sign (high p + high r) (deep p + deep r) (high q + high r) (deep q + deep r) A.size B.size A.value B.value
    (omega (arith, le_says p q h))))

pub add_le_right : (x y z : Float) → T (finite x) → T (finite y) → T (finite z) → le x y ≡ true → le (add binary64 z x) (add binary64 z y) ≡ true
add_le_right x y z i j k h = rw (add_comm binary64 z x, add_comm binary64 z y) (add_le_left x y z i j k h)

-- ---- the other sign
pub neg_finite : (x : Float) → T (finite x) → T (finite (neg x))
unfolding neg
neg_finite nan f = f
neg_finite (inf s) f = f
neg_finite (fin s m e) f = f

pub neg_le : (x y : Float) → le x y ≡ true → le (neg y) (neg x) ≡ true
neg_le x y h =
    let (S, p, q, r) = three x y y (le_left x y h) (le_right x y h) (le_right x y h) in
    says_le (neg_on q) (neg_on p) (rw (high_neg q, deep_neg p, high_neg p, deep_neg q) (omega (arith, le_says p q h)))

-- ---- differences
pub sub_le_left : (x y z : Float) → T (finite x) → T (finite y) → T (finite z) → le x y ≡ true → le (sub binary64 x z) (sub binary64 y z) ≡ true
unfolding sub
sub_le_left x y z i j k h = add_le_left x y (neg z) i j (neg_finite z k) h

pub sub_le_right : (x y z : Float) → T (finite x) → T (finite y) → T (finite z) → le x y ≡ true → le (sub binary64 z y) (sub binary64 z x) ≡ true
unfolding sub
sub_le_right x y z i j k h = add_le_right (neg y) (neg x) z (neg_finite y j) (neg_finite x i) k (neg_le x y h)
