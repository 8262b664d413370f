-- Negative zero, by equality with 0 and the sign that a division by it has. Assumes nothing.
use mathlib.Core.Path.{◌≡◌, refl}
use mathlib.Core.Bool.{true, false, or-true}
use Prim.Native.Nat.{zero, suc, ◌*◌}
use native.Mathlib.Omega.{arith}
use native.Mathlib.Nat.{mul-pos, zero-lt-suc}
use borrow.Author.Tests.{eq-eqb, ne_eqb}
use lib.Dec.{eqb-suc-zero}
use lib.Ieee.Fits.{up_pos}
use lib.Ieee.{Float, nan, inf, fin, lt, eq, div, of_bits, binary64, up, down}
use Rattle.lists.proofs.Laws.Tests.{never, refuted}
use Rattle.floats.specs.Kinds.{negative_zero}

-- 0.0 as the code has it
abbrev pub nought : Float
nought = of_bits binary64 0

-- 1.0 as the code has it
abbrev pub one : Float
one = of_bits binary64 0x3ff0_0000_0000_0000

-- 1 divided by a zero has its sign
pub sign_of_zero : (x : Float) → eq x nought ≡ true → lt (div binary64 one x) nought ≡ negative_zero x
unfolding negative_zero lt div eq of_bits
sign_of_zero nan z = never z refl
sign_of_zero (inf s) z = never z refl
sign_of_zero (fin false zero e) z = refl
sign_of_zero (fin true zero e) z = refl
sign_of_zero (fin s (suc m) e) z =
    never z (rw (ne_eqb (suc m * up e * 1) (0 * down e) (λ h. omega (arith, mul-pos (zero-lt-suc m) (up_pos e)))))

-- either sign of 0 is equal to 0
zero_is : (x : Float) → negative_zero x ≡ true → eq x nought ≡ true
unfolding negative_zero eq of_bits
zero_is nan h = never h refl
zero_is (inf s) h = never h refl
zero_is (fin s zero e) h = rw (eq-eqb (0 * up e * 1) (0 * down e) (omega arith), eq-eqb (0 * up e * 1) 0 (omega arith), or-true)
zero_is (fin false (suc m) e) h = never h refl
zero_is (fin true (suc m) e) h = never h (eqb-suc-zero m)

pub no_zero : (x : Float) → eq x nought ≡ false → negative_zero x ≡ false
no_zero x z = refuted (λ t. never (zero_is x t) z)
