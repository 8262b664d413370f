-- The kinds and each other: a plain value is a number and no negative zero, and a finite value is a number.
use mathlib.Core.Path.{◌≡◌, refl}
use mathlib.Core.Bool.{true, false, not, and-eq-true_iff}
use lib.Dec.{T}
use lib.Ieee.{Float, nan, inf, fin}
use lib.Ieee.Scale.{finite}
use borrow.Author.Tests.{not-true}
use Rattle.floats.specs.Kinds.{is_number, negative_zero, plain}

pub plain_number : (x : Float) → plain x ≡ true → is_number x ≡ true
unfolding plain
plain_number x h = ((and-eq-true_iff (is_number x) _).0 h).0

pub plain_unsigned : (x : Float) → plain x ≡ true → negative_zero x ≡ false
unfolding plain
plain_unsigned x h = not-true (negative_zero x) ((and-eq-true_iff (is_number x) (not (negative_zero x))).0 h).1

pub is_plain : (x : Float) → is_number x ≡ true → negative_zero x ≡ false → plain x ≡ true
unfolding plain
is_plain x h k = (and-eq-true_iff (is_number x) (not (negative_zero x))).1 (h, rw k)

pub finite_number : (x : Float) → T (finite x) → is_number x ≡ true
unfolding is_number
finite_number nan f = absurd f
finite_number (inf s) f = absurd f
finite_number (fin s m e) f = refl
