-- `size_of` is f64's own `abs`. Assumes nothing.
use Rattle.std.proofs.Common.{◌≡◌, false, refl}
use lib.Ieee.{Float, nan, inf, fin}
use Rattle.std.specs.Float.{float_with_sign}
use Rattle.geometry.specs.Number.{size_of}

pub size_is : (x : Float) → float_with_sign false x ≡ size_of x
unfolding float_with_sign size_of
size_is nan = refl
size_is (inf s) = refl
size_is (fin s m e) = refl
