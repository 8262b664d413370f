-- What an allowed coordinate is: finite, a number, and plain. Assumes nothing.
use Rattle.std.proofs.Common.{◌≡◌, Bool, true, false, ◌&&◌, T, refl}
use borrow.Author.Tests.{not-true}
use lib.Ieee.{Float, of_bits, neg, le}
use lib.Ieee.Scale.{finite}
use Rattle.lists.proofs.Laws.Tests.{never}
use Rattle.floats.specs.Kinds.{negative_zero, plain}
use Rattle.floats.proofs.Laws.Kinds.{is_plain}
use Rattle.floats.proofs.Laws.Order.{le_left, between_finite}
use Rattle.geometry.specs.Coordinates.{eighth, coordinate}

-- the three tests of a coordinate
pub record Bounded (x : Float) : Type 0 where
  pub low : le (neg eighth) x ≡ true
  pub high : le x eighth ≡ true
  pub unsigned : negative_zero x ≡ false

both : (a b : Bool) → (a && b) ≡ true → (a ≡ true) × (b ≡ true)
both true b h = (refl, h)
both false b h = never h refl

pub bounded : (x : Float) → coordinate x ≡ true → Bounded x
unfolding coordinate
bounded x h =
    let outer = both (le (neg eighth) x) _ h in
    let inner = both (le x eighth) _ outer.1 in
    record { low = outer.0; high = inner.0; unsigned = not-true (negative_zero x) inner.1 }

pub coordinate_finite : (x : Float) → coordinate x ≡ true → T (finite x)
unfolding of_bits neg
coordinate_finite x h = let b = bounded x h in between_finite (neg eighth) x eighth tt tt b.low b.high

pub coordinate_plain : (x : Float) → coordinate x ≡ true → plain x ≡ true
coordinate_plain x h = let b = bounded x h in is_plain x (le_left x eighth b.high) b.unsigned
