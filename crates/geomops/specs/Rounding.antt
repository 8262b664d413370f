-- How near a computed crossing is to the exact one. An f64 value is taken as a whole number of units of 2 ^ -1074 (`scaled`).
use Rattle.std.specs.Prelude.{◌*◌, ◌^◌, ◌≤◌, ◌≡◌, Bool, false, not, ◌&&◌, ℤ, nat_abs, ◌+ℤ◌, ◌-ℤ◌, ◌*ℤ◌, T, Float}
use Rattle.std.specs.Float.{binary64}
use Rattle.std.specs.Float.Ieee.{of_bits, neg, le}
use Rattle.std.specs.Float.Ieee.Scale.{finite}
use Rattle.floats.specs.Kinds.{negative_zero}
use Rattle.floats.specs.Scaled.{scaled}
use Rattle.geometry.specs.declared.ring.Point.{Point}

-- 0.125
abbrev pub eighth : Float
eighth = of_bits binary64 0x3fc0_0000_0000_0000

-- a coordinate is finite, from -0.125 to 0.125 (metres), and not negative zero ("What comes in")
unfoldable pub coordinate : Float → Bool
coordinate x = le (neg eighth) x && (le x eighth && not (negative_zero x))

-- r is within 2 ^ -52 of the exact crossing a.x + (y - a.y) * (b.x - a.x) / (b.y - a.y). All is in units, of which 2 ^ -52 has 2 ^ 1022, and
-- multiplied by the rise of the edge, b.y - a.y, so that nothing is divided.
unfoldable pub NearExact : Point → Point → Float → Float → Type 0
NearExact a b y r =
    let rise : ℤ = scaled b.y -ℤ scaled a.y in
    nat_abs (scaled r *ℤ rise -ℤ (scaled a.x *ℤ rise +ℤ (scaled y -ℤ scaled a.y) *ℤ (scaled b.x -ℤ scaled a.x))) ≤ 2 ^ 1022 * nat_abs rise

-- what a crossing is: near the exact one, finite, and not negative zero
pub record Crosses (a b : Point) (y r : Float) : Type 0 where
  pub near : NearExact a b y r
  pub number : T (finite r)
  pub unsigned : negative_zero r ≡ false
