-- "What comes in": a coordinate is finite, from -0.125 to 0.125 (metres), and not negative zero.
use Rattle.std.specs.Prelude.{Bool, not, ◌&&◌, from_bits, Float}
use Rattle.std.specs.Float.{binary64}
use Rattle.std.specs.Float.Ieee.{neg, le}
use Rattle.floats.specs.Kinds.{negative_zero}

-- 0.125
abbrev pub eighth : Float
eighth = from_bits binary64 0x3fc0_0000_0000_0000

unfoldable pub coordinate : Float → Bool
coordinate x = le (neg eighth) x && (le x eighth && not (negative_zero x))
