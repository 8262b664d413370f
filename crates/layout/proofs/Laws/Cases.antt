-- Coordinates at the edges of the rule, by computation: each row is a bit pattern and whether it is allowed. Assumes nothing.
use mathlib.Core.Path.{◌≡◌, refl}
use mathlib.Core.Bool.{Bool, true, false, ◌&&◌, beq}
use Prim.Native.Nat.{ℕ}
use mathlib.Core.List.{List, [], ◌∷◌}
use lib.Ieee.{of_bits, binary64, neg, le}
use Rattle.floats.specs.Kinds.{negative_zero}
use Rattle.geometry.specs.Coordinates.{coordinate}

-- every row is as it says
abbrev holds : List (ℕ × Bool) → Bool
holds [] = true
holds (row ∷ rows) = beq (coordinate (of_bits binary64 row.0)) row.1 && holds rows

-- 0.125 and the next above, both negated, 0.0 and -0.0, the smallest above zero, an infinity, a NaN
abbrev patterns : List (ℕ × Bool)
patterns =
    (0x3fc0_0000_0000_0000, true) ∷ (0x3fc0_0000_0000_0001, false) ∷ (0xbfc0_0000_0000_0000, true) ∷ (0xbfc0_0000_0000_0001, false) ∷
    (0, true) ∷ (0x8000_0000_0000_0000, false) ∷ (1, true) ∷ (0x7ff0_0000_0000_0000, false) ∷ (0x7ff8_0000_0000_0000, false) ∷ []

pub coordinate_edges : holds patterns ≡ true
unfolding coordinate negative_zero le neg of_bits
coordinate_edges = refl
