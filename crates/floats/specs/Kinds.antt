-- The kinds of f64 values that are told apart: numbers, negative zero, plain numbers, and lists of these.
-- `finite`, of `lib.Ieee.Scale`, is the kind that leaves the infinities out too. Definitions only.
use Rattle.std.specs.Prelude.{Bool, false, not, ◌&&◌, List, eqb}
use Rattle.lists.specs.All.{AllOf}
use lib.Ieee.{Float, nan, inf, fin, is_nan}

-- no NaN: a finite number or an infinity
unfoldable pub is_number : Float → Bool
unfolding is_nan
is_number x = not (is_nan x)

-- a zero with the minus sign
unfoldable pub negative_zero : Float → Bool
negative_zero nan = false
negative_zero (inf s) = false
negative_zero (fin s m e) = s && eqb m 0

-- no NaN and no negative zero: plain values that are equal by `==` are one value
unfoldable pub plain : Float → Bool
unfolding is_number negative_zero
plain x = is_number x && not (negative_zero x)

-- lists of numbers, and of plain values
abbrev pub AllNumbers : List Float → Type 0
AllNumbers l = AllOf is_number l

abbrev pub AllPlain : List Float → Type 0
AllPlain l = AllOf plain l
