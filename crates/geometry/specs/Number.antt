-- Numbers: the lesser, the greater, the size, the greatest whole number not above. antt has no float literal, so each is its bit pattern.
use Rattle.std.specs.Prelude.{ℕ, suc, ◌-◌, ◌*◌, ◌/◌, ◌^◌, min, true, false, cond, ℤ, pos, neg_ℤ, from_bits, nat_lt, Float}
use Rattle.std.specs.Float.{binary64, nan, inf, fin}
use Rattle.std.specs.Float.Ieee.{up, down, lt}

-- 0.0 and 2.0
abbrev pub nought : Float
nought = from_bits binary64 0

abbrev pub two : Float
two = from_bits binary64 0x4000_0000_0000_0000

-- 1e-15: heights less than this apart are one, and a width counts only above it
abbrev pub resolution : Float
resolution = from_bits binary64 0x3cd2_03af_9ee7_5616

-- 1e-12: what is less than this apart touches
abbrev pub gap : Float
gap = from_bits binary64 0x3d71_9799_812d_ea11

-- the lesser and the greater of two numbers; the first where neither is
unfoldable pub lesser : Float → Float → Float
lesser a b = cond (lt b a) b a

unfoldable pub greater : Float → Float → Float
greater a b = cond (lt a b) b a

-- x with its sign dropped
unfoldable pub size_of : Float → Float
size_of nan = nan
size_of (inf s) = inf false
size_of (fin s m e) = fin false m e

-- a / b, rounded up: one more where b does not go into a
unfoldable pub rounded_up : ℕ → ℕ → ℕ
rounded_up a b = cond (nat_lt (a / b * b) a) (suc (a / b)) (a / b)

-- how large x is, rounded up; a finite x is m * up e / down e in size
unfoldable pub size_up : Float → ℕ
size_up nan = 0
size_up (inf s) = 2 ^ 63
size_up (fin s m e) = rounded_up (m * up e) (down e)

-- the greatest whole number that is not above x, brought to the nearest end of i64's range where it is out of it, and 0 for `nan`
unfoldable pub floor_of : Float → ℤ
floor_of nan = pos 0
floor_of (inf true) = neg_ℤ (pos (2 ^ 63))
floor_of (inf false) = pos (2 ^ 63 - 1)
floor_of (fin true m e) = neg_ℤ (pos (min (size_up (fin true m e)) (2 ^ 63)))
floor_of (fin false m e) = pos (min (m * up e / down e) (2 ^ 63 - 1))
