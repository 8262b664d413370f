-- A part of a list of bytes. Assumes nothing.
use mathlib.Core.Path.{◌≡◌}
use Prim.Native.Nat.{ℕ, ◌-◌}
use native.Mathlib.Omega.{arith}
use mathlib.Core.List.{List}
use lib.ListN.{length, take, drop, length-drop}
use lib.Seq.{take_all}

-- a part that goes to the end is all that is left
pub part_to_end : (xs : List ℕ) (i : ℕ) → take (length xs - i) (drop i xs) ≡ drop i xs
part_to_end xs i = take_all (length xs - i) (drop i xs) (omega (arith, length-drop i xs))
