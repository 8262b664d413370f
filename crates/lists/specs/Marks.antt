-- The empty marks: what fills a lent list on a refusal, and every place behind an accepted result.
use Rattle.std.specs.Prelude.{ℕ, Float}
use Rattle.std.specs.Float.{binary64}
use Rattle.std.specs.Float.Ieee.{of_bits}

-- `usize::MAX`, in lists of whole numbers
abbrev pub empty_number : ℕ
empty_number = 18446744073709551615

-- 0.0, in lists of coordinates
abbrev pub empty_coordinate : Float
empty_coordinate = of_bits binary64 0
