-- Text in memory that is lent.
use Rattle.std.specs.Prelude.{ℕ, List, [], ◌++◌, ◌-◌, ◌^◌, false, take}
use Rattle.std.specs.Fmt.{digits, format_spec, padded_integral}

-- What was written, and how many bytes there is room for
pub record Text : Type 0 where
  pub bytes : List ℕ
  pub room : ℕ

-- More behind it: what has no room is left out
abbrev pub put : Text → List ℕ → Text
put t more = record { bytes = take t.room (t.bytes ++ more); room = t.room }

-- A number's 16 hexadecimal digits, in lower case, with zeros in front
abbrev pub sixteen_digits : ℕ → List ℕ
sixteen_digits n = padded_integral (format_spec 32 0 4 16 (2 ^ 64 - 1)) false [] (digits 16 false n)
