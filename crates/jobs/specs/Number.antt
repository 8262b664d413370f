-- A whole number at the front of a line.
use Rattle.std.specs.Prelude.{ℕ, List, ◌+◌, ◌%◌, drop, take_while}
use Rattle.std.specs.List.{prefix_len}
use Rattle.std.specs.Char.{is_digit}
use Rattle.std.specs.Str.Parse.{digits_value}

-- Its value: the last nine digits count
abbrev pub number_of : List ℕ → ℕ
number_of line = digits_value 10 (take_while (λ b. is_digit b 10) line) % 1000000000

-- What is left behind its digits and the byte after them
abbrev pub behind_number : List ℕ → List ℕ
behind_number line = drop (prefix_len (λ b. is_digit b 10) line + 1) line
