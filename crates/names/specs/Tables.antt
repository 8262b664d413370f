-- Tables of records: how many there are, and which is the first with a key.
use Rattle.std.specs.Prelude.{ℕ, ◌+◌, ◌-◌, ◌*◌, ◌/◌, Bool, false, List, eqb, ℤ, pos, negsuc, length, get_or, Option}
use Rattle.lists.specs.Scans.{first_in}
use Rattle.names.specs.Fields.{same_field}

-- how many records of a width a list of so many elements has: the quotient, rounded up
abbrev pub record_count : ℕ → ℕ → ℕ
record_count size width = (size + (width - 1)) / width

-- the first record of a table, by whole records of a width, whose first field is the one at a byte of another list
unfoldable pub look_up : List ℕ → ℕ → List ℕ → ℕ → Option ℕ
look_up table width keys at = first_in (λ k. same_field table (k * width) keys at) 0 (length table / width)

-- two layer numbers are equal
abbrev pub int_same : ℤ → ℤ → Bool
int_same (pos a) (pos b) = eqb a b
int_same (pos a) (negsuc b) = false
int_same (negsuc a) (pos b) = false
int_same (negsuc a) (negsuc b) = eqb a b

-- the first record of the layer table with a number
unfoldable pub layer_record : List ℤ → ℤ → Option ℕ
layer_record numbers number = first_in (λ k. int_same (get_or numbers k (pos 0)) number) 0 (length numbers)
