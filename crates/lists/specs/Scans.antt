-- Where a test first holds.
use Rattle.std.specs.Prelude.{ℕ, zero, suc, ◌-◌, Bool, true, false, List, [], ◌∷◌, Option, Some, None}

-- the first of the n places from i on at which the test holds
unfoldable pub first_from : (ℕ → Bool) → ℕ → ℕ → Option ℕ
first_from test i zero = None
first_from test i (suc n) = elim (test i) [ true ↦ Some i | false ↦ first_from test (suc i) n ]

-- the first place from `from` up to, and not including, `end` at which the test holds
unfoldable pub first_in : (ℕ → Bool) → ℕ → ℕ → Option ℕ
first_in test from end = first_from test from (end - from)

-- the place, counted from i, of the first test of a row that holds
abbrev pub first_true : ℕ → List Bool → Option ℕ
first_true i [] = None
first_true i (true ∷ tests) = Some i
first_true i (false ∷ tests) = first_true (suc i) tests

-- the search found nothing
abbrev pub clear : Option ℕ → Bool
clear None = true
clear (Some k) = false
