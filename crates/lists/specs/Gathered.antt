-- Lists that a loop builds, one turn after the other.
use Rattle.std.specs.Prelude.{ℕ, zero, suc, List, [], ◌∷◌, ◌++◌}

-- what f gives at 0, at 1 and so on, k times, in one list
unfoldable pub gathered : {A : Type 0} → (ℕ → List A) → ℕ → List A
gathered f zero = []
gathered f (suc k) = gathered f k ++ f k

-- the list of f 0, f 1 and so on, k elements
unfoldable pub tabulate : {A : Type 0} → (ℕ → A) → ℕ → List A
tabulate f zero = []
tabulate f (suc k) = tabulate f k ++ (f k ∷ [])
