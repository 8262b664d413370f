-- Lists of bytes: equal ones, their order, and where one begins or stands in another.
use Rattle.std.specs.Prelude.{ℕ, Bool, true, false, ◌||◌, List, [], ◌∷◌, eqb, ltb}

-- every byte passes the test
unfoldable pub all : (ℕ → Bool) → List ℕ → Bool
all test [] = true
all test (x ∷ xs) = elim (test x) [ true ↦ all test xs | false ↦ false ]

-- the same bytes, and as many
unfoldable pub same_bytes : List ℕ → List ℕ → Bool
same_bytes [] [] = true
same_bytes [] (y ∷ ys) = false
same_bytes (x ∷ xs) [] = false
same_bytes (x ∷ xs) (y ∷ ys) = elim (eqb x y) [ true ↦ same_bytes xs ys | false ↦ false ]

-- byte order: the first byte that differs decides, and what ends first comes first
unfoldable pub before : List ℕ → List ℕ → Bool
before [] [] = false
before [] (y ∷ ys) = true
before (x ∷ xs) [] = false
before (x ∷ xs) (y ∷ ys) = elim (eqb x y) [ true ↦ before xs ys | false ↦ ltb x y ]

-- a name starts with the bytes of a pattern
unfoldable pub begins_with : List ℕ → List ℕ → Bool
begins_with [] name = true
begins_with (p ∷ ps) [] = false
begins_with (p ∷ ps) (x ∷ xs) = elim (eqb p x) [ true ↦ begins_with ps xs | false ↦ false ]

-- the bytes of a pattern stand in a name, one behind the other, at its start or anywhere
unfoldable pub contains : List ℕ → List ℕ → Bool
contains pattern [] = begins_with pattern []
contains pattern (x ∷ xs) = begins_with pattern (x ∷ xs) || contains pattern xs
