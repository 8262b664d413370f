-- "From polygons to nets", rule 2: which logical names are markers.
use Rattle.std.specs.Prelude.{ℕ, Bool, ◌||◌, List, [], ◌∷◌}
use Rattle.names.specs.Bytes.{begins_with, contains}

-- `seed_`
abbrev pub seed : List ℕ
seed = 0x73 ∷ 0x65 ∷ 0x65 ∷ 0x64 ∷ 0x5f ∷ []

-- `BLOCK_`
abbrev pub block : List ℕ
block = 0x42 ∷ 0x4c ∷ 0x4f ∷ 0x43 ∷ 0x4b ∷ 0x5f ∷ []

-- `_prop`
abbrev pub prop : List ℕ
prop = 0x5f ∷ 0x70 ∷ 0x72 ∷ 0x6f ∷ 0x70 ∷ []

-- `marker`
abbrev pub marker : List ℕ
marker = 0x6d ∷ 0x61 ∷ 0x72 ∷ 0x6b ∷ 0x65 ∷ 0x72 ∷ []

-- `drawing`
abbrev pub drawing : List ℕ
drawing = 0x64 ∷ 0x72 ∷ 0x61 ∷ 0x77 ∷ 0x69 ∷ 0x6e ∷ 0x67 ∷ []

-- begins with `seed_` or `BLOCK_`, or contains `_prop`, `marker` or `drawing`
unfoldable pub is_marker : List ℕ → Bool
is_marker name =
    begins_with seed name || (begins_with block name || (contains prop name || (contains marker name || contains drawing name)))
