-- Names and markers at the edges of the rules, by computation: each row is an input and what the definition says of it. Assumes nothing.
use mathlib.Core.Path.{◌≡◌, refl}
use mathlib.Core.Bool.{Bool, true, false, ◌&&◌, beq}
use Prim.Native.Nat.{ℕ}
use mathlib.Core.List.{List, [], ◌∷◌, ◌++◌}
use lib.ListN.{replicate}
use Rattle.names.specs.Bytes.{all, same_bytes, begins_with, contains}
use Rattle.names.specs.Fields.{allowed, name_of, name_allowed}
use Rattle.names.specs.Markers.{is_marker, seed, block, prop, marker, drawing}

-- every row's test is as the row says
abbrev holds : {A : Type 0} → (A → Bool) → List (A × Bool) → Bool
holds test [] = true
holds test (row ∷ rows) = beq (test row.0) row.1 && holds test rows

-- a field that starts so, with zeros behind
abbrev field : List ℕ → ℕ → List ℕ
field front zeros = front ++ replicate zeros 0

-- nothing, `-`, `--`, `!`, `~`, a space, 0x7F, 31 bytes, 32 bytes, 33 bytes, a field of 31 bytes, a byte behind a zero
abbrev fields : List (List ℕ × Bool)
fields =
    (field [] 32, false) ∷ (field (0x2d ∷ []) 31, false) ∷ (field (0x2d ∷ 0x2d ∷ []) 30, true) ∷ (field (0x21 ∷ []) 31, true) ∷
    (field (0x7e ∷ []) 31, true) ∷ (field (0x20 ∷ []) 31, false) ∷ (field (0x7f ∷ []) 31, false) ∷ (field (replicate 31 0x41) 1, true) ∷
    (replicate 32 0x41, true) ∷ (replicate 33 0x41, false) ∷ (field (0x41 ∷ []) 30, false) ∷ (field (0x41 ∷ 0 ∷ 0x41 ∷ []) 29, false) ∷ []

pub field_edges : holds name_allowed fields ≡ true
unfolding name_allowed name_of allowed all same_bytes
field_edges = refl

-- each pattern alone and behind an `x`, `seed` and `BLOCK` without their `_`, and a pattern cut short at the end
abbrev patterns : List (List ℕ × Bool)
patterns =
    (seed, true) ∷ (block, true) ∷ (prop, true) ∷ (marker, true) ∷ (drawing, true) ∷
    (0x78 ∷ seed, false) ∷ (0x78 ∷ block, false) ∷ (0x78 ∷ prop, true) ∷ (0x78 ∷ marker, true) ∷ (0x78 ∷ drawing, true) ∷
    (0x73 ∷ 0x65 ∷ 0x65 ∷ 0x64 ∷ [], false) ∷ (0x42 ∷ 0x4c ∷ 0x4f ∷ 0x43 ∷ 0x4b ∷ [], false) ∷
    (0x6d ∷ 0x61 ∷ 0x72 ∷ 0x6b ∷ 0x65 ∷ [], false) ∷ ([], false) ∷ []

pub marker_edges : holds is_marker patterns ≡ true
unfolding is_marker begins_with contains
marker_edges = refl
