-- Names, and the fields of 32 bytes that hold them.
use Rattle.std.specs.Prelude.{ℕ, ◌+◌, ◌-◌, Bool, true, false, not, ◌&&◌, ◌||◌, List, [], ◌∷◌, ◌++◌, leb, ltb, eqb, length, take, drop, replicate}
use Rattle.names.specs.Bytes.{all, same_bytes, before}

-- a byte that a name may have, from 0x21 to 0x7E
abbrev pub visible : ℕ → Bool
visible b = leb 0x21 b && leb b 0x7e

-- a byte of the padding
abbrev pub is_zero : ℕ → Bool
is_zero b = eqb b 0

-- "What comes in": 1 to 32 bytes from 0x21 to 0x7E but not the single byte `-`
unfoldable pub allowed : List ℕ → Bool
allowed name = ltb 0 (length name) && (leb (length name) 32 && (all visible name && not (same_bytes name (0x2d ∷ []))))

-- the name in a field: its bytes before the padding
unfoldable pub name_of : List ℕ → List ℕ
name_of [] = []
name_of (x ∷ xs) = elim (is_zero x) [ true ↦ [] | false ↦ x ∷ name_of xs ]

-- what stands behind the name
abbrev pub padding_of : List ℕ → List ℕ
padding_of field = drop (length (name_of field)) field

-- a field of 32 bytes that holds an allowed name, with zeros alone behind it
unfoldable pub name_allowed : List ℕ → Bool
name_allowed field = eqb (length field) 32 && (all is_zero (padding_of field) && allowed (name_of field))

-- a field of 32 bytes that holds an allowed name or, for "absent", zeros alone
unfoldable pub name_or_absent : List ℕ → Bool
name_or_absent field = name_allowed field || (eqb (length field) 32 && all is_zero field)

-- the field that holds a name
unfoldable pub field_of : List ℕ → List ℕ
field_of name = name ++ replicate (32 - length name) 0

-- ---- fields of a table

-- the field that starts at a byte of a table, as far as it is there
abbrev pub field_at : List ℕ → ℕ → List ℕ
field_at table at = take 32 (drop at table)

-- the field is wholly there
abbrev pub whole_at : List ℕ → ℕ → Bool
whole_at table at = leb (at + 32) (length table)

-- the name in that field
abbrev pub name_at : List ℕ → ℕ → List ℕ
name_at table at = name_of (field_at table at)

-- two fields are wholly there and hold the same bytes
unfoldable pub same_field : List ℕ → ℕ → List ℕ → ℕ → Bool
same_field a i b j = whole_at a i && (whole_at b j && same_bytes (field_at a i) (field_at b j))

-- two fields are wholly there and the first comes before the second in byte order
unfoldable pub field_before : List ℕ → ℕ → List ℕ → ℕ → Bool
field_before a i b j = whole_at a i && (whole_at b j && before (field_at a i) (field_at b j))
