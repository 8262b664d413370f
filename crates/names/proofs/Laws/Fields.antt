-- The name in a field, and what the tests of a field say. Assumes nothing.
use mathlib.Core.Path.{◌≡◌, refl, ap, ◌∙◌}
use mathlib.Core.Bool.{Bool, true, false}
use Prim.Native.Nat.{ℕ, ◌+◌, ◌≤◌, ◌<◌}
use native.Mathlib.Omega.{arith}
use borrow.Author.Tests.{ne_eqb, leb-false}
use mathlib.Core.List.{List, [], ◌∷◌}
use lib.ListN.{length, get_or, take, drop, length-take, length-drop}
use lib.Seq.{get_or-take, get_or-drop}
use Rattle.names.specs.Fields.{is_zero, name_of, name_allowed, name_or_absent, field_at, whole_at}

-- the name is the front of its field
pub name_front : (xs : List ℕ) → take (length (name_of xs)) xs ≡ name_of xs
unfolding name_of
name_front [] = refl
name_front (x ∷ xs) = go (name_front xs) (is_zero x)
  where
    picked : Bool → List ℕ
    picked b = elim b [ true ↦ [] | false ↦ x ∷ name_of xs ]

    go : take (length (name_of xs)) xs ≡ name_of xs → (b : Bool) → take (length (picked b)) (x ∷ xs) ≡ picked b
    go e true = refl
    go e false = ap (λ (l : List ℕ). x ∷ l) e

pub name_within : (xs : List ℕ) → length (name_of xs) ≤ length xs
name_within xs = omega (arith, ap length (name_front xs), length-take (length (name_of xs)) xs)

-- ---- what the tests of a field say, one after the other

module _ (field : List ℕ) where
  pub wrong_length : (length field ≡ 32 → ⊥) → name_allowed field ≡ false
  unfolding name_allowed
  wrong_length h = rw (ne_eqb (length field) 32 h)

  pub no_field : name_allowed field ≡ false → (length field ≡ 32 → ⊥) → name_or_absent field ≡ false
  unfolding name_or_absent
  no_field h l = rw (h, ne_eqb (length field) 32 l)

-- ---- fields of a table

module _ (table : List ℕ) (at : ℕ) where
  pub field_length : at + 32 ≤ length table → length (field_at table at) ≡ 32
  field_length h = omega (arith, length-take 32 (drop at table), length-drop at table)

  pub field_short : length table < at + 32 → length (field_at table at) ≡ 32 → ⊥
  field_short h e = omega (arith, length-take 32 (drop at table), length-drop at table)

  pub field_byte : (i : ℕ) → i < 32 → get_or (field_at table at) i 0 ≡ get_or table (at + i) 0
  field_byte i h = get_or-take 32 (drop at table) i 0 h ∙ get_or-drop at table i 0

  pub no_name_short : whole_at table at ≡ false → name_allowed (field_at table at) ≡ false
  no_name_short h = wrong_length (field_at table at) (field_short (leb-false (at + 32) (length table) h))

  pub no_absent_short : whole_at table at ≡ false → name_or_absent (field_at table at) ≡ false
  no_absent_short h = no_field (field_at table at) (no_name_short h) (field_short (leb-false (at + 32) (length table) h))
