-- Fields stand for their names: two fields with allowed names are the same, and in byte order, exactly as the names are. The padding is
-- of zeros, which no name has and which come before every byte of a name. Assumes nothing.
use mathlib.Core.Path.{◌≡◌, refl, sym, ap₂, ◌∙◌}
use mathlib.Core.Bool.{Bool, true, false, not, and-eq-true_iff}
use Prim.Native.Nat.{ℕ, zero, suc, ◌+◌, ◌-◌, ◌≤◌}
use native.Mathlib.Omega.{arith}
use borrow.Author.Tests.{ne_eqb, eqb-true, eqb-false, lt-ltb, le-ltb, not-true}
use mathlib.Core.List.{List, [], ◌∷◌, ◌++◌}
use lib.Dec.{eqb, ltb}
use lib.ListN.{length, replicate, length-drop, take-append-drop}
use Rattle.lists.specs.All.{AllOf}
use Rattle.names.specs.Bytes.{all, same_bytes, before}
use Rattle.names.specs.Fields.{is_zero, allowed, name_of, padding_of, name_allowed, name_or_absent, field_of, field_at, whole_at, name_at, same_field, field_before}
use Rattle.lists.proofs.Laws.Tests.{not_of_false}
use Rattle.names.proofs.Laws.Order.{never, same_itself, before_itself}
use Rattle.names.proofs.Laws.Fields.{name_front, name_within, no_name_short, no_absent_short}

-- ---- a field is its name and zeros

-- bytes that are no padding
abbrev set : ℕ → Bool
set b = not (is_zero b)

all_zeros : (xs : List ℕ) → all is_zero xs ≡ true → xs ≡ replicate (length xs) 0
unfolding all
all_zeros [] h = refl
all_zeros (x ∷ xs) h = go (all_zeros xs) (is_zero x) refl h
  where
    go : (all is_zero xs ≡ true → xs ≡ replicate (length xs) 0) → (b : Bool) → is_zero x ≡ b →
        ◌≡◌ {A = Bool} (elim b [ true ↦ all is_zero xs | false ↦ false ]) true → x ∷ xs ≡ 0 ∷ replicate (length xs) 0
    go later true e r = cc (eqb-true x 0 e, later r)
    go later false e r = never r

name_set : (xs : List ℕ) → AllOf set (name_of xs)
unfolding name_of AllOf
name_set [] = tt
name_set (x ∷ xs) = go (name_set xs) (is_zero x) refl
  where
    go : AllOf set (name_of xs) → (b : Bool) → is_zero x ≡ b → AllOf set (elim b [ true ↦ [] | false ↦ x ∷ name_of xs ])
    go later true e = tt
    go later false e = (not_of_false e, later)

-- what an allowed field is made of
pub record Holds (field : List ℕ) : Type 0 where
  pub long : length field ≡ 32
  pub name : allowed (name_of field) ≡ true
  pub short : length (name_of field) ≤ 32
  pub padded : field ≡ field_of (name_of field)

pub holds : (field : List ℕ) → name_allowed field ≡ true → Holds field
unfolding name_allowed allowed field_of
holds field h =
    let tests = (and-eq-true_iff (eqb (length field) 32) _).0 h in
    let inner = (and-eq-true_iff (all is_zero (padding_of field)) _).0 tests.1 in
    let long : length field ≡ 32 = eqb-true (length field) 32 tests.0 in
    let zeros : padding_of field ≡ replicate (32 - length (name_of field)) 0 =
    all_zeros (padding_of field) inner.0 ∙ rw (length-drop (length (name_of field)) field, long) in
    record {
      long = long;
      name = inner.1;
      short = omega (arith, name_within field);
      padded = sym (take-append-drop (length (name_of field)) field) ∙ ap₂ (λ (l m : List ℕ). l ++ m) (name_front field) zeros;
    }

-- a field that holds a name, or is absent, is wholly there
pub name_whole : (table : List ℕ) (at : ℕ) → name_allowed (field_at table at) ≡ true → whole_at table at ≡ true
name_whole table at h = go (whole_at table at) refl
  where
    go : (b : Bool) → whole_at table at ≡ b → b ≡ true
    go true e = refl
    go false e = sym (no_name_short table at e) ∙ h

pub absent_whole : (table : List ℕ) (at : ℕ) → name_or_absent (field_at table at) ≡ true → whole_at table at ≡ true
absent_whole table at h = go (whole_at table at) refl
  where
    go : (b : Bool) → whole_at table at ≡ b → b ≡ true
    go true e = refl
    go false e = sym (no_absent_short table at e) ∙ h

-- ---- equal and ordered as the names

-- a byte of a name is no zero
no_zero : (x : ℕ) → set x ≡ true → x ≡ 0 → ⊥
no_zero x h = eqb-false x 0 (not-true (is_zero x) h)

same_padded : (xs ys : List ℕ) (i j : ℕ) → AllOf set xs → AllOf set ys → length xs + i ≡ length ys + j →
    same_bytes (xs ++ replicate i 0) (ys ++ replicate j 0) ≡ same_bytes xs ys
unfolding same_bytes AllOf
same_padded [] [] i j a b e =
    let same : i ≡ j = omega arith in
    rw same (same_itself (replicate j 0))
same_padded [] (y ∷ ys) zero j a b e = absurd (omega arith)
same_padded [] (y ∷ ys) (suc i) j a b e = rw (same_bytes, ne_eqb 0 y (λ z. no_zero y b.0 (sym z)))
same_padded (x ∷ xs) [] i zero a b e = absurd (omega arith)
same_padded (x ∷ xs) [] i (suc j) a b e = rw (same_bytes, ne_eqb x 0 (no_zero x a.0))
same_padded (x ∷ xs) (y ∷ ys) i j a b e = go (same_padded xs ys i j a.1 b.1 (omega arith)) (eqb x y)
  where
    go : same_bytes (xs ++ replicate i 0) (ys ++ replicate j 0) ≡ same_bytes xs ys → (t : Bool) →
        ◌≡◌ {A = Bool} (elim t [ true ↦ same_bytes (xs ++ replicate i 0) (ys ++ replicate j 0) | false ↦ false ]) (elim t [ true ↦ same_bytes xs ys | false ↦ false ])
    go later true = later
    go later false = refl

before_padded : (xs ys : List ℕ) (i j : ℕ) → AllOf set xs → AllOf set ys → length xs + i ≡ length ys + j →
    before (xs ++ replicate i 0) (ys ++ replicate j 0) ≡ before xs ys
unfolding before AllOf
before_padded [] [] i j a b e =
    let same : i ≡ j = omega arith in
    rw same (before_itself (replicate j 0))
before_padded [] (y ∷ ys) zero j a b e = absurd (omega arith)
before_padded [] (y ∷ ys) (suc i) j a b e =
    let some : y ≡ 0 → ⊥ = no_zero y b.0 in
    rw (before, ne_eqb 0 y (λ z. some (sym z))) (lt-ltb 0 y (omega arith))
before_padded (x ∷ xs) [] i zero a b e = absurd (omega arith)
before_padded (x ∷ xs) [] i (suc j) a b e = rw (before, ne_eqb x 0 (no_zero x a.0)) (le-ltb x 0 (omega arith))
before_padded (x ∷ xs) (y ∷ ys) i j a b e = go (before_padded xs ys i j a.1 b.1 (omega arith)) (eqb x y)
  where
    go : before (xs ++ replicate i 0) (ys ++ replicate j 0) ≡ before xs ys → (t : Bool) →
        ◌≡◌ {A = Bool} (elim t [ true ↦ before (xs ++ replicate i 0) (ys ++ replicate j 0) | false ↦ ltb x y ]) (elim t [ true ↦ before xs ys | false ↦ ltb x y ])
    go later true = later
    go later false = refl

-- the law: equality and order of two allowed fields are those of their names
pub record AsNames (a b : List ℕ) : Type 0 where
  pub same : same_bytes a b ≡ same_bytes (name_of a) (name_of b)
  pub order : before a b ≡ before (name_of a) (name_of b)

pub as_names : (a b : List ℕ) → name_allowed a ≡ true → name_allowed b ≡ true → AsNames a b
unfolding field_of
as_names a b ha hb =
    let fa = holds a ha in
    let fb = holds b hb in
    let as_long : length (name_of a) + (32 - length (name_of a)) ≡ length (name_of b) + (32 - length (name_of b)) = omega (arith, fa.short, fb.short) in
    record {
      same = ap₂ same_bytes fa.padded fb.padded ∙ same_padded (name_of a) (name_of b) _ _ (name_set a) (name_set b) as_long;
      order = ap₂ before fa.padded fb.padded ∙ before_padded (name_of a) (name_of b) _ _ (name_set a) (name_set b) as_long;
    }

-- the same of two fields of tables
module _ (a : List ℕ) (i : ℕ) (b : List ℕ) (j : ℕ) (ha : name_allowed (field_at a i) ≡ true) (hb : name_allowed (field_at b j) ≡ true) where
  pub same_name : same_field a i b j ≡ same_bytes (name_at a i) (name_at b j)
  unfolding same_field
  same_name = rw (name_whole a i ha, name_whole b j hb) (as_names (field_at a i) (field_at b j) ha hb).same

  pub name_before : field_before a i b j ≡ before (name_at a i) (name_at b j)
  unfolding field_before
  name_before = rw (name_whole a i ha, name_whole b j hb) (as_names (field_at a i) (field_at b j) ha hb).order
