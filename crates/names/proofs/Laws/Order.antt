-- Equal lists of bytes, and byte order: a strict order in which of two lists that are not equal one comes first. Assumes nothing.
use mathlib.Core.Path.{◌≡◌, refl, sym, ◌∙◌}
use mathlib.Core.Bool.{Bool, true, false}
use mathlib.Core.Logic.{◌⊎◌, inl, inr}
use Prim.Native.Nat.{ℕ, ◌<◌}
use native.Mathlib.Omega.{arith}
use borrow.Author.Tests.{eq-eqb, ne_eqb, eqb-true, eqb-false, lt-ltb, ltb-true, ltb-false}
use mathlib.Core.List.{List, [], ◌∷◌}
use lib.Dec.{eqb, ltb}
use Rattle.names.specs.Bytes.{same_bytes, before}

-- a test cannot say both
pub never : {A : Type 0} → false ≡ true → A
never h = let z : ◌≡◌ {A = ℕ} 0 1 = cc in absurd (omega arith)

-- ---- equality

pub same_itself : (xs : List ℕ) → same_bytes xs xs ≡ true
unfolding same_bytes
same_itself [] = refl
same_itself (x ∷ xs) = rw (same_bytes, eq-eqb x x refl) (same_itself xs)

pub same_of_equal : {xs ys : List ℕ} → xs ≡ ys → same_bytes xs ys ≡ true
same_of_equal {xs} e = rw (← e) (same_itself xs)

pub equal_of_same : (xs ys : List ℕ) → same_bytes xs ys ≡ true → xs ≡ ys
unfolding same_bytes
equal_of_same [] [] h = refl
equal_of_same [] (y ∷ ys) h = never h
equal_of_same (x ∷ xs) [] h = never h
equal_of_same (x ∷ xs) (y ∷ ys) h = go (equal_of_same xs ys) (eqb x y) refl h
  where
    go : (same_bytes xs ys ≡ true → xs ≡ ys) → (b : Bool) → eqb x y ≡ b →
        ◌≡◌ {A = Bool} (elim b [ true ↦ same_bytes xs ys | false ↦ false ]) true → x ∷ xs ≡ y ∷ ys
    go later true e r = cc (eqb-true x y e, later r)
    go later false e r = never r

pub other_of_false : {xs ys : List ℕ} → same_bytes xs ys ≡ false → xs ≡ ys → ⊥
other_of_false h e = never {A = ⊥} (sym h ∙ same_of_equal e)

-- ---- order

-- equal first bytes leave it to the rest; others decide
cons_equal : (x y : ℕ) (xs ys : List ℕ) → x ≡ y → before (x ∷ xs) (y ∷ ys) ≡ before xs ys
unfolding before
cons_equal x y xs ys e = rw (before, eq-eqb x y e)

cons_other : (x y : ℕ) (xs ys : List ℕ) → (x ≡ y → ⊥) → before (x ∷ xs) (y ∷ ys) ≡ ltb x y
unfolding before
cons_other x y xs ys h = rw (before, ne_eqb x y h)

cons_less : (x y : ℕ) (xs ys : List ℕ) → x < y → before (x ∷ xs) (y ∷ ys) ≡ true
cons_less x y xs ys h = cons_other x y xs ys (λ e. omega arith) ∙ lt-ltb x y h

-- either the first bytes are equal and the rests are in order, or the first bytes are
first_decides : (x y : ℕ) (xs ys : List ℕ) → before (x ∷ xs) (y ∷ ys) ≡ true → ((x ≡ y) × (before xs ys ≡ true)) ⊎ (x < y)
unfolding before
first_decides x y xs ys h = go (eqb x y) refl h
  where
    go : (b : Bool) → eqb x y ≡ b → ◌≡◌ {A = Bool} (elim b [ true ↦ before xs ys | false ↦ ltb x y ]) true →
        ((x ≡ y) × (before xs ys ≡ true)) ⊎ (x < y)
    go true e r = inl (eqb-true x y e, r)
    go false e r = inr (ltb-true x y r)

pub before_itself : (xs : List ℕ) → before xs xs ≡ false
unfolding before
before_itself [] = refl
before_itself (x ∷ xs) = cons_equal x x xs xs refl ∙ before_itself xs

pub before_trans : (xs ys zs : List ℕ) → before xs ys ≡ true → before ys zs ≡ true → before xs zs ≡ true
unfolding before
before_trans [] [] zs h k = never h
before_trans [] (y ∷ ys) [] h k = never k
before_trans [] (y ∷ ys) (z ∷ zs) h k = refl
before_trans (x ∷ xs) [] zs h k = never h
before_trans (x ∷ xs) (y ∷ ys) [] h k = never k
before_trans (x ∷ xs) (y ∷ ys) (z ∷ zs) h k = go (before_trans xs ys zs) (first_decides x y xs ys h) (first_decides y z ys zs k)
  where
    go : (before xs ys ≡ true → before ys zs ≡ true → before xs zs ≡ true)
        → ((x ≡ y) × (before xs ys ≡ true)) ⊎ (x < y) → ((y ≡ z) × (before ys zs ≡ true)) ⊎ (y < z) → before (x ∷ xs) (z ∷ zs) ≡ true
    go later (inl a) (inl b) = cons_equal x z xs zs (a.0 ∙ b.0) ∙ later a.1 b.1
    go later (inl a) (inr b) = cons_less x z xs zs (omega (arith, a.0))
    go later (inr a) (inl b) = cons_less x z xs zs (omega (arith, b.0))
    go later (inr a) (inr b) = cons_less x z xs zs (omega arith)

-- two lists neither of which comes first are one
pub before_total : (xs ys : List ℕ) → before xs ys ≡ false → before ys xs ≡ false → xs ≡ ys
unfolding before
before_total [] [] h k = refl
before_total [] (y ∷ ys) h k = never (sym h)
before_total (x ∷ xs) [] h k = never (sym k)
before_total (x ∷ xs) (y ∷ ys) h k = go (before_total xs ys) (eqb x y) refl
  where
    go : (before xs ys ≡ false → before ys xs ≡ false → xs ≡ ys) → (b : Bool) → eqb x y ≡ b → x ∷ xs ≡ y ∷ ys
    go later true e =
        let same : x ≡ y = eqb-true x y e in
        cc (later (sym (cons_equal x y xs ys same) ∙ h) (sym (cons_equal y x ys xs (sym same)) ∙ k))
    go later false e =
        let other = eqb-false x y e in
        let low = ltb-false x y (sym (cons_other x y xs ys other) ∙ h) in
        let high = ltb-false y x (sym (cons_other y x ys xs (λ q. other (sym q))) ∙ k) in
        absurd (other (omega arith))
