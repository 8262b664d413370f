-- The definitions of bytes and names beside the library's words for the same. Assumes nothing.
use mathlib.Core.Path.{◌≡◌, refl}
use mathlib.Core.Bool.{Bool, true, false, not, cond, ◌&&◌}
use Prim.Native.Nat.{ℕ, ◌+◌}
use native.Mathlib.Omega.{arith}
use mathlib.Core.List.{List, [], ◌∷◌}
use Rattle.std.specs.Prelude.{Some, None}
use lib.Dec.{eqb, ltb}
use lib.ListN.{length, take}
use lib.Pointwise.{pointwise}
use Rattle.std.proofs.lemmas.Bool.Decides.{nat_tests}
use Rattle.std.specs.List.{list_all, position, position_or_len, starts_with}
use Rattle.std.specs.Option.{unwrap_or}
use Rattle.std.specs.Ordering.{nat_cmp, is_lt, is_some_and}
use Rattle.std.specs.declared.cmp.Ordering.{Ordering}
use Rattle.std.specs.Cmp.Lexicographic.{slice_cmp, slice_partial_cmp}
use Rattle.std.proofs.lemmas.Cmp.{same_from_slice_cmp, same_from_slice_cmp_tested}
use Rattle.names.specs.Bytes.{all, same_bytes, before, begins_with}
use Rattle.names.specs.Fields.{is_zero, name_of}
use Rattle.names.proofs.Laws.Fields.{name_within}
use borrow.Author.Tests.{ltb-false}

pub all_is : (test : ℕ → Bool) (xs : List ℕ) → list_all test xs ≡ all test xs
unfolding all
all_is test [] = refl
all_is test (x ∷ xs) = go (test x) (all_is test xs)
  where
    go : (b : Bool) → list_all test xs ≡ all test xs → (b && list_all test xs) ≡ elim b [ true ↦ all test xs | false ↦ false ]
    go true e = e
    go false e = refl

pub same_is : (xs ys : List ℕ) → pointwise eqb xs ys ≡ same_bytes xs ys
unfolding same_bytes
same_is [] [] = refl
same_is [] (y ∷ ys) = refl
same_is (x ∷ xs) [] = refl
same_is (x ∷ xs) (y ∷ ys) = go (eqb x y) (same_is xs ys)
  where
    go : (b : Bool) → pointwise eqb xs ys ≡ same_bytes xs ys → (b && pointwise eqb xs ys) ≡ elim b [ true ↦ same_bytes xs ys | false ↦ false ]
    go true e = e
    go false e = refl

pub begins_is : (pattern name : List ℕ) → starts_with eqb name pattern ≡ begins_with pattern name
unfolding begins_with
begins_is [] name = refl
begins_is (p ∷ ps) [] = refl
begins_is (p ∷ ps) (x ∷ xs) = go (eqb p x) (begins_is ps xs)
  where
    go : (b : Bool) → pointwise eqb ps (take (length ps) xs) ≡ begins_with ps xs →
        (b && pointwise eqb ps (take (length ps) xs)) ≡ elim b [ true ↦ begins_with ps xs | false ↦ false ]
    go true e = e
    go false e = refl

pub before_is : (xs ys : List ℕ) (r : Bool) → r ≡ is_some_and is_lt (slice_partial_cmp (λ x y. Some (nat_cmp x y)) xs ys) → r ≡ before xs ys
unfolding before
before_is = same_from_slice_cmp_tested nat_cmp is_lt before refl (λ _ _. refl) (λ _ _. refl) (λ x y xs ys o h. grind (arith, nat_tests))

pub less_is : (xs ys : List ℕ) (o : Ordering) → o ≡ slice_cmp nat_cmp xs ys → is_lt o ≡ before xs ys
unfolding before
less_is = same_from_slice_cmp nat_cmp is_lt before refl (λ _ _. refl) (λ _ _. refl) (λ x y xs ys o h. grind (arith, nat_tests))

-- the name ends at the first zero, or with its field
ends_at : (xs : List ℕ) → position_or_len is_zero xs ≡ length (name_of xs)
unfolding name_of
ends_at [] = refl
ends_at (x ∷ xs) = go (is_zero x) (ends_at xs)
  where
    go : (b : Bool) → position_or_len is_zero xs ≡ length (name_of xs) →
        cond (not b) (1 + position_or_len is_zero xs) 0 ≡ length (elim b as (λ _. List ℕ) [ true ↦ [] | false ↦ x ∷ name_of xs ])
    go true e = refl
    go false e = omega (arith, e)

pub name_ends : (xs : List ℕ) → unwrap_or (position is_zero xs) (length xs) ≡ length (name_of xs)
name_ends xs = go (ltb (position_or_len is_zero xs) (length xs)) refl
  where
    go : (b : Bool) → ltb (position_or_len is_zero xs) (length xs) ≡ b →
        unwrap_or (cond b (Some (position_or_len is_zero xs)) None) (length xs) ≡ length (name_of xs)
    go true e = ends_at xs
    go false e = omega (arith, ltb-false _ _ e, ends_at xs, name_within xs)
