-- A test that every element of a list passes: of an element, of a part, of two lists in one, in another order. Assumes nothing.
use mathlib.Core.Path.{◌≡◌, refl, sym, ap, ◌∙◌}
use mathlib.Core.Bool.{Bool, true}
use Prim.Native.Nat.{ℕ, zero, suc, ◌<◌}
use native.Mathlib.Omega.{arith}
use mathlib.Core.List.{List, [], ◌∷◌, ◌++◌, Memᴰ, Permᴰ}
use lib.ListN.{length, get_or, take, drop}
use Rattle.lists.specs.All.{AllOf}

module _ {A : Type 0} (test : A → Bool) where
  pub all_at : (xs : List A) (i : ℕ) (d : A) → AllOf test xs → i < length xs → test (get_or xs i d) ≡ true
  unfolding AllOf
  all_at [] i d a h = absurd (omega arith)
  all_at (x ∷ xs) zero d a h = a.0
  all_at (x ∷ xs) (suc i) d a h = all_at xs i d a.1 (omega arith)

  -- by its elements
  pub all_by : (xs : List A) (d : A) → ((i : ℕ) → i < length xs → test (get_or xs i d) ≡ true) → AllOf test xs
  unfolding AllOf
  all_by [] d each = tt
  all_by (x ∷ xs) d each = (each 0 (omega arith), all_by xs d (λ i h. each (suc i) (omega arith)))

  pub all_append : (xs ys : List A) → AllOf test xs → AllOf test ys → AllOf test (xs ++ ys)
  unfolding AllOf
  all_append [] ys a b = b
  all_append (x ∷ xs) ys a b = (a.0, all_append xs ys a.1 b)

  pub all_left : (xs ys : List A) → AllOf test (xs ++ ys) → AllOf test xs
  unfolding AllOf
  all_left [] ys a = tt
  all_left (x ∷ xs) ys a = (a.0, all_left xs ys a.1)

  pub all_right : (xs ys : List A) → AllOf test (xs ++ ys) → AllOf test ys
  unfolding AllOf
  all_right [] ys a = a
  all_right (x ∷ xs) ys a = all_right xs ys a.1

  pub all_take : (k : ℕ) (xs : List A) → AllOf test xs → AllOf test (take k xs)
  unfolding AllOf
  all_take zero xs a = tt
  all_take (suc k) [] a = tt
  all_take (suc k) (x ∷ xs) a = (a.0, all_take k xs a.1)

  pub all_drop : (k : ℕ) (xs : List A) → AllOf test xs → AllOf test (drop k xs)
  unfolding AllOf
  all_drop zero xs a = a
  all_drop (suc k) [] a = tt
  all_drop (suc k) (x ∷ xs) a = all_drop k xs a.1

  pub all_member : {x : A} (xs : List A) → AllOf test xs → Memᴰ x xs → test x ≡ true
  unfolding AllOf
  all_member [] a m = elim m [ ]
  all_member (y ∷ xs) a (Memᴰ.head e) = ap test e ∙ a.0
  all_member (y ∷ xs) a (Memᴰ.tail m) = all_member xs a.1 m

  pub all_of_members : (xs : List A) → ((x : A) → Memᴰ x xs → test x ≡ true) → AllOf test xs
  unfolding AllOf
  all_of_members [] h = tt
  all_of_members (x ∷ xs) h = (h x (Memᴰ.head refl), all_of_members xs (λ y m. h y (Memᴰ.tail m)))

  -- a permutation keeps it
  pub all_permuted : {xs ys : List A} → Permᴰ xs ys → AllOf test xs → AllOf test ys
  unfolding AllOf
  all_permuted Permᴰ.nil a = a
  all_permuted (Permᴰ.cons e d) a = (ap test (sym e) ∙ a.0, all_permuted d a.1)
  all_permuted (Permᴰ.swap e f) a = (ap test (sym f) ∙ a.1.0, (ap test (sym e) ∙ a.0, a.1.1))
  all_permuted (Permᴰ.trans d e) a = all_permuted e (all_permuted d a)

-- a test that asks less
pub all_weaker : {A : Type 0} {f g : A → Bool} → ((x : A) → f x ≡ true → g x ≡ true) → (xs : List A) → AllOf f xs → AllOf g xs
unfolding AllOf
all_weaker w [] a = tt
all_weaker w (x ∷ xs) a = (w x a.0, all_weaker w xs a.1)
