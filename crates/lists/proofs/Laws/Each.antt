-- What f gives of each element of a list in turn, in one list (`flat_map`): of two lists in one, and of one element more. Assumes nothing.
use mathlib.Core.Path.{◌≡◌, refl}
use Prim.Native.Nat.{ℕ, ◌+◌, ◌≤◌, ◌<◌}
use native.Mathlib.Numerals.{add-one}
use mathlib.Core.List.{List, [], ◌∷◌, ◌++◌, append_assoc, append-nil, flat_map}
use lib.ListN.{length, get_or, take}
use lib.Seq.{take-suc, take_all}

module _ {A B : Type 0} (f : A → List B) where
  pub each_append : (l m : List A) → flat_map f (l ++ m) ≡ flat_map f l ++ flat_map f m
  unfolding flat_map
  each_append [] m = refl
  each_append (x ∷ l) m = rw (each_append l m, append_assoc)

  pub each_one : (x : A) → flat_map f (x ∷ []) ≡ f x
  unfolding flat_map
  each_one x = append-nil (f x)

  -- a loop over the list: at its start, one turn on, and at its end
  pub each_none : (l : List A) → flat_map f (take 0 l) ≡ []
  unfolding flat_map
  each_none l = refl

  pub each_next : (l : List A) (k : ℕ) (d : A) → k < length l → flat_map f (take (k + 1) l) ≡ flat_map f (take k l) ++ f (get_or l k d)
  each_next l k d h = rw (add-one k, take-suc l k d h, each_append, each_one)

  pub each_all : (l : List A) (k : ℕ) → length l ≤ k → flat_map f (take k l) ≡ flat_map f l
  each_all l k h = rw (take_all k l h)
