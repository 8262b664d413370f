-- Lists that a loop builds: one turn more, how long they are, what stands at a place, a test that all pass. Assumes nothing.
use mathlib.Core.Path.{◌≡◌, refl, ◌∙◌}
use mathlib.Core.Logic.{⊎_elim}
use mathlib.Core.Bool.{Bool, true}
use Prim.Native.Nat.{ℕ, zero, suc, ◌+◌, ◌*◌, ◌≤◌, ◌<◌, zero-le}
use native.Mathlib.Nat.{eq-or-lt_of_le}
use native.Mathlib.Numerals.{add-one}
use native.Mathlib.Omega.{arith}
use mathlib.Core.List.{List, [], ◌∷◌, ◌++◌}
use lib.ListN.{length, get_or, length-append, get_or-append}
use lib.Seq.{get_or_at}
use Rattle.lists.specs.All.{AllOf}
use Rattle.lists.specs.Gathered.{gathered, tabulate}
use Rattle.lists.proofs.Laws.All.{all_append}

module _ {A : Type 0} where
  pub gathered_none : (f : ℕ → List A) → gathered f 0 ≡ []
  unfolding gathered
  gathered_none f = refl

  pub gathered_next : (f : ℕ → List A) (k : ℕ) → gathered f (k + 1) ≡ gathered f k ++ f k
  unfolding gathered
  gathered_next f k = rw add-one refl

  -- at most w elements a turn
  pub gathered_few : (f : ℕ → List A) (w : ℕ) → ((i : ℕ) → length (f i) ≤ w) → (k : ℕ) → length (gathered f k) ≤ k * w
  unfolding gathered
  gathered_few f w each zero = zero-le
  gathered_few f w each (suc k) = rw length-append (omega (arith, each k, gathered_few f w each k))

  pub tabulate_none : (f : ℕ → A) → tabulate f 0 ≡ []
  unfolding tabulate
  tabulate_none f = refl

  pub tabulate_next : (f : ℕ → A) (k : ℕ) → tabulate f (k + 1) ≡ tabulate f k ++ (f k ∷ [])
  unfolding tabulate
  tabulate_next f k = rw add-one refl

  pub tabulate_length : (f : ℕ → A) (k : ℕ) → length (tabulate f k) ≡ k
  unfolding tabulate
  tabulate_length f zero = refl
  tabulate_length f (suc k) = rw length-append (omega (arith, tabulate_length f k))

  pub tabulate_at : (f : ℕ → A) (k i : ℕ) (d : A) → i < k → get_or (tabulate f k) i d ≡ f i
  unfolding tabulate
  tabulate_at f zero i d h = absurd (omega arith)
  tabulate_at f (suc k) i d h = ⊎_elim
      (λ here. rw here (get_or_at (tabulate f k) (f k) [] d k (tabulate_length f k)))
      (λ below. get_or-append (tabulate f k) (f k ∷ []) d i (rw (tabulate_length f k) below) ∙ tabulate_at f k i d below)
      (eq-or-lt_of_le {n = i} {m = k} (omega arith))

module _ {A : Type 0} (test : A → Bool) where
  -- a test that all elements of each turn pass
  pub gathered_all : (f : ℕ → List A) (k : ℕ) → ((i : ℕ) → i < k → AllOf test (f i)) → AllOf test (gathered f k)
  unfolding gathered AllOf
  gathered_all f zero each = tt
  gathered_all f (suc k) each = all_append test (gathered f k) (f k) (gathered_all f k (λ i h. each i (omega arith))) (each k (omega arith))

  pub tabulate_all : (f : ℕ → A) (k : ℕ) → ((i : ℕ) → i < k → test (f i) ≡ true) → AllOf test (tabulate f k)
  unfolding tabulate AllOf
  tabulate_all f zero each = tt
  tabulate_all f (suc k) each = all_append test (tabulate f k) (f k ∷ []) (tabulate_all f k (λ i h. each i (omega arith))) (each k (omega arith), tt)
