-- The answer of the front door from what its tests say, and what it leaves in the lent lists. Assumes nothing.
use Rattle.std.specs.Prelude.{Some, None, Ok, Err}
use mathlib.Core.Path.{◌≡◌, ◌∙◌}
use mathlib.Core.Bool.{Bool, true, false}
use mathlib.Core.List.{List, [], ◌∷◌, ◌++◌}
use Prim.Native.Nat.{ℕ, suc, ◌+◌, ◌<◌}
use native.Mathlib.Nat.{add-zero}
use native.Mathlib.Omega.{arith}
use lib.Ieee.{Float}
use lib.ListN.{length}
use Rattle.lists.specs.Fills.{filled_from}
use Rattle.lists.specs.Scans.{first_true}
use Rattle.lists.proofs.Laws.Fills.{filled_whole}
use Rattle.lists.proofs.Laws.Scans.{found}
use Rattle.layout.specs.declared.refusal.Refusal.{Refusal}
use Rattle.layout.specs.Coordinates.{bad_coordinate}
use Rattle.layout.specs.Counts.{layout_tests, table_tests, over_layout, over_tables, over_both}
use Rattle.layout.specs.Answers.{Admission, left_by}

-- ---- answer 2, whose tests are a row in two parts

-- the first part decides where it has a test that holds
in_front : (i : ℕ) (front back : List Bool) {k : ℕ} → first_true i front ≡ Some k → first_true i (front ++ back) ≡ Some k
in_front i [] back h = let z : ◌≡◌ {A = ℕ} 0 1 = cc in absurd (omega arith)
in_front i (true ∷ front) back h = h
in_front i (false ∷ front) back h = in_front (suc i) front back h

-- else the second part does, counted on
in_back : (i : ℕ) (front back : List Bool) → first_true i front ≡ None → first_true i (front ++ back) ≡ first_true (i + length front) back
in_back i [] back h = rw add-zero
in_back i (true ∷ front) back h = let z : ◌≡◌ {A = ℕ} 0 1 = cc in absurd (omega arith)
in_back i (false ∷ front) back h =
    let on : suc i + length front ≡ i + suc (length front) = omega arith in
    in_back (suc i) front back h ∙ rw on

module _ (lengths : List ℕ) (coordinates layers conducting via stack ports : ℕ) where
  pub over_in_layout : {k : ℕ} → over_layout lengths coordinates layers ≡ Some k → over_both lengths coordinates layers conducting via stack ports ≡ Some k
  unfolding over_layout over_both
  over_in_layout h = in_front 0 (layout_tests lengths coordinates layers) (table_tests conducting via stack ports) h

  pub over_in_tables : over_layout lengths coordinates layers ≡ None →
      over_both lengths coordinates layers conducting via stack ports ≡ over_tables conducting via stack ports
  unfolding over_layout over_tables over_both
  over_in_tables h = in_back 0 (layout_tests lengths coordinates layers) (table_tests conducting via stack ports) h

-- a coordinate that is found is one of the list
pub bad_coordinate_below : (xs : List Float) {k : ℕ} → bad_coordinate xs ≡ Some k → k < length xs
unfolding bad_coordinate
bad_coordinate_below xs h = (found _ 0 (length xs) h).below

-- ---- what an answer leaves of a lent list

module _ {A : Type 0} (mark : A) where
  pub left_refused : {answer : Admission} {why : Refusal} (before : List A) {now : List A} → answer ≡ Err why → now ≡ filled_from 0 mark before → now ≡ left_by mark answer before
  unfolding left_by
  left_refused before refused filled = rw refused (filled ∙ filled_whole mark before)

  pub left_alone : {answer : Admission} (list : List A) → answer ≡ (Ok tt) → list ≡ left_by mark answer list
  unfolding left_by
  left_alone list granted = rw granted
