-- An accepted answer: every test was passed, and what a row of tests and a search over several lists then say. Assumes nothing.
use Rattle.std.specs.Prelude.{Option, Some, None, Ok}
use mathlib.Core.Path.{◌≡◌, refl, sym, ap}
use mathlib.Core.Bool.{Bool, true, false, not, ◌&&◌, ◌||◌, and-eq-true_iff}
use mathlib.Core.List.{List, [], ◌∷◌}
use Prim.Native.Nat.{ℕ, zero, suc}
use native.Mathlib.Omega.{arith}
use borrow.Author.Tests.{eqb-true}
use lib.ListN.{get_or}
use Rattle.lists.specs.Scans.{first_true, clear}
use Rattle.names.proofs.Laws.Order.{never}
use Rattle.geometry.specs.Coordinates.{coordinate}
use Rattle.layout.specs.Records.{found_at}
use Rattle.layout.specs.Answers.{counted, answer_of}

-- a place that was found is no clear search, and a refusal no accepted call
pub no_place : {A : Type 0} {k : ℕ} → Some k ≡ None → A
no_place h = let z : ◌≡◌ {A = ℕ} 0 1 = cc in absurd (omega arith)

pub record Passed (short over : Option ℕ) (odd : Bool) (coordinate name : Option ℕ) : Type 0 where
  pub first : short ≡ None
  pub second : over ≡ None
  pub third : odd ≡ false
  pub fourth : coordinate ≡ None
  pub fifth : name ≡ None

pub passed : (short over : Option ℕ) (odd : Bool) (coordinate name : Option ℕ) → answer_of short over odd coordinate name ≡ (Ok tt) → Passed short over odd coordinate name
passed (Some k) over odd coordinate name h = let z : ◌≡◌ {A = ℕ} 0 1 = cc in absurd (omega arith)
passed None (Some k) odd coordinate name h = let z : ◌≡◌ {A = ℕ} 0 1 = cc in absurd (omega arith)
passed None None true None name h = let z : ◌≡◌ {A = ℕ} 0 1 = cc in absurd (omega arith)
passed None None true (Some k) name h = let z : ◌≡◌ {A = ℕ} 0 1 = cc in absurd (omega arith)
passed None None false (Some k) name h = let z : ◌≡◌ {A = ℕ} 0 1 = cc in absurd (omega arith)
passed None None false None (Some k) h = let z : ◌≡◌ {A = ℕ} 0 1 = cc in absurd (omega arith)
passed None None false None None h = record { first = refl; second = refl; third = refl; fourth = refl; fifth = refl }

-- where no test of a row holds, each is false
pub none_true : (i : ℕ) (tests : List Bool) → first_true i tests ≡ None → (k : ℕ) → get_or tests k false ≡ false
none_true i [] h k = refl
none_true i (true ∷ tests) h k = no_place h
none_true i (false ∷ tests) h zero = refl
none_true i (false ∷ tests) h (suc k) = none_true (suc i) tests h k

-- nothing is bad in either of two lists
pub counted_here : (n : ℕ) (here behind : Option ℕ) → counted n here behind ≡ None → here ≡ None
counted_here n None behind h = refl
counted_here n (Some k) behind h = no_place h

pub counted_behind : (n : ℕ) (here behind : Option ℕ) → counted n here behind ≡ None → behind ≡ None
counted_behind n None None h = refl
counted_behind n None (Some k) h = no_place h
counted_behind n (Some k) behind h = no_place h

pub found_itself : (k : ℕ) (s : Option ℕ) → found_at k s ≡ true → s ≡ Some k
found_itself k None h = never h
found_itself k (Some j) h = ap Some (eqb-true j k h)

pub both : (a b : Bool) → (a && b) ≡ true → (a ≡ true) × (b ≡ true)
both a b h = (and-eq-true_iff a b).0 h

pub neither : (a b : Bool) → (a || b) ≡ false → (a ≡ false) × (b ≡ false)
neither false b h = (refl, h)
neither true b h = never (sym h)

pub clear_of : (s : Option ℕ) → not (clear s) ≡ false → s ≡ None
clear_of None h = refl
clear_of (Some k) h = never (sym h)
