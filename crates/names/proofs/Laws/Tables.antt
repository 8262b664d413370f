-- What a look-up finds, and layer numbers compared. Assumes nothing.
use mathlib.Core.Path.{◌≡◌, refl, sym, ap, subst, ◌∙◌}
use mathlib.Core.Bool.{true, false}
use Prim.Native.Nat.{ℕ, ◌*◌, ◌/◌, ◌<◌, zero-le}
use native.Mathlib.Nat.{div-zero}
use native.Mathlib.Omega.{arith}
use borrow.Author.Tests.{eq-eqb, eqb-true}
use mathlib.Core.List.{List}
use Rattle.std.specs.Prelude.{Some, None}
use Rattle.lists.specs.Scans.{first_in, first_from}
use Rattle.lists.proofs.Laws.Scans.{Found, found, found_none}
use Rattle.names.specs.Fields.{same_field}
use Rattle.names.proofs.Laws.Order.{never}
use lib.IntN.{ℤ, pos, negsuc}
use lib.ListN.{length, get_or}
use Rattle.names.specs.Tables.{look_up, int_same, layer_record}

-- no list has records of width 0
pub no_records : (table : List ℕ) {width : ℕ} (keys : List ℕ) (at : ℕ) → width ≡ 0 → look_up table width keys at ≡ None
unfolding look_up first_in first_from
no_records table keys at h = rw (h, div-zero)

-- ---- layer numbers

int_itself : (z : ℤ) → int_same z z ≡ true
int_itself (pos n) = eq-eqb n n refl
int_itself (negsuc n) = eq-eqb n n refl

-- the test says what it should
pub other_int : (a b : ℤ) → int_same a b ≡ false → a ≡ b → ⊥
other_int a b h e = never {A = ⊥} (sym h ∙ subst (λ (z : ℤ). int_same a z ≡ true) e (int_itself a))

pub same_int : (a b : ℤ) → int_same a b ≡ true → a ≡ b
same_int (pos a) (pos b) h = ap pos (eqb-true a b h)
same_int (pos a) (negsuc b) h = let z : ◌≡◌ {A = ℕ} 0 1 = cc in absurd (omega arith)
same_int (negsuc a) (pos b) h = let z : ◌≡◌ {A = ℕ} 0 1 = cc in absurd (omega arith)
same_int (negsuc a) (negsuc b) h = ap negsuc (eqb-true a b h)

-- ---- what a look-up finds: the least record with the key, or that none has it

module _ (table : List ℕ) (width : ℕ) (keys : List ℕ) (at : ℕ) where
  pub look_up_found : {k : ℕ} → look_up table width keys at ≡ Some k → Found (λ j. same_field table (j * width) keys at) 0 (length table / width) k
  unfolding look_up
  look_up_found h = found (λ j. same_field table (j * width) keys at) 0 (length table / width) h

  pub look_up_none : look_up table width keys at ≡ None → (j : ℕ) → j < length table / width → same_field table (j * width) keys at ≡ false
  unfolding look_up
  look_up_none h j below = found_none (λ j. same_field table (j * width) keys at) 0 (length table / width) h j zero-le below

module _ (numbers : List ℤ) (number : ℤ) where
  pub layer_found : {k : ℕ} → layer_record numbers number ≡ Some k → Found (λ j. int_same (get_or numbers j (pos 0)) number) 0 (length numbers) k
  unfolding layer_record
  layer_found h = found (λ j. int_same (get_or numbers j (pos 0)) number) 0 (length numbers) h

  pub layer_none : layer_record numbers number ≡ None → (j : ℕ) → j < length numbers → int_same (get_or numbers j (pos 0)) number ≡ false
  unfolding layer_record
  layer_none h j below = found_none (λ j. int_same (get_or numbers j (pos 0)) number) 0 (length numbers) h j zero-le below
