-- A pattern at the start of a name, and anywhere in it: what is left of them decides. Assumes nothing.
use mathlib.Core.Path.{◌≡◌, refl, sym, ◌∙◌}
use mathlib.Core.Bool.{Bool, true, false}
use Prim.Native.Nat.{ℕ, suc, ◌+◌, ◌-◌, ◌≤◌, ◌<◌}
use native.Mathlib.Numerals.{add-one}
use native.Mathlib.Omega.{arith}
use borrow.Author.Tests.{eq-eqb, ne_eqb}
use mathlib.Core.List.{List, [], ◌∷◌}
use lib.Dec.{eqb}
use lib.ListN.{length, get_or, take, drop, drop_of_length-le}
use lib.Seq.{drop-cons}
use Rattle.names.specs.Bytes.{begins_with, contains}
use Rattle.names.proofs.Laws.Bytes.{part_to_end}

-- a pattern that is longer than the name
pub begins_too_long : (pattern name : List ℕ) → length name < length pattern → begins_with pattern name ≡ false
unfolding begins_with
begins_too_long [] name h = absurd (omega arith)
begins_too_long (p ∷ ps) [] h = refl
begins_too_long (p ∷ ps) (x ∷ xs) h = go (begins_too_long ps xs (omega arith)) (eqb p x)
  where
    go : begins_with ps xs ≡ false → (b : Bool) → ◌≡◌ {A = Bool} (elim b [ true ↦ begins_with ps xs | false ↦ false ]) false
    go e true = e
    go e false = refl

-- the invariant of a walk along both: their bytes from i on decide
pub record Matching (pattern name : List ℕ) (i : ℕ) : Type 0 where
  pub fits : length pattern ≤ length name
  pub rest : begins_with (drop i pattern) (drop i name) ≡ begins_with pattern name

pub matching_start : (pattern name : List ℕ) → length pattern ≤ length name → Matching pattern name 0
matching_start pattern name h = record { fits = h; rest = refl }

module _ {pattern name : List ℕ} {i : ℕ} (m : Matching pattern name i) where
  pub begins_goes_on : i < length pattern → get_or pattern i 0 ≡ get_or name i 0 → Matching pattern name (i + 1)
  unfolding begins_with
  begins_goes_on h e =
      let inside : i < length name = omega (arith, m.fits) in
      record {
        fits = m.fits;
        rest = sym (rw (drop-cons pattern i 0 h, drop-cons name i 0 inside, begins_with, eq-eqb (get_or pattern i 0) (get_or name i 0) e, add-one)) ∙ m.rest;
      }

  pub begins_stops : i < length pattern → (get_or pattern i 0 ≡ get_or name i 0 → ⊥) → begins_with pattern name ≡ false
  unfolding begins_with
  begins_stops h e =
      let inside : i < length name = omega (arith, m.fits) in
      sym m.rest ∙ rw (drop-cons pattern i 0 h, drop-cons name i 0 inside, begins_with, ne_eqb (get_or pattern i 0) (get_or name i 0) e)

  pub begins_ends : length pattern ≤ i → begins_with pattern name ≡ true
  unfolding begins_with
  begins_ends h = sym m.rest ∙ rw (drop_of_length-le pattern h)

-- behind the name only the empty pattern stands
only_empty : (pattern : List ℕ) → begins_with pattern [] ≡ eqb (length pattern) 0
unfolding begins_with
only_empty [] = sym (eq-eqb 0 0 refl)
only_empty (p ∷ ps) = sym (ne_eqb (suc (length ps)) 0 (λ e. omega arith))

-- the invariant of a walk that looks for the pattern: the bytes from i on decide
pub record Looking (pattern name : List ℕ) (i : ℕ) : Type 0 where
  pub rest : contains pattern (drop i name) ≡ contains pattern name

pub looking_start : (pattern name : List ℕ) → Looking pattern name 0
looking_start pattern name = record { rest = refl }

-- the pattern at a place of the name, tried on the part from there to the end
module _ {pattern name : List ℕ} {i : ℕ} (l : Looking pattern name i) where
  pub contains_here : i < length name → begins_with pattern (take (length name - i) (drop i name)) ≡ true → contains pattern name ≡ true
  unfolding contains
  contains_here h b =
      let here : begins_with pattern (get_or name i 0 ∷ drop (suc i) name) ≡ true = rw (part_to_end name i, drop-cons name i 0 h) at b in
      sym l.rest ∙ rw (drop-cons name i 0 h, contains, here)

  pub contains_goes_on : i < length name → begins_with pattern (take (length name - i) (drop i name)) ≡ false → Looking pattern name (i + 1)
  unfolding contains
  contains_goes_on h b =
      let here : begins_with pattern (get_or name i 0 ∷ drop (suc i) name) ≡ false = rw (part_to_end name i, drop-cons name i 0 h) at b in
      record { rest = sym (rw (drop-cons name i 0 h, contains, here, add-one)) ∙ l.rest }

  pub contains_ends : length name ≤ i → contains pattern name ≡ eqb (length pattern) 0
  unfolding contains
  contains_ends h = sym l.rest ∙ rw (drop_of_length-le name h) (only_empty pattern)
