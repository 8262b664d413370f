-- Sums of lengths, taken from the front and from a place on. Assumes nothing.
use mathlib.Core.Path.{◌≡◌, sym, ◌∙◌}
use mathlib.Core.List.{List, [], ◌∷◌, ◌++◌}
use Prim.Native.Nat.{ℕ, zero, suc, ◌+◌, ◌≤◌, ◌<◌}
use native.Mathlib.Numerals.{add-one}
use native.Mathlib.Omega.{arith}
use borrow.Author.Tests.{eq-eqb, ne_eqb}
use lib.Dec.{eqb}
use lib.ListN.{length, get_or, take, drop, drop_of_length-le}
use lib.Seq.{drop-cons, take-suc, take_all}
use Rattle.layout.specs.Rings.{total}

-- ---- a walk along the lengths: what is left of the points

-- the invariant: what is left of the points is what the lengths passed leave of them
pub record Adding (lengths : List ℕ) (points left i : ℕ) : Type 0 where
  pub passed : i ≤ length lengths
  pub rest : total lengths + left ≡ points + total (drop i lengths)

pub adding_start : (lengths : List ℕ) (points : ℕ) → Adding lengths points points 0
adding_start lengths points = record { passed = omega arith; rest = omega arith }

-- the sum from i on is the entry at i and the sum behind it
total_from : (ns : List ℕ) (i : ℕ) → i < length ns → total (drop i ns) ≡ get_or ns i 0 + total (drop (i + 1) ns)
total_from ns i h = rw (add-one, drop-cons ns i 0)

-- nothing is left of p once t is taken from it exactly where t is p
left_over : (t l p : ℕ) → t + l ≡ p → eqb l 0 ≡ eqb t p
left_over t zero p h = sym (eq-eqb t p (omega arith))
left_over t (suc l) p h = ne_eqb (suc l) 0 (λ e. omega arith) ∙ sym (ne_eqb t p (λ e. omega arith))

module _ {lengths : List ℕ} {points left i : ℕ} (a : Adding lengths points left i) where
  pub adding_stops : i < length lengths → left < get_or lengths i 0 → total lengths ≡ points → ⊥
  adding_stops h short e = omega (arith, a.rest, total_from lengths i h)

  pub adding_on : {less : ℕ} → i < length lengths → less + get_or lengths i 0 ≡ left → Adding lengths points less (i + 1)
  adding_on h e = record { passed = omega arith; rest = omega (arith, a.rest, total_from lengths i h) }

  pub adding_ends : length lengths ≤ i → eqb left 0 ≡ eqb (total lengths) points
  adding_ends h =
      let none : total (drop i lengths) ≡ 0 = rw (drop_of_length-le lengths h) in
      left_over (total lengths) left points (omega (arith, a.rest))

-- ---- sums of fronts

pub total_append : (ms ns : List ℕ) → total (ms ++ ns) ≡ total ms + total ns
total_append [] ns = omega arith
total_append (m ∷ ms) ns = omega (arith, total_append ms ns)

-- one length more
pub total_next : (ns : List ℕ) (i : ℕ) → i < length ns → total (take (i + 1) ns) ≡ total (take i ns) + get_or ns i 0
total_next ns i h = rw (add-one, take-suc ns i 0 h, total_append) (omega arith)

pub total_all : (ns : List ℕ) (i : ℕ) → length ns ≤ i → total (take i ns) ≡ total ns
total_all ns i h = rw (take_all i ns h)

-- a front and one length more are at most the whole
pub total_within : (ns : List ℕ) (i : ℕ) → total (take i ns) + get_or ns i 0 ≤ total ns
total_within [] zero = omega arith
total_within [] (suc i) = omega arith
total_within (n ∷ ns) zero = omega arith
total_within (n ∷ ns) (suc i) = omega (arith, total_within ns i)
