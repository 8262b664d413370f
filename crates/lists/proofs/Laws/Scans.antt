-- A loop that looks for the first place from `from` up to `end` at which a test holds: how it starts, goes on, stops and ends; and what
-- the answer means. Assumes nothing.
use mathlib.Core.Path.{◌≡◌, refl, ◌∙◌}
use mathlib.Core.Bool.{Bool, true, false, cond}
use Prim.Native.Nat.{ℕ, zero, suc, ◌+◌, ◌-◌, ◌≤◌, ◌<◌}
use mathlib.Core.Logic.{⊎_elim}
use native.Mathlib.Nat.{eq-or-lt_of_le}
use native.Mathlib.Numerals.{add-one}
use native.Mathlib.Omega.{arith}
use Rattle.lists.specs.Scans.{first_from, first_in}
use denote.Param.Members.{Mut}
use denote.Ref.{Bor}
use Rattle.std.specs.Bool.{⊤}
use Rattle.std.specs.Fn.{CalledAt}
use Rattle.std.specs.Iterator.{YieldsThen}
use Rattle.std.specs.List.{FoldsTo}
use Rattle.std.specs.declared.ops.Range.{Range}
use Rattle.std.proofs.iter.Yields.{nat_range_steps}
use Rattle.std.proofs.lemmas.Iterator.{YieldsList-from_range}
use Rattle.std.proofs.lemmas.Iterator.Search.{find_from_yields_List}
use Rattle.std.specs.Prelude.{Option, Some, None, MatchOption, List}
use Rattle.std.specs.Option.{option_map}
use Rattle.std.specs.List.{find, range_with_len}

-- the invariant: what is to be found from `from` on is what is to be found from i on
pub record Scanning (test : ℕ → Bool) (end from i : ℕ) : Type 0 where
  pub rest : first_in test from end ≡ first_in test i end

pub scan_start : (test : ℕ → Bool) (end from : ℕ) → Scanning test end from from
scan_start test end from = record { rest = refl }

module _ {test : ℕ → Bool} {end from i : ℕ} (s : Scanning test end from i) where
  pub scan_stops : i < end → test i ≡ true → first_in test from end ≡ Some i
  unfolding first_in first_from
  scan_stops h b =
      let one_more : end - i ≡ suc (end - (i + 1)) = omega arith in
      s.rest ∙ rw one_more (rw (first_from, b))

  pub scan_goes_on : i < end → test i ≡ false → Scanning test end from (i + 1)
  unfolding first_in first_from
  scan_goes_on h b =
      let one_more : end - i ≡ suc (end - (i + 1)) = omega arith in
      record { rest = s.rest ∙ rw one_more (rw (first_from, b, add-one)) }

  pub scan_ends : end ≤ i → first_in test from end ≡ None
  unfolding first_in first_from
  scan_ends h =
      let none_left : end - i ≡ 0 = omega arith in
      s.rest ∙ rw none_left refl

-- ---- a search that says what it found, as a library's does

module _ (test : ℕ → Bool) (end : ℕ) where
  -- the test holds at none of the first i places
  pub scan_past : (i : ℕ) → i ≤ end → ((j : ℕ) → j < i → test j ≡ false) → Scanning test end 0 i
  scan_past zero h none = scan_start test end 0
  scan_past (suc i) h none = rw (← add-one i) (scan_goes_on (scan_past i (omega arith) (λ j l. none j (omega arith))) (omega arith) (none i (omega arith)))

  pub first_is : (k : ℕ) → k < end → test k ≡ true → ((j : ℕ) → j < k → test j ≡ false) → first_in test 0 end ≡ Some k
  first_is k h t none = scan_stops (scan_past k (omega arith) none) h t

  pub first_is_none : ((j : ℕ) → j < end → test j ≡ false) → first_in test 0 end ≡ None
  first_is_none none = scan_ends (scan_past end (omega arith) none) (omega arith)

  pub first_by : (r : Option ℕ) →
      MatchOption r ((j : ℕ) → j < end → test j ≡ false) (λ k. (k < end) × ((test k ≡ true) × ((j : ℕ) → j < k → test j ≡ false))) →
      first_in test 0 end ≡ r
  first_by None h = first_is_none h
  first_by (Some k) h = first_is k h.0 h.1.0 h.1.1

-- a library's search along a range
in_range : (test : ℕ → Bool) (i n : ℕ) → find test (range_with_len i n) ≡ first_from test i n
unfolding first_from
in_range test i zero = refl
in_range test i (suc n) = go (test i) (in_range test (i + 1) n)
  where
    go : (b : Bool) → find test (range_with_len (i + 1) n) ≡ first_from test (i + 1) n →
        cond b (Some i) (find test (range_with_len (i + 1) n)) ≡ elim b [ true ↦ Some i | false ↦ first_from test (suc i) n ]
    go true e = refl
    go false e = rw (← add-one i) e

pub found_in_range : (test : ℕ → Bool) (from end : ℕ) (r : Option ℕ) →
    option_map (λ (k : ℕ). k) r ≡ find test (range_with_len from (end - from)) → r ≡ first_in test from end
unfolding first_in
found_in_range test from end None e = e ∙ in_range test from (end - from)
found_in_range test from end (Some k) e = e ∙ in_range test from (end - from)

-- what `find` says of a range and a test that a closure computes
pub range_searched : {F : Type 0} {g : Mut F (Bor ℕ × Unit {0}) Bool} (test : ℕ → Bool) (end : ℕ) (u : Range ℕ) (f : F) (r : Option ℕ) →
    (xs : List ℕ) × (j : F) × YieldsThen nat_range_steps (record { start = 0; end = end }) xs r u × FoldsTo (λ p x q. CalledAt g p x false q) f xs j
    × MatchOption r ⊤ (λ x. (h : F) × CalledAt g j x true h) →
    ((x : ℕ) (b : Bool) (q : F) → CalledAt g f x b q → (q ≡ f) × (b ≡ test x)) → r ≡ first_in test 0 end
range_searched test end u f r ran closure =
    found_in_range test 0 end r (find_from_yields_List test u f r ran (YieldsList-from_range 0 end (end - 0) refl refl) closure)

-- ---- what a search means: the least place wins

-- the place found lies among those looked at, the test holds there, and at none before it
pub record Found (test : ℕ → Bool) (from end k : ℕ) : Type 0 where
  pub above : from ≤ k
  pub below : k < end
  pub holds : test k ≡ true
  pub first : (j : ℕ) → from ≤ j → j < k → test j ≡ false

found_of : (test : ℕ → Bool) (n i : ℕ) {k : ℕ} → first_from test i n ≡ Some k → Found test i (i + n) k
unfolding first_from
found_of test zero i {k} h = let z : ◌≡◌ {A = ℕ} 0 1 = cc in absurd (omega arith)
found_of test (suc n) i {k} h = go (λ e. found_of test n (suc i) e) (test i) refl h
  where
    go : (first_from test (suc i) n ≡ Some k → Found test (suc i) (suc i + n) k)
        → (b : Bool) → test i ≡ b → ◌≡◌ {A = Option ℕ} (elim b [ true ↦ Some i | false ↦ first_from test (suc i) n ]) (Some k)
        → Found test i (i + suc n) k
    go later true t e =
        let same : k ≡ i = cc in
        record { above = omega arith; below = omega arith; holds = rw same t; first = λ j low high. absurd (omega arith) }
    go later false t e =
        let f = later e in
        record {
          above = omega (arith, f.above);
          below = omega (arith, f.below);
          holds = f.holds;
          first = λ j low high. ⊎_elim (λ here. rw here at t) (λ up. f.first j up high) (eq-or-lt_of_le low);
        }

pub found : (test : ℕ → Bool) (from end : ℕ) {k : ℕ} → first_in test from end ≡ Some k → Found test from end k
unfolding first_in
found test from end {k} h =
    let f = found_of test (end - from) from h in
    record { above = f.above; below = omega (arith, f.above, f.below); holds = f.holds; first = f.first }

-- where nothing is found the test holds nowhere
none_of : (test : ℕ → Bool) (n i : ℕ) → first_from test i n ≡ None → (j : ℕ) → i ≤ j → j < i + n → test j ≡ false
unfolding first_from
none_of test zero i h j low high = absurd (omega arith)
none_of test (suc n) i h j low high = go (λ e above. none_of test n (suc i) e j above (omega arith)) (test i) refl h
  where
    go : (first_from test (suc i) n ≡ None → suc i ≤ j → test j ≡ false)
        → (b : Bool) → test i ≡ b → ◌≡◌ {A = Option ℕ} (elim b [ true ↦ Some i | false ↦ first_from test (suc i) n ]) None → test j ≡ false
    go later true t e = let z : ◌≡◌ {A = ℕ} 0 1 = cc in absurd (omega arith)
    go later false t e = ⊎_elim (λ here. rw here at t) (λ above. later e above) (eq-or-lt_of_le low)

pub found_none : (test : ℕ → Bool) (from end : ℕ) → first_in test from end ≡ None → (j : ℕ) → from ≤ j → j < end → test j ≡ false
unfolding first_in
found_none test from end h j low high = none_of test (end - from) from h j low (omega arith)
