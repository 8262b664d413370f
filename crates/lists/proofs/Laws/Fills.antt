-- A loop that fills a list from a place to its end, one store a turn: filling what is left of it now gives what filling it at the start gave.
-- Assumes nothing.
use mathlib.Core.Path.{◌≡◌, refl, sym, ◌∙◌}
use Prim.Native.Nat.{ℕ, suc, ◌+◌, ◌-◌, ◌≤◌, ◌<◌}
use native.Mathlib.Nat.{sub-zero}
use native.Mathlib.Numerals.{add-one}
use native.Mathlib.Omega.{arith}
use mathlib.Core.List.{List, ◌++◌, append-nil}
use lib.ListN.{length, set, replicate, length-set, length-append, length-replicate, length-take}
use lib.Seq.{take_all, take-suc-set, append_snoc}
use Rattle.lists.specs.Fills.{filled_from}
use Rattle.lists.specs.Front.{Front}
use Rattle.lists.proofs.Laws.Front.{front_read, front_length}

module _ {A : Type 0} (mark : A) where
  -- the invariant: `before` came in, `list` is there now, and its places from i on are still to be filled
  pub record Filling (before list : List A) (from i : ℕ) : Type 0 where
    pub rest : filled_from i mark list ≡ filled_from from mark before
    pub long : length list ≡ length before

  pub filling_start : (before : List A) (from : ℕ) → Filling before before from from
  filling_start before from = record { rest = refl; long = refl }

  pub filling_step : {before list : List A} {from i : ℕ} → Filling before list from i → i < length list → Filling before (set list i mark) from (i + 1)
  unfolding filled_from
  filling_step {before} {list} {from} {i} f h =
      let one_more : length list - i ≡ suc (length list - suc i) = omega arith in
      record {
        rest = sym (rw (one_more, add-one, length-set, take-suc-set list i mark, append_snoc)) ∙ f.rest;
        long = length-set list i mark ∙ f.long;
      }

  pub filling_end : {before list : List A} {from i : ℕ} → Filling before list from i → length list ≤ i → list ≡ filled_from from mark before
  unfolding filled_from
  filling_end {before} {list} {from} {i} f h =
      let none_left : length list - i ≡ 0 = omega arith in
      sym (rw (none_left, take_all i list, append-nil)) ∙ f.rest

  -- filled from the first place, a list is its mark from end to end
  pub filled_whole : (list : List A) → filled_from 0 mark list ≡ replicate (length list) mark
  unfolding filled_from
  filled_whole list = simp sub-zero

  pub filled_length : (list : List A) (k : ℕ) → k ≤ length list → length (filled_from k mark list) ≡ length list
  unfolding filled_from
  filled_length list k h = rw (length-append, length-replicate, length-take) (omega arith)

  -- what was written in front, and the mark behind it
  pub filled_front : {written before mid : List A} {count : ℕ} → Front written before mid count → count ≤ length before →
      filled_from count mark mid ≡ written ++ replicate (length before - count) mark
  unfolding filled_from
  filled_front f h = rw (front_read f, front_length f h)
