-- A written front of a lent list: what can be read of it, and how it grows. Assumes nothing.
use mathlib.Core.Path.{◌≡◌, refl, sym, ap, ◌∙◌}
use Prim.Native.Nat.{ℕ, ◌+◌, ◌≤◌, ◌<◌}
use native.Mathlib.Numerals.{add-one}
use native.Mathlib.Omega.{arith}
use mathlib.Core.List.{List, [], ◌∷◌, ◌++◌, append-nil}
use lib.ListN.{length, take, drop, set, length-append, length-drop, drop_of_length-le}
use lib.Seq.{take_at, drop_at, drop-drop, set_split, append_snoc, length-take-le}
use Rattle.lists.specs.Front.{Front}

module _ {A : Type 0} where
  -- nothing is written yet
  pub front_none : (list : List A) → Front [] list list 0
  front_none list = record { many = refl; list = refl }

  module _ {written before after : List A} {count : ℕ} (f : Front written before after count) where
    pub front_length : count ≤ length before → length after ≡ length before
    front_length h = ap length f.list ∙ rw (length-append, length-drop, ← f.many) (omega arith)

    pub front_fits : count ≤ length after
    front_fits = omega (arith, f.many, simp length-append at (ap length f.list))

    pub front_count : length (take count after) ≡ count
    front_count = length-take-le count after front_fits

    -- what stands in front is what was written
    pub front_read : take count after ≡ written
    front_read = rw f.list (take_at written (drop count before) count (sym f.many))

    -- what stands behind is what was there
    pub front_behind : drop count after ≡ drop count before
    front_behind = rw f.list (drop_at written (drop count before) count (sym f.many))

  -- a front, and one element stored behind it
  pub front_store : {written before mid : List A} {count : ℕ} (x : A) → Front written before mid count → count < length mid →
      Front (written ++ (x ∷ [])) before (set mid count x) (count + 1)
  front_store {written} {before} {mid} {count} x f h =
      let behind : drop (count + 1) mid ≡ drop (count + 1) before =
      sym (drop-drop 1 count mid) ∙ ap (drop 1) (front_behind f) ∙ drop-drop 1 count before in
      record {
        many = rw (length-append, ← f.many);
        list = set_split mid count x h ∙ rw (← add-one count, behind, front_read f, append_snoc);
      }

  -- a front that reaches the list's end is the whole list
  pub front_whole : {written before after : List A} {count : ℕ} → Front written before after count → length before ≤ count → after ≡ written
  front_whole {written} f all = f.list ∙ (rw (drop_of_length-le _ all) (append-nil written))
