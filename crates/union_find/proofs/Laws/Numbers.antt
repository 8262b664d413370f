-- A numbering under way: what the loop of `number_components` has done after i polygons.
use Prim.Native.Nat.{ℕ, suc, ◌+◌, ◌<◌}
use mathlib.Core.Path.{◌≡◌, refl, sym, ◌∙◌, ap}
use mathlib.Core.Bool.{Bool, true, false, cond, true≢false}
use mathlib.Core.List.{List}
use Rattle.std.specs.Prelude.{Option, Some, None}
use native.Mathlib.Decide.{ℕ_discrete}
use native.Mathlib.Omega.{arith}
use native.Mathlib.Numerals.{add-one}
use lib.ListN.{length, get_or, set, replicate, length-set, length-replicate, get_or-replicate}
use lib.Seq.{get_or-set_same, get_or-set_other}
use Rattle.std.proofs.lemmas.Option.{none-some, cond_some}
use Rattle.lists.specs.Front.{Front}
use Rattle.lists.specs.Marks.{empty_number}
use Rattle.union_find.specs.Forest.{max_polygons}
use Rattle.union_find.specs.Numbering.{seen, new_below, number_for, number_at, numbers_below}
use Rattle.lists.proofs.Laws.Front.{front_none, front_store}
use Rattle.lists.proofs.Laws.Tests.{by_cases}
use Rattle.union_find.proofs.Laws.NewRoots.{seen_at, seen_more, seen_kept, number_next, number_kept, new_counted, old_counted, number_new, number_old, number_none, numbers_more}

module _ (root : ℕ → ℕ) (conducts : ℕ → Bool) where
  -- what stands for the root r after i polygons
  abbrev known : ℕ → ℕ → Option ℕ
  known i r = cond (seen root conducts r i) (Some (number_for root conducts r i)) None

  -- the polygons below i have their numbers, `numbers` has that of every root met, and next is the number to be given
  pub record Numbering (before components : List ℕ) (numbers : List (Option ℕ)) (next i : ℕ) : Type 0 where
    pub front : Front (numbers_below root conducts i) before components i
    pub size : length components ≡ length before
    pub slots : length numbers ≡ max_polygons
    pub met : (r : ℕ) → r < max_polygons → get_or numbers r None ≡ known i r
    pub counted : next ≡ new_below root conducts i

  pub numbering_none : (before : List ℕ) → Numbering before before (replicate max_polygons None) 0 0
  unfolding numbers_below new_below seen
  numbering_none before =
      record {
        front = front_none before;
        size = refl;
        slots = length-replicate {A = Option ℕ} max_polygons None;
        met = λ r h. get_or-replicate {A = Option ℕ} max_polygons r None None h;
        counted = refl;
      }

  module _ (before components : List ℕ) (numbers : List (Option ℕ)) (next i : ℕ) (at : Numbering before components numbers next i)
      (room : i < length before) where
    -- what is written is the number of i
    wrote : (v : ℕ) → v ≡ number_at root conducts i → Front (numbers_below root conducts (i + 1)) before (set components i v) (i + 1)
    wrote v e = rw (numbers_more root conducts i, ← e) (front_store v at.front (omega (arith, at.size)))

    -- a root that was seen before i, or is not that of i, is known as before
    known_kept : (r : ℕ) → seen root conducts r (suc i) ≡ seen root conducts r i → known (suc i) r ≡ known i r
    known_kept r same =
        by_cases (seen root conducts r i) (λ s. simp (same ∙ s, s, number_kept root conducts r i (same ∙ s))) (λ s. simp (same ∙ s, s))

    met_kept : (r : ℕ) → r < max_polygons → seen root conducts r (suc i) ≡ seen root conducts r i → get_or numbers r None ≡ known (i + 1) r
    met_kept r h same = rw (add-one i) (at.met r h ∙ sym (known_kept r same))

    -- i does not conduct
    pub numbering_marks : conducts i ≡ false → Numbering before (set components i empty_number) numbers next (i + 1)
    numbering_marks k =
        record {
          front = wrote empty_number (sym (number_none root conducts i k));
          size = length-set components i empty_number ∙ at.size;
          slots = at.slots;
          met = λ r h. met_kept r h (seen_kept root conducts r i (λ t. absurd (true≢false (sym t ∙ k))));
          counted = rw (add-one i) (at.counted ∙ sym (old_counted root conducts i (λ t. absurd (true≢false (sym t ∙ k)))));
        }

    module _ (k : conducts i ≡ true) (inside : root i < max_polygons) where
      -- the root of i has its number
      pub numbering_knows : (v : ℕ) → get_or numbers (root i) None ≡ Some v → Numbering before (set components i v) numbers next (i + 1)
      numbering_knows v there =
          record {
            front = wrote v (sym has.1 ∙ sym (number_old root conducts i k));
            size = length-set components i v ∙ at.size;
            slots = at.slots;
            met = λ r h. met_kept r h (same r);
            counted = rw (add-one i) (at.counted ∙ sym (old_counted root conducts i (λ t. has.0)));
          }
        where
          has : (seen root conducts (root i) i ≡ true) × (number_for root conducts (root i) i ≡ v)
          has = cond_some _ _ v (sym (at.met (root i) inside) ∙ there)

          same : (r : ℕ) → seen root conducts r (suc i) ≡ seen root conducts r i
          same r =
              elim (ℕ_discrete (root i) r) [
                | yes e ↦ seen_more root conducts r i (rw e at has.0) ∙ sym (rw e at has.0)
                | no e ↦ seen_kept root conducts r i (λ t. e)
              ]

      -- the root of i gets the next number
      pub numbering_adds : get_or numbers (root i) None ≡ None
          → Numbering before (set components i next) (set numbers (root i) (Some next)) (next + 1) (i + 1)
      numbering_adds blank =
          record {
            front = wrote next (at.counted ∙ sym (number_new root conducts i k new));
            size = length-set components i next ∙ at.size;
            slots = length-set numbers (root i) (Some next) ∙ at.slots;
            met = λ r h. elim (ℕ_discrete r (root i)) [
              | yes e ↦
                  rw (e, add-one i)
                  (get_or-set_same numbers (root i) (Some next) None (omega (arith, at.slots)) ∙ ap Some at.counted ∙ sym here)
              | no e ↦ get_or-set_other numbers (root i) r (Some next) None e ∙ met_kept r h (seen_kept root conducts r i (λ t f. e (sym f)))
            ];
            counted = rw (add-one i) (omega (arith, at.counted, new_counted root conducts i k new));
          }
        where
          new : seen root conducts (root i) i ≡ false
          new =
              by_cases (seen root conducts (root i) i)
              (λ s. absurd (none-some (number_for root conducts (root i) i) (sym blank ∙ at.met (root i) inside ∙ simp s)))
              (λ s. s)

          here : known (suc i) (root i) ≡ Some (new_below root conducts i)
          here =
              let now-seen = seen_at root conducts (root i) (suc i) i (omega arith) k refl in
              simp (now-seen, number_kept root conducts (root i) i now-seen, number_next root conducts (root i) i new)
