-- One root hung under another, by rank: the table stays well formed, and only the root that was hung gives way to the other.
use Prim.Native.Nat.{ℕ, ◌+◌, ◌<◌, ◌≤◌, ◌^◌}
use mathlib.Core.Path.{◌≡◌, refl, sym, ◌∙◌, ap}
use mathlib.Core.Logic.{◌≢◌, ◌⊎◌, inl, inr}
use mathlib.Core.List.{List}
use native.Mathlib.Decide.{ℕ_discrete, dec_lt}
use native.Mathlib.Omega.{arith}
use native.Mathlib.Nat.{le_trans, lt_of_lt_of_le, two-pow-succ}
use native.Mathlib.Numerals.{add-one}
use lib.ListN.{length, set, length-set}
use lib.Seq.{get_or-set_same, get_or-set_other, set-get_or}
use borrow.Author.Tests.{eq-eqb, ne_eqb, lt-ltb, le-ltb}
use Rattle.union_find.specs.declared.Table.{Table}
use Rattle.union_find.specs.Forest.{max_polygons, parent_of, root_of, Rooted}
use Rattle.union_find.specs.Table.{rank_of, members_below, WellFormed, linked}
use Rattle.union_find.proofs.Laws.Forest.{parent_set_same, parent_set_other, root_at_root, root_step, along}
use Rattle.union_find.proofs.Laws.Ranks.{ranks_reach, well_rooted, members_apart, moved, members_joined, members_other, log_512}

-- ---- the root lo is hung under the root hi

-- the ranks become k: only that of hi changes, and the two classes have the polygons for it
record Hangs (t : Table) (k : List ℕ) (lo hi : ℕ) : Type 0 where
  lo_inside : lo < max_polygons
  hi_inside : hi < max_polygons
  lo_root : parent_of t.parent lo ≡ lo
  hi_root : parent_of t.parent hi ≡ hi
  apart : lo ≢ hi
  ranks : length k ≡ max_polygons
  others : (x : ℕ) → x ≢ hi → rank_of k x ≡ rank_of t.rank x
  grown : rank_of t.rank hi ≤ rank_of k hi
  above : rank_of t.rank lo < rank_of k hi
  enough : 2 ^ rank_of k hi ≤ members_below max_polygons t.parent lo + members_below max_polygons t.parent hi

module _ (t : Table) (well : WellFormed t) (k : List ℕ) (lo hi : ℕ) (hangs : Hangs t k lo hi) where
  -- the parents as they were, and as they are
  abbrev p : List ℕ
  p = t.parent

  abbrev q : List ℕ
  q = set t.parent lo hi

  at_lo : parent_of q lo ≡ hi
  at_lo = parent_set_same p lo hi (omega (arith, well.parents, hangs.lo_inside))

  at_other : (x : ℕ) → x ≢ lo → parent_of q x ≡ parent_of p x
  at_other x h = parent_set_other p lo hi x h

  at_hi : parent_of q hi ≡ hi
  at_hi = at_other hi (λ e. hangs.apart (sym e)) ∙ hangs.hi_root

  no_less : (x : ℕ) → rank_of t.rank x ≤ rank_of k x
  no_less x = elim (ℕ_discrete x hi) [ yes e ↦ rw e hangs.grown | no e ↦ omega (arith, hangs.others x e) ]

  hang_inside : (x : ℕ) → x < max_polygons → parent_of q x < max_polygons
  hang_inside x h =
      elim (ℕ_discrete x lo) [ yes e ↦ rw (e, at_lo) hangs.hi_inside | no e ↦ rw (at_other x e) (well.inside x h) ]

  hang_rises : (x : ℕ) → parent_of q x ≢ x → rank_of k x < rank_of k (parent_of q x)
  hang_rises x h =
      elim (ℕ_discrete x lo) [
        | yes e ↦ rw (e, at_lo, hangs.others lo hangs.apart) hangs.above
        | no e ↦
            rw (at_other x e, hangs.others x (λ f. h (rw f at_hi)))
            (lt_of_lt_of_le (well.rises x (λ f. h (at_other x e ∙ f))) (no_less (parent_of p x)))
      ]

  hang_low : (x : ℕ) → rank_of k x ≤ 9
  hang_low x =
      elim (ℕ_discrete x hi) [
        | yes e ↦ rw e (log_512 (rank_of k hi) (le_trans hangs.enough (members_apart max_polygons p hangs.apart)))
        | no e ↦ rw (hangs.others x e) (well.low x)
      ]

  rooted : Rooted p
  rooted = well_rooted t well

  hang_rooted : Rooted q
  hang_rooted =
      record { size = length-set p lo hi ∙ well.parents; inside = hang_inside; reached = ranks_reach q k hang_rises hang_low }

  hang_roots : (x : ℕ) → root_of q x ≡ moved lo hi (root_of p x)
  hang_roots = along p rooted (λ x. root_of q x ≡ moved lo hi (root_of p x)) at_root under
    where
      at_root : (x : ℕ) → parent_of p x ≡ x → root_of q x ≡ moved lo hi (root_of p x)
      at_root x e =
          elim (ℕ_discrete x lo) [
            | yes f ↦
                rw (f, root_at_root p lo hangs.lo_root, eq-eqb lo lo refl)
                (sym (root_step q hang_rooted lo) ∙ (rw at_lo (root_at_root q hi at_hi)))
            | no f ↦ rw (root_at_root p x e, ne_eqb x lo f) (root_at_root q x (at_other x f ∙ e))
          ]

      under : (x : ℕ) → parent_of p x ≢ x → root_of q (parent_of p x) ≡ moved lo hi (root_of p (parent_of p x))
          → root_of q x ≡ moved lo hi (root_of p x)
      under x h same =
          sym (root_step q hang_rooted x)
          ∙ ap (root_of q) (at_other x (λ f. h (rw f hangs.lo_root)))
          ∙ same
          ∙ ap (moved lo hi) (root_step p rooted x)

  hang_large : (r : ℕ) → r < max_polygons → parent_of q r ≡ r → 2 ^ rank_of k r ≤ members_below max_polygons q r
  hang_large r inside e =
      elim (ℕ_discrete r hi) [
        | yes f ↦ rw (f, members_joined p q lo hi hangs.apart hang_roots max_polygons) hangs.enough
        | no f ↦
            let g : r ≢ lo = λ l. f (sym e ∙ (rw l at_lo)) in
            rw (hangs.others r f, members_other p q lo hi hangs.apart hang_roots max_polygons r g f)
            (well.large r inside (sym (at_other r g) ∙ e))
      ]

  hang_well : WellFormed (record { parent = q; rank = k })
  hang_well =
      record {
        parents = hang_rooted.size;
        ranks = hangs.ranks;
        inside = hang_inside;
        rises = hang_rises;
        low = hang_low;
        large = hang_large;
      }

-- ---- two roots are joined

-- every root is as `moved` says, so the classes of a and b are one
pub record Merges (t : Table) (a b : ℕ) (u : Table) : Type 0 where
  pub well : WellFormed u
  pub roots : (x : ℕ) → root_of u.parent x ≡ moved a b (root_of t.parent x)

hanging : (t : Table) → WellFormed t → (k : List ℕ) (lo hi : ℕ) → Hangs t k lo hi
    → Merges t lo hi (record { parent = set t.parent lo hi; rank = k })
hanging t well k lo hi hangs = record { well = hang_well t well k lo hi hangs; roots = hang_roots t well k lo hi hangs }

module _ (t : Table) (well : WellFormed t) (a b : ℕ) (a-inside : a < max_polygons) (b-inside : b < max_polygons)
    (a-root : parent_of t.parent a ≡ a) (b-root : parent_of t.parent b ≡ b) (apart : a ≢ b) where
  lower_under : rank_of t.rank a < rank_of t.rank b → Hangs t t.rank a b
  lower_under lower =
      record {
        lo_inside = a-inside;
        hi_inside = b-inside;
        lo_root = a-root;
        hi_root = b-root;
        apart = apart;
        ranks = well.ranks;
        others = λ x h. refl;
        grown = omega arith;
        above = lower;
        enough = omega (arith, well.large b b-inside b-root);
      }

  -- at a tie a goes under b, whose rank rises
  tied_under : rank_of t.rank a ≡ rank_of t.rank b → Hangs t (set t.rank b (rank_of t.rank b + 1)) a b
  tied_under tie =
      record {
        lo_inside = a-inside;
        hi_inside = b-inside;
        lo_root = a-root;
        hi_root = b-root;
        apart = apart;
        ranks = length-set t.rank b (rank_of t.rank b + 1) ∙ well.ranks;
        others = λ x h. get_or-set_other t.rank b x (rank_of t.rank b + 1) 0 h;
        grown = rw rose (omega arith);
        above = rw rose (omega arith);
        enough = rw (rose, add-one, two-pow-succ) (omega (arith, well.large b b-inside b-root, rw tie at (well.large a a-inside a-root)));
      }
    where
      rose : rank_of (set t.rank b (rank_of t.rank b + 1)) b ≡ rank_of t.rank b + 1
      rose = get_or-set_same t.rank b (rank_of t.rank b + 1) 0 (omega (arith, well.ranks))

-- what `linked` is, by the tests that pick it
module _ (t : Table) (a b : ℕ) where
  abbrev ka : ℕ
  ka = rank_of t.rank a

  abbrev kb : ℕ
  kb = rank_of t.rank b

  -- a rank that is written as it was
  as_before : (q : List ℕ) → ◌≡◌ {A = Table} (record { parent = q; rank = set t.rank a ka }) (record { parent = q; rank = t.rank })
  as_before q = ap (λ (k : List ℕ). record { parent = q; rank = k }) (set-get_or t.rank a 0)

  linked_same : a ≡ b → linked t a b ≡ t
  unfolding linked
  linked_same e = rw (eq-eqb a b e) (as_before t.parent)

  linked_lower : a ≢ b → ka < kb → linked t a b ≡ record { parent = set t.parent a b; rank = t.rank }
  unfolding linked
  linked_lower apart lower = rw (ne_eqb a b apart, lt-ltb ka kb lower, ne_eqb ka kb (λ e. omega arith)) (as_before (set t.parent a b))

  linked_higher : a ≢ b → kb < ka → linked t a b ≡ record { parent = set t.parent b a; rank = t.rank }
  unfolding linked
  linked_higher apart higher =
      rw (ne_eqb a b apart, le-ltb ka kb (omega arith), ne_eqb ka kb (λ e. omega arith)) (as_before (set t.parent b a))

  linked_tie : a ≢ b → ka ≡ kb → linked t a b ≡ record { parent = set t.parent b a; rank = set t.rank a (ka + 1) }
  unfolding linked
  linked_tie apart tie = rw (ne_eqb a b apart, le-ltb ka kb (omega arith), eq-eqb ka kb tie)

module _ (t : Table) (well : WellFormed t) (a b : ℕ) (a-inside : a < max_polygons) (b-inside : b < max_polygons)
    (a-root : parent_of t.parent a ≡ a) (b-root : parent_of t.parent b ≡ b) where
  -- one of the two goes under the other
  pub linked_merges : Merges t a b (linked t a b) ⊎ Merges t b a (linked t a b)
  linked_merges =
      elim (ℕ_discrete a b) [
        | yes e ↦ inl (rw (linked_same t a b e) (record { well = well; roots = λ x. sym (unmoved (root_of t.parent x) e) }))
        | no apart ↦
            elim (dec_lt (rank_of t.rank a) (rank_of t.rank b)) [
              | yes lower ↦
                  inl
                  (rw (linked_lower t a b apart lower)
                  (hanging t well _ a b (lower_under t well a b a-inside b-inside a-root b-root apart lower)))
              | no no_lower ↦
                  elim (dec_lt (rank_of t.rank b) (rank_of t.rank a)) [
                    | yes higher ↦
                        inr
                        (rw (linked_higher t a b apart higher)
                        (hanging t well _ b a (lower_under t well b a b-inside a-inside b-root a-root (λ f. apart (sym f)) higher)))
                    | no no-higher ↦
                        let tie : rank_of t.rank a ≡ rank_of t.rank b = omega arith in
                        inr
                        (rw (linked_tie t a b apart tie)
                        (hanging t well _ b a (tied_under t well b a b-inside a-inside b-root a-root (λ f. apart (sym f)) (sym tie))))
                  ]
            ]
      ]
    where
      unmoved : (r : ℕ) → a ≡ b → moved a b r ≡ r
      unmoved r e = elim (ℕ_discrete r a) [ yes f ↦ rw (eq-eqb r a f) (sym e ∙ sym f) | no f ↦ rw (ne_eqb r a f) ]
