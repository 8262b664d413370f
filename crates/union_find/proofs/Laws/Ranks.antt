-- Ranks: they rise with each step, so 9 steps end at a root; and none is above 9, since a root of rank n has 2 ^ n polygons
-- of the 512.
use Prim.Native.Nat.{ℕ, zero, suc, ◌+◌, ◌<◌, ◌≤◌, ◌^◌}
use mathlib.Core.Path.{◌≡◌, refl, sym, ◌∙◌}
use mathlib.Core.Logic.{◌≢◌}
use mathlib.Core.Bool.{Bool, true, false, cond}
use mathlib.Core.List.{List}
use native.Mathlib.Decide.{ℕ_discrete, dec_le}
use native.Mathlib.Omega.{arith}
use native.Mathlib.Nat.{le_trans, le_of_lt}
use lib.Pow.{pow_mono}
use lib.Dec.{eqb}
use borrow.Author.Tests.{eq-eqb, ne_eqb}
use Rattle.union_find.specs.declared.Table.{Table}
use Rattle.union_find.specs.Forest.{max_polygons, parent_of, climb, root_of, Walk, there, up, Rooted}
use Rattle.union_find.specs.Table.{rank_of, one, members_below, WellFormed, looked, Keeps}
use Rattle.union_find.proofs.Laws.Forest.{climb_at_root, root_at_root, root_step, along}
use Rattle.union_find.proofs.Laws.Compression.{pointed, pointed_same, pointed_other, pointed_rooted, pointed_roots, compressed_keeps, compressed_roots}

-- ---- steps and ranks

-- where ranks rise with each step, to 9 at most, 9 steps end at a root
module _ (p k : List ℕ) (rises : (x : ℕ) → parent_of p x ≢ x → rank_of k x < rank_of k (parent_of p x))
    (low : (x : ℕ) → rank_of k x ≤ 9) where
  climb_by_rank : (n x : ℕ) → 9 ≤ n + rank_of k x → parent_of p (climb n p x) ≡ climb n p x
  unfolding climb
  climb_by_rank zero x h =
      elim (ℕ_discrete (parent_of p x) x) [ yes e ↦ e | no e ↦ absurd (omega (arith, rises x e, low (parent_of p x))) ]
  climb_by_rank (suc n) x h =
      elim (ℕ_discrete (parent_of p x) x)
      [ yes e ↦ rw (e, climb_at_root n p x e) e | no e ↦ climb_by_rank n (parent_of p x) (omega (arith, rises x e)) ]

  pub ranks_reach : (x : ℕ) → parent_of p (root_of p x) ≡ root_of p x
  unfolding root_of
  ranks_reach x = climb_by_rank 9 x (omega arith)

module _ (t : Table) (well : WellFormed t) where
  pub well_rooted : Rooted t.parent
  well_rooted =
      record { size = well.parents; inside = well.inside; reached = ranks_reach t.parent t.rank well.rises well.low }

  -- a walk of n steps rises by n ranks or more
  pub walk_rises : {x r n : ℕ} → Walk t.parent x r n → rank_of t.rank x + n ≤ rank_of t.rank r
  walk_rises (there e) = omega arith
  walk_rises (up {x = x} h walk) = omega (arith, well.rises x h, walk_rises walk)

  rank_up_to_root : (x : ℕ) → rank_of t.rank x ≤ rank_of t.rank (root_of t.parent x)
  rank_up_to_root =
      along t.parent well_rooted (λ x. rank_of t.rank x ≤ rank_of t.rank (root_of t.parent x))
      (λ x e. rw (root_at_root t.parent x e) (omega arith))
      (λ x h below. rw (root_step t.parent well_rooted x) at (le_trans (le_of_lt (well.rises x h)) below))

  rank_below_root : (x : ℕ) → parent_of t.parent x ≢ x → rank_of t.rank x < rank_of t.rank (root_of t.parent x)
  rank_below_root x h =
      rw (root_step t.parent well_rooted x) at (le_trans (well.rises x h) (rank_up_to_root (parent_of t.parent x)))

-- ---- counting the polygons of a class

members_same : (n : ℕ) (p q : List ℕ) (r : ℕ) → ((x : ℕ) → root_of q x ≡ root_of p x) → members_below n q r ≡ members_below n p r
unfolding members_below
members_same zero p q r same = refl
members_same (suc n) p q r same = rw (same n, members_same n p q r same)

-- a root is of its own class
pub members_own : (n : ℕ) (p : List ℕ) (r : ℕ) → root_of p r ≡ r → r < n → 1 ≤ members_below n p r
unfolding members_below
members_own zero p r e h = absurd (omega arith)
members_own (suc n) p r e h =
    elim (ℕ_discrete r n)
    [ yes f ↦ rw (← f, e, eq-eqb r r refl) (omega arith) | no f ↦ omega (arith, members_own n p r e (omega arith)) ]

-- two classes have at most n of n polygons
pub members_apart : (n : ℕ) (p : List ℕ) {a b : ℕ} → a ≢ b → members_below n p a + members_below n p b ≤ n
unfolding members_below
members_apart zero p h = omega arith
members_apart (suc n) p h = omega (arith, one_or_other (root_of p n) h, members_apart n p h)
  where
    one_at_most : (t : Bool) → 0 + one t ≤ 1
    one_at_most true = omega arith
    one_at_most false = omega arith

    one_or_other : (s : ℕ) {a b : ℕ} → a ≢ b → one (eqb s a) + one (eqb s b) ≤ 1
    one_or_other s {a} {b} h =
        elim (ℕ_discrete s a) [
          | yes e ↦ rw (eq-eqb s a e, ne_eqb s b (λ f. h (sym e ∙ f))) (omega arith)
          | no e ↦ rw (ne_eqb s a e) (one_at_most (eqb s b))
        ]

-- the root r after the root lo was hung under hi
abbrev pub moved : ℕ → ℕ → ℕ → ℕ
moved lo hi r = cond (eqb r lo) hi r

module _ (p q : List ℕ) (lo hi : ℕ) (apart : lo ≢ hi) (roots : (x : ℕ) → root_of q x ≡ moved lo hi (root_of p x)) where
  -- the class of hi has taken up that of lo
  pub members_joined : (n : ℕ) → members_below n q hi ≡ members_below n p lo + members_below n p hi
  unfolding members_below
  members_joined zero = refl
  members_joined (suc n) = rw (roots n, one_joined (root_of p n), members_joined n) (omega arith)
    where
      one_joined : (s : ℕ) → one (eqb (moved lo hi s) hi) ≡ one (eqb s lo) + one (eqb s hi)
      one_joined s =
          elim (ℕ_discrete s lo) [
            | yes e ↦ rw (e, eq-eqb lo lo refl, eq-eqb hi hi refl, ne_eqb lo hi apart)
            | no e ↦ rw (ne_eqb s lo e) (omega arith)
          ]

  pub members_other : (n r : ℕ) → r ≢ lo → r ≢ hi → members_below n q r ≡ members_below n p r
  unfolding members_below
  members_other zero r l h = refl
  members_other (suc n) r l h = rw (roots n, one_other r (root_of p n) l h, members_other n r l h)
    where
      one_other : (r s : ℕ) → r ≢ lo → r ≢ hi → one (eqb (moved lo hi s) r) ≡ one (eqb s r)
      one_other r s l h =
          elim (ℕ_discrete s lo) [
            | yes e ↦ rw (e, eq-eqb lo lo refl, ne_eqb hi r (λ f. h (sym f)), ne_eqb lo r (λ f. l (sym f)))
            | no e ↦ rw (ne_eqb s lo e)
          ]

-- 2 ^ n polygons of 512: n is at most 9
pub log_512 : (n : ℕ) → 2 ^ n ≤ max_polygons → n ≤ 9
log_512 n h = elim (dec_le n 9) [ yes l ↦ l | no l ↦ absurd (over (pow_mono {i = 10} {j = n} (omega arith))) ]
  where
    over : 2 ^ 10 ≤ 2 ^ n → ⊥
    over g = omega arith

-- ---- a lookup

-- the table with other parents
abbrev with_parents : Table → List ℕ → Table
with_parents t q = record { parent = q; rank = t.rank }

module _ (t : Table) (well : WellFormed t) (c : ℕ) (inside : c < max_polygons) where
  rooted : Rooted t.parent
  rooted = well_rooted t well

  at_c : parent_of (pointed t.parent c) c ≡ root_of t.parent c
  at_c = pointed_same t.parent rooted c inside

  at_other : (x : ℕ) → x ≢ c → parent_of (pointed t.parent c) x ≡ parent_of t.parent x
  at_other = pointed_other t.parent rooted c inside

  -- a polygon that is a root after the step was one before
  was_root : (x : ℕ) → parent_of (pointed t.parent c) x ≡ x → parent_of t.parent x ≡ x
  was_root x e =
      elim (ℕ_discrete x c) [
        | yes f ↦ let own : root_of t.parent c ≡ c = sym at_c ∙ (rw f at e) in rw f (rw own at (rooted.reached c))
        | no f ↦ sym (at_other x f) ∙ e
      ]

  step_rises : (x : ℕ) → parent_of (pointed t.parent c) x ≢ x
      → rank_of t.rank x < rank_of t.rank (parent_of (pointed t.parent c) x)
  step_rises x h =
      elim (ℕ_discrete x c) [
        | yes f ↦ rw (f, at_c) (rank_below_root t well c (λ e. h (rw (f, at_c) (root_at_root t.parent c e))))
        | no f ↦ rw (at_other x f) (well.rises x (λ e. h (at_other x f ∙ e)))
      ]

  pub pointed_well : WellFormed (with_parents t (pointed t.parent c))
  pointed_well =
      record {
        parents = (pointed_rooted t.parent rooted c inside).size;
        ranks = well.ranks;
        inside = (pointed_rooted t.parent rooted c inside).inside;
        rises = step_rises;
        low = well.low;
        large = λ r h e.
            rw (members_same max_polygons t.parent (pointed t.parent c) r (pointed_roots t.parent rooted c inside))
            (well.large r h (was_root r e));
      }

-- a lookup keeps every root and every rank, and the table stays well formed
pub looked_keeps : (t : Table) → WellFormed t → (x : ℕ) → x < max_polygons → Keeps t (looked t x)
looked_keeps t well x inside =
    record {
      well =
          compressed_keeps t.parent (well_rooted t well) x inside (λ q. WellFormed (with_parents t q))
          (λ q c _ h now-well. pointed_well (with_parents t q) now-well c h) well;
      roots = compressed_roots t.parent (well_rooted t well) x inside;
      ranks = refl;
    }
