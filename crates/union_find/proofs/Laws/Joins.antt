-- A join of two polygons: one class of two, every other as it was, and the table stays well formed.
use Prim.Native.Nat.{ℕ, ◌<◌}
use mathlib.Core.Path.{◌≡◌, refl, sym, ◌∙◌, ap}
use mathlib.Core.Logic.{◌≢◌, inl, inr, ⊎_elim}
use native.Mathlib.Decide.{ℕ_discrete}
use borrow.Author.Tests.{eq-eqb, ne_eqb}
use Rattle.union_find.specs.declared.Table.{Table}
use Rattle.union_find.specs.Forest.{max_polygons, parent_of, root_of}
use Rattle.union_find.specs.Table.{WellFormed, looked, linked, joined, OneRoot, Keeps, Unites}
use Rattle.union_find.proofs.Laws.Forest.{root_inside}
use Rattle.union_find.proofs.Laws.Ranks.{well_rooted, moved, looked_keeps}
use Rattle.union_find.proofs.Laws.Hanging.{Merges, linked_merges}

-- ---- the classes

-- hi is where lo and hi are now, and every other root is where it was
moved_lo : (lo hi : ℕ) → moved lo hi lo ≡ hi
moved_lo lo hi = rw (eq-eqb lo lo refl)

moved_hi : (lo hi : ℕ) → moved lo hi hi ≡ hi
moved_hi lo hi = elim (ℕ_discrete hi lo) [ yes e ↦ rw e (moved_lo lo lo) | no e ↦ rw (ne_eqb hi lo e) ]

moved_other : (lo hi r : ℕ) → r ≢ lo → moved lo hi r ≡ r
moved_other lo hi r h = rw (ne_eqb r lo h)

module _ (t u : Table) (a b : ℕ) where
  -- what `Merges` says at the roots of a and b is what `Unites` says of a and b
  merges_unites : Merges t (root_of t.parent a) (root_of t.parent b) u → Unites t a b u
  merges_unites m =
      record {
        well = m.well;
        both = λ x. ⊎_elim (λ e. to_b x (rw e (moved_lo ra rb)) ∙ sym a_to_b) (λ e. to_b x (rw e (moved_hi ra rb)) ∙ sym a_to_b);
        under = inr a_to_b;
        others = λ x h g. m.roots x ∙ moved_other ra rb (root_of t.parent x) h;
      }
    where
      ra : ℕ
      ra = root_of t.parent a

      rb : ℕ
      rb = root_of t.parent b

      to_b : (x : ℕ) → moved ra rb (root_of t.parent x) ≡ rb → root_of u.parent x ≡ rb
      to_b x e = m.roots x ∙ e

      a_to_b : root_of u.parent a ≡ rb
      a_to_b = to_b a (moved_lo ra rb)

-- a union the other way round is the same
unites_swapped : (t u : Table) (a b : ℕ) → Unites t b a u → Unites t a b u
unites_swapped t u a b m =
    record {
      well = m.well;
      both = λ x. ⊎_elim (λ e. m.both x (inr e) ∙ sym a_b) (λ e. m.both x (inl e) ∙ sym a_b);
      under = ⊎_elim (λ e. inr (a_b ∙ e)) (λ e. inl (a_b ∙ e)) m.under;
      others = λ x h g. m.others x g h;
    }
  where
    a_b : OneRoot u a b
    a_b = m.both a (inr refl)

-- ---- a join

module _ (t : Table) (well : WellFormed t) (a b : ℕ) (a-inside : a < max_polygons) (b-inside : b < max_polygons) where
  first : Keeps t (looked t a)
  first = looked_keeps t well a a-inside

  second : Keeps (looked t a) (looked (looked t a) b)
  second = looked_keeps (looked t a) first.well b b-inside

  -- the two lookups change no root
  both_kept : (x : ℕ) → root_of (looked (looked t a) b).parent x ≡ root_of t.parent x
  both_kept x = second.roots x ∙ first.roots x

  still_root : (x : ℕ) → parent_of (looked (looked t a) b).parent (root_of t.parent x) ≡ root_of t.parent x
  still_root x = rw (both_kept x) at ((well_rooted (looked (looked t a) b) second.well).reached x)

  from_looked : (lo hi : ℕ) (u : Table) → Merges (looked (looked t a) b) lo hi u → Merges t lo hi u
  from_looked lo hi u m = record { well = m.well; roots = λ x. m.roots x ∙ ap (moved lo hi) (both_kept x) }

  -- a join makes one class of two, and the table stays well formed
  pub joined_unites : Unites t a b (joined t a b)
  unfolding joined
  joined_unites =
      ⊎_elim (λ m. merges_unites t (joined t a b) a b (from_looked _ _ _ m))
      (λ m. unites_swapped t (joined t a b) a b (merges_unites t (joined t a b) b a (from_looked _ _ _ m)))
      (linked_merges (looked (looked t a) b) second.well (root_of t.parent a) (root_of t.parent b)
      (root_inside t.parent (well_rooted t well) a a-inside)
      (root_inside t.parent (well_rooted t well) b b-inside)
      (still_root a)
      (still_root b))

  -- the join by its steps: two lookups, and then the roots
  pub joined_by_steps : (t₁ t₂ u : Table) (ra rb : ℕ)
      → ra ≡ root_of t.parent a → t₁ ≡ looked t a
      → rb ≡ root_of t₁.parent b → t₂ ≡ looked t₁ b
      → u ≡ linked t₂ ra rb → u ≡ joined t a b
  unfolding joined
  joined_by_steps t₁ t₂ u ra rb at_a one at_b two under = rw (under, two, at_b, one, first.roots b, at_a) refl
