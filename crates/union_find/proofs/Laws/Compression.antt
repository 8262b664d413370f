-- Pointing polygons at their root: every root stays, and doing it all the way up is `compressed`.
use Prim.Native.Nat.{ℕ, zero, suc, ◌<◌, ◌≤◌}
use mathlib.Core.Path.{◌≡◌, refl, sym, ◌∙◌, ap}
use mathlib.Core.Logic.{◌≢◌}
use mathlib.Core.Bool.{Bool, true, false}
use mathlib.Core.List.{List}
use native.Mathlib.Decide.{ℕ_discrete}
use native.Mathlib.Omega.{arith}
use native.Mathlib.Nat.{lt_of_le_of_lt}
use lib.Dec.{eqb}
use lib.ListN.{set, length-set}
use borrow.Author.Tests.{ne_eqb}
use Rattle.union_find.specs.Forest.{max_polygons, parent_of, climb, root_of, repoint, compressed, Rooted}
use Rattle.union_find.proofs.Laws.Forest.{parent_set_same, parent_set_other, set_same_parent, climb_at_root, root_at_root, root_step, along, root_inside, one_more_unless, steps_within, steps_left, steps_at_root, steps_less}

-- ---- one polygon is pointed at its root

-- the parents after c is pointed at its root
abbrev pub pointed : List ℕ → ℕ → List ℕ
pointed p c = set p c (root_of p c)

module _ (p : List ℕ) (rooted : Rooted p) (c : ℕ) (inside : c < max_polygons) where
  pub pointed_same : parent_of (pointed p c) c ≡ root_of p c
  pointed_same = parent_set_same p c (root_of p c) (omega (arith, rooted.size))

  pub pointed_other : (x : ℕ) → x ≢ c → parent_of (pointed p c) x ≡ parent_of p x
  pointed_other x h = parent_set_other p c (root_of p c) x h

  -- every root stays a root
  roots_kept : (x : ℕ) → parent_of p x ≡ x → parent_of (pointed p c) x ≡ x
  roots_kept x e =
      elim (ℕ_discrete x c) [
        | yes h ↦ rw h (pointed_same ∙ root_at_root p c (rw h at e))
        | no h ↦ pointed_other x h ∙ e
      ]

  root_kept : parent_of (pointed p c) (root_of p c) ≡ root_of p c
  root_kept = roots_kept (root_of p c) (rooted.reached c)

  climb_kept : (n x : ℕ) → parent_of p (climb n p x) ≡ climb n p x
      → parent_of (pointed p c) (climb n (pointed p c) x) ≡ climb n (pointed p c) x
  unfolding climb
  climb_kept zero x e = roots_kept x e
  climb_kept (suc n) x e =
      elim (ℕ_discrete x c) [
        | yes h ↦ rw (h, pointed_same, climb_at_root n (pointed p c) (root_of p c) root_kept) root_kept
        | no h ↦ rw (pointed_other x h) (climb_kept n (parent_of p x) e)
      ]

  parents_inside : (x : ℕ) → x < max_polygons → parent_of (pointed p c) x < max_polygons
  parents_inside x h =
      elim (ℕ_discrete x c)
      [ yes e ↦ rw (e, pointed_same) (root_inside p rooted c inside) | no e ↦ rw (pointed_other x e) (rooted.inside x h) ]

  pub pointed_rooted : Rooted (pointed p c)
  unfolding root_of
  pointed_rooted =
      record {
        size = length-set p c (root_of p c) ∙ rooted.size;
        inside = parents_inside;
        reached = λ x. climb_kept 9 x (rooted.reached x);
      }

  -- no root changes
  pub pointed_roots : (x : ℕ) → root_of (pointed p c) x ≡ root_of p x
  pointed_roots =
      along p rooted (λ x. root_of (pointed p c) x ≡ root_of p x)
      (λ x e. root_at_root (pointed p c) x (roots_kept x e) ∙ sym (root_at_root p x e))
      (λ x h same. sym (root_step (pointed p c) pointed_rooted x) ∙ by_parent x same)
    where
      by_parent : (x : ℕ) → root_of (pointed p c) (parent_of p x) ≡ root_of p (parent_of p x)
          → root_of (pointed p c) (parent_of (pointed p c) x) ≡ root_of p x
      by_parent x same =
          elim (ℕ_discrete x c) [
            | yes e ↦ rw (e, pointed_same) (root_at_root (pointed p c) (root_of p c) root_kept)
            | no e ↦ rw (pointed_other x e) (same ∙ root_step p rooted x)
          ]

  -- no walk gets longer
  steps_kept : parent_of p c ≢ c → (n x : ℕ) → steps_within n (pointed p c) x ≤ steps_within n p x
  unfolding steps_within
  steps_kept h zero x = omega arith
  steps_kept h (suc n) x =
      elim (ℕ_discrete x c) [
        | yes e ↦
            rw (e, pointed_same, steps_at_root n (pointed p c) (root_of p c) root_kept, ne_eqb (parent_of p c) c h)
            (at_most_one (eqb (root_of p c) c) (steps_within n p (parent_of p c)))
        | no e ↦ rw (pointed_other x e) (no_less (eqb (parent_of p x) x) (steps_kept h n (parent_of p x)))
      ]
    where
      no_less : (b : Bool) {m n : ℕ} → m ≤ n → one_more_unless b m ≤ one_more_unless b n
      no_less true h = omega arith
      no_less false h = omega arith

      at_most_one : (b : Bool) (n : ℕ) → one_more_unless b 0 ≤ suc n
      at_most_one true n = omega arith
      at_most_one false n = omega arith

  -- what was the parent of c has fewer steps left than c had
  pub next_less : parent_of p c ≢ c → steps_left (pointed p c) (parent_of p c) < steps_left p c
  next_less h = lt_of_le_of_lt (steps_kept h 10 (parent_of p c)) (steps_less p rooted c h)

-- ---- all the way up

repoint_at_root : (n : ℕ) (p : List ℕ) (r : ℕ) → parent_of p r ≡ r → repoint n p r r ≡ p
unfolding repoint
repoint_at_root zero p r e = refl
repoint_at_root (suc n) p r e = rw (set_same_parent p r e, e) (repoint_at_root n p r e)

-- what one step keeps, all of them keep
repoint_keeps : (Q : List ℕ → Type 0)
    → ((p : List ℕ) (c : ℕ) → Rooted p → c < max_polygons → Q p → Q (pointed p c))
    → (n : ℕ) (p : List ℕ) (c r : ℕ) → Rooted p → c < max_polygons → r ≡ root_of p c → Q p → Q (repoint n p c r)
unfolding repoint
repoint_keeps Q step zero p c r rooted inside e q = q
repoint_keeps Q step (suc n) p c r rooted inside e q =
    rw e
    (repoint_keeps Q step n (pointed p c) (parent_of p c) (root_of p c)
    (pointed_rooted p rooted c inside)
    (rooted.inside c inside)
    (sym (pointed_roots p rooted c inside (parent_of p c) ∙ root_step p rooted c))
    (step p c rooted inside q))

module _ (p : List ℕ) (rooted : Rooted p) (x : ℕ) (inside : x < max_polygons) where
  pub compressed_keeps : (Q : List ℕ → Type 0)
      → ((q : List ℕ) (c : ℕ) → Rooted q → c < max_polygons → Q q → Q (pointed q c))
      → Q p → Q (compressed p x)
  unfolding compressed
  compressed_keeps Q step q = repoint_keeps Q step 9 p x (root_of p x) rooted inside refl q

  -- every polygon has the root that it had
  pub compressed_roots : (y : ℕ) → root_of (compressed p x) y ≡ root_of p y
  compressed_roots =
      compressed_keeps (λ q. (y : ℕ) → root_of q y ≡ root_of p y) (λ q c r h same y. pointed_roots q r c h y ∙ same y) (λ y. refl)

-- ---- a compression under way

-- q has come of p by pointing at the root r each polygon from x up to c, and pointing the rest gives `compressed p x`
pub record Pointing (p : List ℕ) (x r : ℕ) (q : List ℕ) (c : ℕ) : Type 0 where
  pub rooted : Rooted q
  pub inside : c < max_polygons
  pub root : r ≡ root_of q c
  pub left : (n : ℕ) × (parent_of q (climb n q c) ≡ climb n q c) × (repoint n q c r ≡ compressed p x)

pub pointing_none : (p : List ℕ) (x r : ℕ) → Rooted p → x < max_polygons → r ≡ root_of p x → Pointing p x r p x
unfolding compressed root_of
pointing_none p x r rooted inside root =
    record { rooted = rooted; inside = inside; root = root; left = (9, rooted.reached x, ap (repoint 9 p x) root) }

module _ (p : List ℕ) (x r : ℕ) (q : List ℕ) (c : ℕ) (at : Pointing p x r q c) where
  -- a turn, at a polygon that is no root
  module _ (next : ℕ) (above : next ≡ parent_of q c) (no-root : next ≢ c) where
    pub pointing_less : steps_left (set q c r) next < steps_left q c
    pointing_less = rw (at.root, above) (next_less q at.rooted c at.inside (λ e. no-root (above ∙ e)))

    pub pointing_more : Pointing p x r (set q c r) next
    unfolding climb repoint
    pointing_more =
        rw above
        (record {
          rooted = rw at.root (pointed_rooted q at.rooted c at.inside);
          inside = at.rooted.inside c at.inside;
          root = rw at.root (sym (pointed_roots q at.rooted c at.inside (parent_of q c) ∙ root_step q at.rooted c));
          left = rest at.left.0 at.left.1 at.left.2;
        })
      where
        rest : (n : ℕ) → parent_of q (climb n q c) ≡ climb n q c → repoint n q c r ≡ compressed p x
            → (m : ℕ)
            × (parent_of (set q c r) (climb m (set q c r) (parent_of q c)) ≡ climb m (set q c r) (parent_of q c))
            × (repoint m (set q c r) (parent_of q c) r ≡ compressed p x)
        rest zero e same = absurd (no-root (above ∙ e))
        rest (suc m) e same = (m, rw at.root (climb_kept q at.rooted c at.inside m (parent_of q c) e), same)

  pub pointing_done : parent_of q c ≡ c → q ≡ compressed p x
  pointing_done e =
      let own : r ≡ c = at.root ∙ root_at_root q c e in
      sym (repoint_at_root at.left.0 q c e) ∙ ap (repoint at.left.0 q c) (sym own) ∙ at.left.2
