-- Lookups in a forest: what a list of parents says, how climbing ends at the root, and how many steps are left.
use Prim.Native.Nat.{ℕ, zero, suc, ◌<◌}
use mathlib.Core.Path.{◌≡◌, refl, sym, ◌∙◌, ap}
use mathlib.Core.Logic.{◌≢◌}
use mathlib.Core.Bool.{Bool, true, false}
use mathlib.Core.List.{List, [], ◌∷◌}
use native.Mathlib.Decide.{ℕ_discrete, dec_lt}
use native.Mathlib.Omega.{arith}
use lib.Dec.{eqb}
use lib.ListN.{length, get_or, set, length-append, get_or-append, get_or-eq_default}
use lib.Seq.{ext_get_or, get_or-set_same, get_or-set_other, set-get_or, get_or_at}
use borrow.Author.Tests.{eq-eqb, ne_eqb}
use Rattle.std.proofs.lemmas.List.{get_or_default}
use Rattle.union_find.specs.Forest.{max_polygons, parent_of, climb, root_of, Walk, there, up, Rooted, count_up}

-- ---- one list of parents

pub parent_read : (p : List ℕ) (x : ℕ) → x < length p → get_or p x 0 ≡ parent_of p x
unfolding parent_of
parent_read p x h = get_or_default p x 0 x h

pub parent_set_same : (p : List ℕ) (c r : ℕ) → c < length p → parent_of (set p c r) c ≡ r
unfolding parent_of
parent_set_same p c r h = get_or-set_same p c r c h

pub parent_set_other : (p : List ℕ) (c r x : ℕ) → x ≢ c → parent_of (set p c r) x ≡ parent_of p x
unfolding parent_of
parent_set_other p c r x h = get_or-set_other p c x r x h

pub set_same_parent : (p : List ℕ) (r : ℕ) → parent_of p r ≡ r → set p r r ≡ p
unfolding parent_of
set_same_parent p r e = ap (set p r) (sym e) ∙ set-get_or p r r

-- ---- every polygon its own parent

pub count_up_length : (n : ℕ) → length (count_up n) ≡ n
unfolding count_up
count_up_length zero = refl
count_up_length (suc n) = rw length-append (omega (arith, count_up_length n))

pub count_up_parent : (n x : ℕ) → parent_of (count_up n) x ≡ x
unfolding parent_of count_up
count_up_parent zero x = refl
count_up_parent (suc n) x =
    elim (dec_lt x n) [
      | yes h ↦ get_or-append (count_up n) (n ∷ []) x x (omega (arith, count_up_length n)) ∙ count_up_parent n x
      | no h ↦
          elim (ℕ_discrete x n) [
            | yes e ↦ rw e (get_or_at (count_up n) n [] n n (count_up_length n))
            | no e ↦ get_or-eq_default (count_up (suc n)) x (omega (arith, count_up_length (suc n)))
          ]
    ]

-- the only list of n numbers that has each at its own place
pub count_up_only : (l : List ℕ) (n : ℕ) → length l ≡ n → ((k : ℕ) → k < n → get_or l k 0 ≡ k) → l ≡ count_up n
count_up_only l n size each =
    ext_get_or 0 l (count_up n) (size ∙ sym (count_up_length n))
    (λ k h.
    let below : k < n = omega (arith, size) in
    each k below ∙ sym (parent_read (count_up n) k (omega (arith, count_up_length n)) ∙ count_up_parent n k))

-- ---- climbing

pub climb_at_root : (n : ℕ) (p : List ℕ) (r : ℕ) → parent_of p r ≡ r → climb n p r ≡ r
unfolding climb
climb_at_root zero p r e = refl
climb_at_root (suc n) p r e = rw e (climb_at_root n p r e)

-- one step more at the end is one step more at the start
climb_last : (n : ℕ) (p : List ℕ) (x : ℕ) → climb n p (parent_of p x) ≡ parent_of p (climb n p x)
unfolding climb
climb_last zero p x = refl
climb_last (suc n) p x = climb_last n p (parent_of p x)

pub root_at_root : (p : List ℕ) (r : ℕ) → parent_of p r ≡ r → root_of p r ≡ r
unfolding root_of
root_at_root p r e = climb_at_root 9 p r e

module _ (p : List ℕ) (rooted : Rooted p) where
  -- a polygon has its parent's root
  pub root_step : (x : ℕ) → root_of p (parent_of p x) ≡ root_of p x
  unfolding root_of
  root_step x = climb_last 9 p x ∙ rooted.reached x

  -- what holds of roots, and of a polygon where it holds of its parent, holds of all
  pub along : (P : ℕ → Type 0)
      → ((x : ℕ) → parent_of p x ≡ x → P x)
      → ((x : ℕ) → parent_of p x ≢ x → P (parent_of p x) → P x)
      → (x : ℕ) → P x
  unfolding climb root_of
  along P at above x = go 9 x (rooted.reached x)
    where
      go : (n : ℕ) (x : ℕ) → parent_of p (climb n p x) ≡ climb n p x → P x
      go zero x e = at x e
      go (suc n) x e = elim (ℕ_discrete (parent_of p x) x) [ yes h ↦ at x h | no h ↦ above x h (go n (parent_of p x) e) ]

  pub root_inside : (x : ℕ) → x < max_polygons → root_of p x < max_polygons
  unfolding climb root_of
  root_inside x h = climb_inside 9 x h
    where
      climb_inside : (n x : ℕ) → x < max_polygons → climb n p x < max_polygons
      climb_inside zero x h = h
      climb_inside (suc n) x h = climb_inside n (parent_of p x) (rooted.inside x h)

-- ---- the steps that are left

abbrev pub one_more_unless : Bool → ℕ → ℕ
one_more_unless true n = zero
one_more_unless false n = suc n

-- the parent steps from x to its root, counted up to n
unfoldable pub steps_within : ℕ → List ℕ → ℕ → ℕ
steps_within zero p x = zero
steps_within (suc n) p x = one_more_unless (eqb (parent_of p x) x) (steps_within n p (parent_of p x))

-- what falls as a walk goes up: 10 is room for every walk, and one more
abbrev pub steps_left : List ℕ → ℕ → ℕ
steps_left p x = steps_within 10 p x

pub steps_at_root : (n : ℕ) (p : List ℕ) (r : ℕ) → parent_of p r ≡ r → steps_within n p r ≡ 0
unfolding steps_within
steps_at_root zero p r e = refl
steps_at_root (suc n) p r e = simp (eq-eqb (parent_of p r) r e)

steps_above : (n : ℕ) (p : List ℕ) (x : ℕ) → parent_of p x ≢ x → steps_within (suc n) p x ≡ suc (steps_within n p (parent_of p x))
unfolding steps_within
steps_above n p x h = simp (ne_eqb (parent_of p x) x h)

-- a count that has room for all the steps does not grow with more room
steps_more : (n : ℕ) (p : List ℕ) (x : ℕ) → parent_of p (climb n p x) ≡ climb n p x → steps_within (suc n) p x ≡ steps_within n p x
unfolding climb steps_within
steps_more zero p x e = steps_at_root 1 p x e
steps_more (suc n) p x e = ap (one_more_unless (eqb (parent_of p x) x)) (steps_more n p (parent_of p x) e)

-- the parent is one step nearer to the root
pub steps_less : (p : List ℕ) → Rooted p → (x : ℕ) → parent_of p x ≢ x → steps_left p (parent_of p x) < steps_left p x
unfolding root_of
steps_less p rooted x h = rw (steps_more 9 p (parent_of p x) (rooted.reached (parent_of p x)), steps_above 9 p x h) (omega arith)

-- ---- the walk

-- from anywhere a walk ends at the root
pub walk_to_root : (p : List ℕ) → Rooted p → (x : ℕ) → (n : ℕ) × Walk p x (root_of p x) n
walk_to_root p rooted =
    along p rooted (λ x. (n : ℕ) × Walk p x (root_of p x) n)
    (λ x e. (0, rw (root_at_root p x e) (there e)))
    (λ x h rest. (suc rest.0, up h (rw (root_step p rooted x) at rest.1)))
