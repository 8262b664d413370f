-- The theorem of chains: after any joins and lookups from a fresh table, two polygons have one root exactly where a chain of the
-- joins leads from one to the other.
use Prim.Native.Nat.{ℕ, ◌<◌}
use mathlib.Core.Path.{◌≡◌, refl, sym, ◌∙◌, subst}
use mathlib.Core.Logic.{◌⊎◌, inl, inr, ⊎_elim, ◌↔◌}
use mathlib.Core.List.Memᴰ
use mathlib.Core.List.{List, [], ◌∷◌, Memᴰ}
use native.Mathlib.Decide.{ℕ_discrete}
use Rattle.union_find.specs.declared.Table.{Table}
use Rattle.union_find.specs.Forest.{max_polygons, root_of}
use Rattle.union_find.specs.Table.{WellFormed, fresh, joined, looked, OneRoot, Unites}
use Rattle.union_find.specs.Chain.{Link, Chain, here, forth, back, Op, join, look, step, run, after, links_of, joins, Inside, Within, BetweenPolygons}
use Rattle.union_find.proofs.Laws.Fresh.{fresh_well, fresh_root}
use Rattle.union_find.proofs.Laws.Ranks.{looked_keeps}
use Rattle.union_find.proofs.Laws.Joins.{joined_unites}
use Rattle.union_find.proofs.Laws.Operations.{step_well, within_first, within_rest, links_of_joins, joins_within}

-- ---- chains are an equivalence

module _ {links : List Link} where
  pub chain_append : {i j k : ℕ} → Chain links i j → Chain links j k → Chain links i k
  chain_append here d = d
  chain_append (forth m c) d = forth m (chain_append c d)
  chain_append (back m c) d = back m (chain_append c d)

  pub chain_reverse : {i j : ℕ} → Chain links i j → Chain links j i
  chain_reverse here = here
  chain_reverse (forth m c) = chain_append (chain_reverse c) (back m here)
  chain_reverse (back m c) = chain_append (chain_reverse c) (forth m here)

  chain_same : {i j : ℕ} → i ≡ j → Chain links i j
  chain_same {i} e = subst (λ (k : ℕ). Chain links i k) e here

-- ---- what one union does to pairs of polygons

module _ {t u : Table} {a b : ℕ} (unites : Unites t a b u) where
  -- x is of one of the two classes, or of neither
  side : (x : ℕ) → (OneRoot t x a ⊎ OneRoot t x b) ⊎ ((¬ OneRoot t x a) × (¬ OneRoot t x b))
  side x =
      elim (ℕ_discrete (root_of t.parent x) (root_of t.parent a)) [
        | yes e ↦ inl (inl e)
        | no e ↦ elim (ℕ_discrete (root_of t.parent x) (root_of t.parent b)) [ yes f ↦ inl (inr f) | no f ↦ inr (e, f) ]
      ]

  -- what has one root keeps one
  unites_keeps : (i j : ℕ) → OneRoot t i j → OneRoot u i j
  unites_keeps i j e =
      ⊎_elim
      (λ in-i. unites.both i in-i ∙ sym (unites.both j (⊎_elim (λ f. inl (sym e ∙ f)) (λ f. inr (sym e ∙ f)) in-i)))
      (λ out. unites.others i out.0 out.1 ∙ e ∙ sym (unites.others j (λ f. out.0 (e ∙ f)) (λ f. out.1 (e ∙ f)))) (side i)

  -- a polygon of neither class has not come to have their root
  apart : (i j : ℕ) → OneRoot t i a ⊎ OneRoot t i b → (¬ OneRoot t j a) × (¬ OneRoot t j b) → OneRoot u i j → ⊥
  apart i j in-i out e =
      let j-stays : root_of t.parent j ≡ root_of u.parent a = sym (unites.others j out.0 out.1) ∙ sym e ∙ unites.both i in-i in
      ⊎_elim (λ f. out.0 (j-stays ∙ f)) (λ f. out.1 (j-stays ∙ f)) unites.under

  -- two polygons with one root had one before, or were one of each class
  unites_only : (i j : ℕ) → OneRoot u i j → OneRoot t i j ⊎ (OneRoot t i a × OneRoot t j b) ⊎ (OneRoot t i b × OneRoot t j a)
  unites_only i j e =
      ⊎_elim
      (λ in-i. ⊎_elim (λ in-j. within in-i in-j) (λ out. absurd (apart i j in-i out e)) (side j))
      (λ out.
      ⊎_elim (λ in-j. absurd (apart j i in-j out (sym e)))
      (λ out-j. inl (sym (unites.others i out.0 out.1) ∙ e ∙ unites.others j out-j.0 out-j.1)) (side j))
      (side i)
    where
      within : OneRoot t i a ⊎ OneRoot t i b → OneRoot t j a ⊎ OneRoot t j b
          → OneRoot t i j ⊎ (OneRoot t i a × OneRoot t j b) ⊎ (OneRoot t i b × OneRoot t j a)
      within (inl f) (inl g) = inl (f ∙ sym g)
      within (inl f) (inr g) = inr (inl (f, g))
      within (inr f) (inl g) = inr (inr (f, g))
      within (inr f) (inr g) = inl (f ∙ sym g)

-- ---- from a chain to one root

step_keeps : (op : Op) (t : Table) → WellFormed t → Inside op → (i j : ℕ) → OneRoot t i j → OneRoot (step op t) i j
unfolding step
step_keeps (join a b) t well inside i j e = unites_keeps (joined_unites t well a b inside.0 inside.1) i j e
step_keeps (look a) t well inside i j e = let kept = looked_keeps t well a inside in kept.roots i ∙ e ∙ sym (kept.roots j)

run_keeps : (ops : List Op) (t : Table) → WellFormed t → Within ops → (i j : ℕ) → OneRoot t i j → OneRoot (run ops t) i j
unfolding run
run_keeps [] t well within i j e = e
run_keeps (op ∷ ops) t well within i j e =
    run_keeps ops (step op t) (step_well op t well (within_first within)) (within_rest within) i j
    (step_keeps op t well (within_first within) i j e)

-- the ends of a link that was joined have one root
link_joins : (ops : List Op) (t : Table) → WellFormed t → Within ops → (l : Link) → Memᴰ l (links_of ops)
    → OneRoot (run ops t) l.0 l.1
unfolding run links_of step
link_joins [] t well within l at = absurd (Memᴰ.not-nil at)
link_joins (join a b ∷ ops) t well within l at =
    let inside = within_first within in
    let now-well = step_well (join a b) t well inside in
    ⊎_elim
    (λ e.
    rw e
    (run_keeps ops (joined t a b) now-well (within_rest within) a b
    (sym ((joined_unites t well a b inside.0 inside.1).both b (inr refl)))))
    (λ later. link_joins ops (joined t a b) now-well (within_rest within) l later) (Memᴰ.cases_cons at)
link_joins (look a ∷ ops) t well within l at =
    link_joins ops (looked t a) (step_well (look a) t well (within_first within)) (within_rest within) l at

chain_joins : (ops : List Op) (t : Table) → WellFormed t → Within ops → {i j : ℕ} → Chain (links_of ops) i j
    → OneRoot (run ops t) i j
chain_joins ops t well within here = refl
chain_joins ops t well within (forth {a = a} {b = b} m c) = link_joins ops t well within (a, b) m ∙ chain_joins ops t well within c
chain_joins ops t well within (back {a = a} {b = b} m c) = sym (link_joins ops t well within (a, b) m) ∙ chain_joins ops t well within c

-- ---- from one root to a chain

-- of the links `all`, which hold those of the operations
module _ (all : List Link) where
  -- a join of the link l brings together only what chains with l lead to
  join_chains : (t : Table) → WellFormed t → (a b : ℕ) → a < max_polygons → b < max_polygons → Memᴰ (a, b) all
      → ((i j : ℕ) → OneRoot t i j → Chain all i j)
      → (i j : ℕ) → OneRoot (joined t a b) i j → Chain all i j
  join_chains t well a b a-inside b-inside held before i j e =
      ⊎_elim (λ same. before i j same)
      (λ brought.
      ⊎_elim (λ ends. chain_append (before i a ends.0) (forth held (before b j (sym ends.1))))
      (λ ends. chain_append (before i b ends.0) (back held (before a j (sym ends.1)))) brought)
      (unites_only (joined_unites t well a b a-inside b-inside) i j e)

  only_chains : (ops : List Op) (t : Table) → WellFormed t → Within ops
      → ((l : Link) → Memᴰ l (links_of ops) → Memᴰ l all)
      → ((i j : ℕ) → OneRoot t i j → Chain all i j)
      → (i j : ℕ) → OneRoot (run ops t) i j → Chain all i j
  unfolding run links_of step
  only_chains [] t well within held before i j e = before i j e
  only_chains (join a b ∷ ops) t well within held before i j e =
      let inside = within_first within in
      only_chains ops (joined t a b) (step_well (join a b) t well inside) (within_rest within) (λ l at. held l (Memᴰ.tail at))
      (join_chains t well a b inside.0 inside.1 (held (a, b) (Memᴰ.head refl)) before) i j e
  only_chains (look a ∷ ops) t well within held before i j e =
      let kept = looked_keeps t well a (within_first within) in
      only_chains ops (looked t a) kept.well (within_rest within) held
      (λ i j f. before i j (sym (kept.roots i) ∙ f ∙ kept.roots j)) i j e

-- ---- both

pub one_root_iff_chain : (ops : List Op) → Within ops → (i j : ℕ) → OneRoot (after ops) i j ↔ Chain (links_of ops) i j
one_root_iff_chain ops within i j = (
  only_chains (links_of ops) ops fresh fresh_well within (λ l at. at) (λ a b e. chain_same (sym (fresh_root a) ∙ e ∙ fresh_root b)) i j,
  chain_joins ops fresh fresh_well within,
)

-- the same of joins alone
pub one_root_iff_chain_of_joins : (links : List Link) → BetweenPolygons links → (i j : ℕ) → OneRoot (after (joins links)) i j ↔ Chain links i j
one_root_iff_chain_of_joins links inside i j =
    rw links_of_joins at (one_root_iff_chain (joins links) (joins_within links inside) i j)
