-- Operations in turn: every table that they make of a well-formed one is well formed; and pairs of a list joined one by one.
use Prim.Native.Nat.{ℕ, suc, ◌<◌}
use mathlib.Core.Path.{◌≡◌, refl, ap}
use mathlib.Core.Logic.{⊎_elim}
use mathlib.Core.List.Memᴰ
use mathlib.Core.List.{List, [], ◌∷◌, ◌++◌}
use native.Mathlib.Omega.{arith}
use lib.ListN.{length, get_or}
use Rattle.union_find.specs.declared.Table.{Table}
use Rattle.union_find.specs.Table.{WellFormed, joined}
use Rattle.union_find.specs.Chain.{Link, Op, join, look, step, run, links_of, Inside, Within, pairs_of, joins, BetweenPolygons, Polygons}
use Rattle.union_find.proofs.Laws.Ranks.{looked_keeps}
use Rattle.union_find.proofs.Laws.Joins.{joined_unites}

-- ---- well formed

pub step_well : (op : Op) (t : Table) → WellFormed t → Inside op → WellFormed (step op t)
unfolding step
step_well (join a b) t well inside = (joined_unites t well a b inside.0 inside.1).well
step_well (look a) t well inside = (looked_keeps t well a inside).well

pub within_first : {op : Op} {ops : List Op} → Within (op ∷ ops) → Inside op
within_first {op} within = within op (Memᴰ.head refl)

pub within_rest : {op : Op} {ops : List Op} → Within (op ∷ ops) → Within ops
within_rest within other at = within other (Memᴰ.tail at)

pub run_well : (ops : List Op) (t : Table) → WellFormed t → Within ops → WellFormed (run ops t)
unfolding run
run_well [] t well within = well
run_well (op ∷ ops) t well within = run_well ops (step op t) (step_well op t well (within_first within)) (within_rest within)

-- ---- joins alone

-- joins after joins are the joins of both lists
pub joins_in_turn : (links more : List Link) (t : Table) → run (joins more) (run (joins links) t) ≡ run (joins (links ++ more)) t
unfolding run joins
joins_in_turn [] more t = refl
joins_in_turn (l ∷ links) more t = joins_in_turn links more (step (join l.0 l.1) t)

pub links_of_joins : (links : List Link) → links_of (joins links) ≡ links
unfolding links_of joins
links_of_joins [] = refl
links_of_joins (l ∷ links) = ap (λ (m : List Link). l ∷ m) (links_of_joins links)

pub joins_within : (links : List Link) → BetweenPolygons links → Within (joins links)
unfolding joins
joins_within [] inside op at = absurd (Memᴰ.not-nil at)
joins_within (l ∷ links) inside op at =
    ⊎_elim (λ e. rw e (inside l (Memᴰ.head refl)))
    (λ later. joins_within links (λ m there. inside m (Memᴰ.tail there)) op later) (Memᴰ.cases_cons at)

-- ---- the pairs of a list

-- pairs of polygons are links between polygons
pub pairs_between : (l : List ℕ) → Polygons l → BetweenPolygons (pairs_of l)
unfolding pairs_of
pairs_between [] inside m at = absurd (Memᴰ.not-nil at)
pairs_between (a ∷ []) inside m at = absurd (Memᴰ.not-nil at)
pairs_between (a ∷ b ∷ l) inside m at =
    ⊎_elim (λ e. rw e (inside 0 (omega arith), inside 1 (omega arith)))
    (λ later. pairs_between l (λ i h. inside (suc (suc i)) (omega arith)) m later) (Memᴰ.cases_cons at)

-- the first two numbers of a list, and the rest
pub polygons_rest : (pair rest : List ℕ) → length pair ≡ 2 → Polygons (pair ++ rest) → Polygons rest
polygons_rest [] rest two inside = absurd (omega (arith, two))
polygons_rest (a ∷ []) rest two inside = absurd (omega (arith, two))
polygons_rest (a ∷ b ∷ []) rest two inside = λ i h. inside (suc (suc i)) (omega arith)
polygons_rest (a ∷ b ∷ c ∷ more) rest two inside = absurd (omega (arith, two))

-- their join, and then those of the rest
pub joins_first : (pair rest : List ℕ) (t : Table) → length pair ≡ 2
    → run (joins (pairs_of (pair ++ rest))) t ≡ run (joins (pairs_of rest)) (joined t (get_or pair 0 0) (get_or pair 1 0))
unfolding run joins pairs_of step
joins_first [] rest t two = absurd (omega (arith, two))
joins_first (a ∷ []) rest t two = absurd (omega (arith, two))
joins_first (a ∷ b ∷ []) rest t two = refl
joins_first (a ∷ b ∷ c ∷ more) rest t two = absurd (omega (arith, two))

-- fewer than two make no pair
pub joins_none : (l : List ℕ) (t : Table) → length l < 2 → run (joins (pairs_of l)) t ≡ t
unfolding run joins pairs_of
joins_none [] t few = refl
joins_none (a ∷ []) t few = refl
joins_none (a ∷ b ∷ l) t few = absurd (omega arith)
