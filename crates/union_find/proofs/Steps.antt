-- The theorem of steps: after any joins and lookups from a fresh table, a lookup never takes more than 9 parent steps.
use Prim.Native.Nat.{ℕ, ◌≤◌}
use mathlib.Core.Path.{◌≡◌, refl}
use mathlib.Core.List.{List}
use native.Mathlib.Omega.{arith}
use Rattle.union_find.specs.declared.Table.{Table}
use Rattle.union_find.specs.Forest.{root_of, Walk, there, up}
use Rattle.union_find.specs.Table.{WellFormed, fresh}
use Rattle.union_find.specs.Chain.{Op, after, Within}
use Rattle.union_find.proofs.Laws.Forest.{walk_to_root}
use Rattle.union_find.proofs.Laws.Ranks.{well_rooted, walk_rises}
use Rattle.union_find.proofs.Laws.Fresh.{fresh_well}
use Rattle.union_find.proofs.Laws.Operations.{run_well}

-- a walk ends at one place, after one number of steps
pub one_walk : {p : List ℕ} {x r s m n : ℕ} → Walk p x r m → Walk p x s n → (r ≡ s) × (m ≡ n)
one_walk (there e) (there f) = (refl, refl)
one_walk (there e) (up h w) = absurd (h e)
one_walk (up h w) (there e) = absurd (h e)
one_walk (up h w) (up g v) = let (place, steps) = one_walk w v in (place, omega arith)

module _ (t : Table) (well : WellFormed t) where
  -- the walk from x ends at the root of x
  pub lookup_walks : (x : ℕ) → (n : ℕ) × Walk t.parent x (root_of t.parent x) n
  lookup_walks = walk_to_root t.parent (well_rooted t well)

  -- and takes 9 steps at most
  pub at_most_9_steps : {x r n : ℕ} → Walk t.parent x r n → n ≤ 9
  at_most_9_steps {x} {r} {n} walk = omega (arith, walk_rises t well walk, well.low r)

-- every table after joins and lookups is well formed: no rank is above 9, and a root of rank n is the root of 2 ^ n polygons
pub after_well : (ops : List Op) → Within ops → WellFormed (after ops)
after_well ops within = run_well ops fresh fresh_well within

pub lookups_take_at_most_9_steps : (ops : List Op) → Within ops → {x r n : ℕ} → Walk (after ops).parent x r n → n ≤ 9
lookups_take_at_most_9_steps ops within walk = at_most_9_steps (after ops) (after_well ops within) walk
