-- The fresh table: well formed, and every polygon its own root.
use Prim.Native.Nat.{ℕ, zero, suc}
use mathlib.Core.Path.{◌≡◌, refl}
use native.Mathlib.Omega.{arith}
use lib.ListN.{length, get_or, replicate, length-replicate}
use Rattle.union_find.specs.Forest.{max_polygons, parent_of, root_of}
use Rattle.union_find.specs.Table.{rank_of, WellFormed, fresh}
use Rattle.union_find.proofs.Laws.Forest.{count_up_length, count_up_parent, root_at_root}
use Rattle.union_find.proofs.Laws.Ranks.{members_own}

zeros_read : (n x : ℕ) → ◌≡◌ {A = ℕ} (get_or (replicate n 0) x 0) 0
zeros_read zero x = refl
zeros_read (suc n) zero = refl
zeros_read (suc n) (suc x) = zeros_read n x

fresh_parent : (x : ℕ) → parent_of fresh.parent x ≡ x
unfolding fresh
fresh_parent x = count_up_parent max_polygons x

fresh_rank : (x : ℕ) → rank_of fresh.rank x ≡ 0
unfolding fresh
fresh_rank x = zeros_read max_polygons x

-- every polygon is its own root
pub fresh_root : (x : ℕ) → root_of fresh.parent x ≡ x
fresh_root x = root_at_root fresh.parent x (fresh_parent x)

fresh_parents : length fresh.parent ≡ max_polygons
unfolding fresh
fresh_parents = count_up_length max_polygons

fresh_ranks : length fresh.rank ≡ max_polygons
unfolding fresh
fresh_ranks = length-replicate {A = ℕ} max_polygons 0

pub fresh_well : WellFormed fresh
fresh_well =
    record {
      parents = fresh_parents;
      ranks = fresh_ranks;
      inside = λ x h. rw (fresh_parent x) h;
      rises = λ x h. absurd (h (fresh_parent x));
      low = λ x. rw (fresh_rank x) (omega arith);
      large = λ r h e. rw (fresh_rank r) (members_own max_polygons fresh.parent r (fresh_root r) h);
    }
