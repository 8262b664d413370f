-- The table as a value: when it is well formed, and what it is when fresh, after a lookup and after a join.
use Rattle.std.specs.Prelude.{ℕ, zero, suc, ◌+◌, ◌<◌, ◌≤◌, ◌^◌, ◌≡◌, ◌≢◌, ◌⊎◌, Bool, true, false, cond, List, length, get_or, set, replicate, eqb, ltb}
use Rattle.union_find.specs.declared.Table.{Table}
use Rattle.union_find.specs.Forest.{max_polygons, parent_of, root_of, compressed, count_up}

-- the rank of x
abbrev pub rank_of : List ℕ → ℕ → ℕ
rank_of k x = get_or k x 0

abbrev pub one : Bool → ℕ
one true = 1
one false = 0

-- how many of the polygons below n have the root r
unfoldable pub members_below : ℕ → List ℕ → ℕ → ℕ
members_below zero p r = zero
members_below (suc n) p r = one (eqb (root_of p n) r) + members_below n p r

-- what every `UnionFind` has: each parent is a polygon, ranks rise with each step up and none is above 9, and a root of rank n
-- is the root of at least 2 ^ n polygons
pub record WellFormed (t : Table) : Type 0 where
  pub parents : length t.parent ≡ max_polygons
  pub ranks : length t.rank ≡ max_polygons
  pub inside : (x : ℕ) → x < max_polygons → parent_of t.parent x < max_polygons
  pub rises : (x : ℕ) → parent_of t.parent x ≢ x → rank_of t.rank x < rank_of t.rank (parent_of t.parent x)
  pub low : (x : ℕ) → rank_of t.rank x ≤ 9
  pub large : (r : ℕ) → r < max_polygons → parent_of t.parent r ≡ r → 2 ^ rank_of t.rank r ≤ members_below max_polygons t.parent r

-- every polygon its own parent, every rank 0
unfoldable pub fresh : Table
fresh = record { parent = count_up max_polygons; rank = replicate max_polygons 0 }

-- the table after a lookup of x
abbrev pub looked : Table → ℕ → Table
looked t x = record { parent = compressed t.parent x; rank = t.rank }

-- the parents after the roots a and b, of ranks j and k, are joined: the lower rank goes under the higher, at a tie b under a
abbrev pub hung : List ℕ → ℕ → ℕ → ℕ → ℕ → List ℕ
hung p a b j k = cond (eqb a b) p (cond (ltb j k) (set p a b) (set p b a))

-- the rank of a after that: at a tie of two roots one more
abbrev pub risen : ℕ → ℕ → ℕ → ℕ → ℕ
risen a b j k = cond (eqb a b) j (cond (eqb j k) (j + 1) j)

-- the table after the roots a and b are joined
unfoldable pub linked : Table → ℕ → ℕ → Table
linked t a b =
    record {
      parent = hung t.parent a b (rank_of t.rank a) (rank_of t.rank b);
      rank = set t.rank a (risen a b (rank_of t.rank a) (rank_of t.rank b));
    }

-- the table after a join of a and b: a is looked up, then b, and their roots are joined
unfoldable pub joined : Table → ℕ → ℕ → Table
joined t a b = linked (looked (looked t a) b) (root_of t.parent a) (root_of t.parent b)

-- i and j have one root
abbrev pub OneRoot : Table → ℕ → ℕ → Type 0
OneRoot t i j = root_of t.parent i ≡ root_of t.parent j

-- what a lookup keeps: the root of every polygon, and every rank
pub record Keeps (t u : Table) : Type 0 where
  pub well : WellFormed u
  pub roots : (y : ℕ) → root_of u.parent y ≡ root_of t.parent y
  pub ranks : u.rank ≡ t.rank

-- what a join does: the classes of a and b become one, under one of their two roots, and every other polygon keeps its root
pub record Unites (t : Table) (a b : ℕ) (u : Table) : Type 0 where
  pub well : WellFormed u
  pub both : (x : ℕ) → OneRoot t x a ⊎ OneRoot t x b → OneRoot u x a
  pub under : (root_of u.parent a ≡ root_of t.parent a) ⊎ (root_of u.parent a ≡ root_of t.parent b)
  pub others : (x : ℕ) → ¬ OneRoot t x a → ¬ OneRoot t x b → root_of u.parent x ≡ root_of t.parent x
