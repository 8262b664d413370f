-- The forest that a list of parents spells. Polygons are the indices below `max_polygons`.
use Rattle.std.specs.Prelude.{ℕ, zero, suc, ◌<◌, ◌≡◌, ◌≢◌, List, [], ◌∷◌, ◌++◌, length, get_or, set}

-- how many polygons a layout may have
abbrev pub max_polygons : ℕ
max_polygons = 512

-- the parent of x; what stands past the end is its own parent
unfoldable pub parent_of : List ℕ → ℕ → ℕ
parent_of p x = get_or p x x

-- what stands n parent steps above x
unfoldable pub climb : ℕ → List ℕ → ℕ → ℕ
climb zero p x = x
climb (suc n) p x = climb n p (parent_of p x)

-- the root of x: in a well-formed table nothing is more than 9 steps below its root
unfoldable pub root_of : List ℕ → ℕ → ℕ
root_of p x = climb 9 p x

-- the parent walk from x takes n steps, each to a different parent, and ends at r, which is its own parent
pub data Walk (p : List ℕ) : ℕ → ℕ → ℕ → Type 0 where
  there : {r : ℕ} → parent_of p r ≡ r → Walk p r r zero
  up : {x r n : ℕ} → parent_of p x ≢ x → Walk p (parent_of p x) r n → Walk p x r (suc n)

-- n times over: the polygon c is pointed at r, and what was its parent is next
unfoldable pub repoint : ℕ → List ℕ → ℕ → ℕ → List ℕ
repoint zero p c r = p
repoint (suc n) p c r = repoint n (set p c r) (parent_of p c) r

-- every polygon on the way from x to its root is pointed at the root
unfoldable pub compressed : List ℕ → ℕ → List ℕ
compressed p x = repoint 9 p x (root_of p x)

-- what a lookup needs of the parents: as many as polygons, each a polygon, and from anywhere the steps end at a root
pub record Rooted (p : List ℕ) : Type 0 where
  pub size : length p ≡ max_polygons
  pub inside : (x : ℕ) → x < max_polygons → parent_of p x < max_polygons
  pub reached : (x : ℕ) → parent_of p (root_of p x) ≡ root_of p x

-- 0, 1, .., n numbers in all
unfoldable pub count_up : ℕ → List ℕ
count_up zero = []
count_up (suc n) = count_up n ++ (n ∷ [])
