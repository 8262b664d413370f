-- Links between polygons, the chains that they make, and the table after any joins and lookups.
use Rattle.std.specs.Prelude.{ℕ, ◌<◌, length, get_or}
use mathlib.Core.List.{List, [], ◌∷◌, Memᴰ}
use Rattle.union_find.specs.declared.Table.{Table}
use Rattle.union_find.specs.Forest.{max_polygons}
use Rattle.union_find.specs.Table.{fresh, looked, joined}

abbrev pub Link : Type 0
Link = ℕ × ℕ

-- a chain leads from i to j: each step is one of the links, in either direction
pub data Chain (links : List Link) : ℕ → ℕ → Type 0 where
  here : {i : ℕ} → Chain links i i
  forth : {a b j : ℕ} → Memᴰ (a, b) links → Chain links b j → Chain links a j
  back : {a b j : ℕ} → Memᴰ (a, b) links → Chain links a j → Chain links b j

-- what is done to a table: a union of a and b, a lookup of a
pub data Op : Type 0 where
  join : ℕ → ℕ → Op
  look : ℕ → Op

-- the table after one of them
unfoldable pub step : Op → Table → Table
step (join a b) t = joined t a b
step (look a) t = looked t a

-- the table after a list of them, in their order
unfoldable pub run : List Op → Table → Table
run [] t = t
run (op ∷ ops) t = run ops (step op t)

-- the table after a list of them, from a fresh one
abbrev pub after : List Op → Table
after ops = run ops fresh

-- the links that were joined
unfoldable pub links_of : List Op → List Link
links_of [] = []
links_of (join a b ∷ ops) = (a, b) ∷ links_of ops
links_of (look a ∷ ops) = links_of ops

-- all that is joined or looked up is a polygon
abbrev pub Inside : Op → Type 0
Inside (join a b) = (a < max_polygons) × (b < max_polygons)
Inside (look a) = a < max_polygons

abbrev pub Within : List Op → Type 0
Within ops = (op : Op) → Memᴰ op ops → Inside op

-- a list of numbers, two by two; a last one by itself makes no pair
unfoldable pub pairs_of : List ℕ → List Link
pairs_of [] = []
pairs_of (a ∷ []) = []
pairs_of (a ∷ b ∷ l) = (a, b) ∷ pairs_of l

-- a join for each link
unfoldable pub joins : List Link → List Op
joins [] = []
joins (l ∷ links) = join l.0 l.1 ∷ joins links

-- every link is between polygons
abbrev pub BetweenPolygons : List Link → Type 0
BetweenPolygons links = (l : Link) → Memᴰ l links → (l.0 < max_polygons) × (l.1 < max_polygons)

-- every number is a polygon
abbrev pub Polygons : List ℕ → Type 0
Polygons l = (i : ℕ) → i < length l → get_or l i 0 < max_polygons
