-- Components: the classes of the conducting polygons, numbered 0, 1, 2 by least polygon ("From polygons to nets", 6).
use Rattle.std.specs.Prelude.{ℕ, zero, suc, ◌+◌, ◌<◌, ◌≡◌, ◌↔◌, Bool, true, false, cond, not, ◌&&◌, ◌||◌, List, [], ◌∷◌, ◌++◌, length, get_or, eqb}
use Rattle.lists.specs.Marks.{empty_number}
use Rattle.lists.specs.Front.{Front}
use Rattle.union_find.specs.Forest.{root_of}
use Rattle.union_find.specs.Table.{one}

-- ---- what a numbering is

module _ (n : ℕ) (conducts : ℕ → Bool) where
  -- i is one of the n polygons, and conducts
  abbrev pub Conducting : ℕ → Type 0
  Conducting i = (i < n) × (conducts i ≡ true)

module _ (n : ℕ) (conducts : ℕ → Bool) (Same : ℕ → ℕ → Type 0) where
  -- f is the least polygon of the component of i
  pub record Least (i f : ℕ) : Type 0 where
    pub conducting : Conducting n conducts f
    pub same : Same f i
    pub first : (x : ℕ) → x < f → Conducting n conducts x → Same x i → ⊥

  -- two conducting polygons have one number exactly where they are the same, numbers rise with the least polygon, those
  -- given are exactly the ones below `count`, and whatever does not conduct has the mark
  pub record Numbered (count : ℕ) (numbers : List ℕ) : Type 0 where
    pub size : length numbers ≡ n
    pub same : (i j : ℕ) → Conducting n conducts i → Conducting n conducts j → (get_or numbers i 0 ≡ get_or numbers j 0) ↔ Same i j
    pub rises : (i j f g : ℕ) → Conducting n conducts i → Conducting n conducts j → Least i f → Least j g → f < g
        → get_or numbers i 0 < get_or numbers j 0
    pub given : (k : ℕ) → (k < count) ↔ ((i : ℕ) × Conducting n conducts i × (get_or numbers i 0 ≡ k))
    pub marked : (i : ℕ) → i < n → conducts i ≡ false → get_or numbers i 0 ≡ empty_number

-- ---- the numbering that a walk over the polygons makes, which gives each new root the next number

module _ (root : ℕ → ℕ) (conducts : ℕ → Bool) where
  -- has a conducting polygon below n the root r?
  unfoldable pub seen : ℕ → ℕ → Bool
  seen r zero = false
  seen r (suc n) = (conducts n && eqb (root n) r) || seen r n

  -- does n conduct, and is its root new?
  abbrev pub is_new : ℕ → Bool
  is_new n = conducts n && not (seen (root n) n)

  -- how many new roots stand below n
  unfoldable pub new_below : ℕ → ℕ
  new_below zero = zero
  new_below (suc n) = one (is_new n) + new_below n

  -- the number of the root r, seen below n; of one that is not seen yet, the next number
  unfoldable pub number_for : ℕ → ℕ → ℕ
  number_for r zero = zero
  number_for r (suc n) = cond (seen r (suc n)) (number_for r n) (new_below (suc n))

  -- the number of polygon i
  unfoldable pub number_at : ℕ → ℕ
  number_at i = cond (conducts i) (number_for (root i) i) empty_number

  -- the numbers of the polygons below n
  unfoldable pub numbers_below : ℕ → List ℕ
  numbers_below zero = []
  numbers_below (suc n) = numbers_below n ++ (number_at n ∷ [])

-- does polygon i conduct?
abbrev pub conducts_in : List Bool → ℕ → Bool
conducts_in conducts i = get_or conducts i false

-- the numbers of n polygons with the parents p
abbrev pub numbers_of : List ℕ → List Bool → ℕ → List ℕ
numbers_of p conducts n = numbers_below (root_of p) (conducts_in conducts) n

-- how many there are
abbrev pub count_of : List ℕ → List Bool → ℕ → ℕ
count_of p conducts n = new_below (root_of p) (conducts_in conducts) n

-- what `number_components` hands back: `count` components, and their numbers in front of the list that was `before`
pub record Components (p : List ℕ) (conducts : List Bool) (n : ℕ) (before after : List ℕ) (count : ℕ) : Type 0 where
  pub many : count ≡ count_of p conducts n
  pub front : Front (numbers_of p conducts n) before after n
