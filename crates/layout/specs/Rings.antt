-- "Rings and the touch test", first line: the ring of a polygon.
use Rattle.std.specs.Prelude.{◌≡◌, ℕ, ◌+◌, ◌*◌, ◌≤◌, ◌<◌, List, [], ◌∷◌, length, get_or, take, drop, Float}
use Rattle.lists.specs.Gathered.{tabulate}

-- the sum of a list of lengths
abbrev pub total : List ℕ → ℕ
total [] = 0
total (n ∷ ns) = n + total ns

-- where the coordinates of ring i start: two for each point of the rings before it
unfoldable pub start_of : List ℕ → ℕ → ℕ
start_of lengths i = 2 * total (take i lengths)

-- the ring of polygon i, a part of the list of points; empty if there is none
unfoldable pub ring_of : List Float → List ℕ → ℕ → List Float
ring_of points lengths i = take (2 * get_or lengths i 0) (drop (start_of lengths i) points)

-- ---- the starts in a work list

-- the starts of the rings, and behind them the end of the last
abbrev pub starts_of : List ℕ → List ℕ
starts_of lengths = tabulate (start_of lengths) (length lengths + 1)

-- a list that begins with the starts of the lengths
pub record Starts (lengths starts : List ℕ) : Type 0 where
  pub long : length lengths < length starts
  pub each : (i : ℕ) → i ≤ length lengths → get_or starts i 0 ≡ start_of lengths i

-- the rings of the lengths lie in the list of points, and a list begins with their starts
pub record RingsIn (points : List Float) (lengths starts : List ℕ) : Type 0 where
  pub starting : Starts lengths starts
  pub inside : 2 * total lengths ≤ length points
