-- Answer 4: which coordinate is out of bounds.
use Rattle.std.specs.Prelude.{ℕ, not, List, Option, length, get_or, Float}
use Rattle.std.specs.Float.{nan}
use Rattle.lists.specs.Scans.{first_in}
use Rattle.geometry.specs.Coordinates.{coordinate}

-- the first coordinate of a list that is out of bounds
unfoldable pub bad_coordinate : List Float → Option ℕ
bad_coordinate xs = first_in (λ i. not (coordinate (get_or xs i nan))) 0 (length xs)
