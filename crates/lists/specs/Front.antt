-- What a function that writes the front of a lent list leaves there.
use Rattle.std.specs.Prelude.{◌≡◌, ℕ, List, ◌++◌, length, drop}

-- `after` is `before` with `written` in its first places, and `count` is how many these are
pub record Front {A : Type 0} (written before after : List A) (count : ℕ) : Type 0 where
  pub many : count ≡ length written
  pub list : after ≡ written ++ drop count before
