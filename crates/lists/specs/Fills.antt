-- A list filled with one mark.
use Rattle.std.specs.Prelude.{ℕ, ◌-◌, List, ◌++◌, length, take, replicate}

-- the first k elements as they were, and the mark in every place behind them
unfoldable pub filled_from : {A : Type 0} → ℕ → A → List A → List A
filled_from k mark list = take k list ++ replicate (length list - k) mark
