-- A test that every element of a list passes.
use Rattle.std.specs.Prelude.{◌≡◌, Bool, true, List, [], ◌∷◌}

unfoldable pub AllOf : {A : Type 0} → (A → Bool) → List A → Type 0
AllOf test [] = Unit
AllOf test (x ∷ xs) = (test x ≡ true) × AllOf test xs
