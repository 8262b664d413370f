-- A test's answer as a fact: from `b ≡ true` to `T b` and back, and by cases. Assumes nothing.
use mathlib.Core.Path.{◌≡◌, refl, sym, ◌∙◌, subst}
use mathlib.Core.Bool.{Bool, true, false, not, false≢true}
use lib.Dec.{T}

pub held : {b : Bool} → b ≡ true → T b
held e = subst T (sym e) tt

pub told : {b : Bool} → T b → b ≡ true
told {b = true} t = refl
told {b = false} t = absurd t

pub failed : {b : Bool} → b ≡ false → T (not b)
failed e = rw e tt

pub by_cases : {X : Type 0} (b : Bool) → (b ≡ true → X) → (b ≡ false → X) → X
by_cases true t f = t refl
by_cases false t f = f refl

pub never : {X : Type 0} {b : Bool} → b ≡ true → b ≡ false → X
never t f = absurd (false≢true (sym f ∙ t))

-- what cannot be true is false
pub refuted : {b : Bool} → (b ≡ true → ⊥) → b ≡ false
refuted {b} h = by_cases b (λ t. absurd (h t)) (λ f. f)

-- two tests that imply each other are equal
pub alike : {a b : Bool} → (a ≡ true → b ≡ true) → (b ≡ true → a ≡ true) → a ≡ b
alike {a = true} h k = sym (h refl)
alike {a = false} h k = sym (refuted (λ t. never (k t) refl))

-- a test that is stated by its negation
pub not_of_true : {b : Bool} → b ≡ true → not b ≡ false
not_of_true h = rw h refl

pub not_of_false : {b : Bool} → b ≡ false → not b ≡ true
not_of_false h = rw h refl
