-- `le` and `lt` order all numbers, the infinities too: any three stand on one scale, and what is asked holds of their places.
-- A comparison that answers true has numbers on both sides, so that only the laws that start from a false one ask for numbers.
use mathlib.Core.Path.{◌≡◌, refl}
use mathlib.Core.Logic.{◌⊎◌, inl, inr}
use native.Mathlib.Omega.{arith}
use mathlib.Core.Bool.{true, false, not}
use lib.Dec.{T}
use lib.Ieee.{Float, nan, inf, fin, lt, eq, le}
use lib.Ieee.Scale.{finite}
use Rattle.floats.specs.Kinds.{is_number}
use Rattle.lists.proofs.Laws.Tests.{by_cases, never, refuted, alike}
use Rattle.floats.proofs.Laws.Scale.{three, lt_says, says_lt, not_lt_says, says_not_lt, le_says, says_le, not_le_says, eq_says, says_eq}

-- ---- who compares is a number
nan_or_number : {X : Type 0} (x : Float) → (x ≡ nan → X) → (is_number x ≡ true → X) → X
unfolding is_number
nan_or_number nan h k = h refl
nan_or_number (inf s) h k = k refl
nan_or_number (fin s m e) h k = k refl

le_nan : (x : Float) → le x nan ≡ false
unfolding le
le_nan nan = refl
le_nan (inf s) = refl
le_nan (fin s m e) = refl

pub le_left : (x y : Float) → le x y ≡ true → is_number x ≡ true
unfolding le is_number
le_left nan y h = h
le_left (inf s) y h = refl
le_left (fin s m e) y h = refl

pub le_right : (x y : Float) → le x y ≡ true → is_number y ≡ true
le_right x y h = nan_or_number y (λ e. never h (rw e (le_nan x))) (λ n. n)

pub lt_le : (x y : Float) → lt x y ≡ true → le x y ≡ true
unfolding le
lt_le x y h = rw h

pub eq_le : (x y : Float) → eq x y ≡ true → le x y ≡ true
unfolding le
eq_le x y h = by_cases (lt x y) (λ l. rw l) (λ l. rw (l, h))

pub lt_left : (x y : Float) → lt x y ≡ true → is_number x ≡ true
lt_left x y h = le_left x y (lt_le x y h)

pub lt_right : (x y : Float) → lt x y ≡ true → is_number y ≡ true
lt_right x y h = le_right x y (lt_le x y h)

-- ---- three numbers
pub le_trans : (x y z : Float) → le x y ≡ true → le y z ≡ true → le x z ≡ true
le_trans x y z h k =
    let (S, p, q, r) = three x y z (le_left x y h) (le_right x y h) (le_right y z k) in
    says_le p r (omega (arith, le_says p q h, le_says q r k))

pub le_lt_trans : (x y z : Float) → le x y ≡ true → lt y z ≡ true → lt x z ≡ true
le_lt_trans x y z h k =
    let (S, p, q, r) = three x y z (le_left x y h) (le_right x y h) (lt_right y z k) in
    says_lt p r (omega (arith, le_says p q h, lt_says q r k))

pub lt_le_trans : (x y z : Float) → lt x y ≡ true → le y z ≡ true → lt x z ≡ true
lt_le_trans x y z h k =
    let (S, p, q, r) = three x y z (lt_left x y h) (lt_right x y h) (le_right y z k) in
    says_lt p r (omega (arith, lt_says p q h, le_says q r k))

pub lt_trans : (x y z : Float) → lt x y ≡ true → lt y z ≡ true → lt x z ≡ true
lt_trans x y z h k = le_lt_trans x y z (lt_le x y h) k

-- ---- a comparison and the one the other way
pub le_not_lt : (x y : Float) → le x y ≡ true → lt y x ≡ false
le_not_lt x y h =
    let (S, p, q, r) = three x y y (le_left x y h) (le_right x y h) (le_right x y h) in
    says_not_lt q p (omega (arith, le_says p q h))

pub lt_not_le : (x y : Float) → lt x y ≡ true → le y x ≡ false
lt_not_le x y h = refuted (λ k. never h (le_not_lt y x k))

pub not_lt : (x y : Float) → is_number x ≡ true → is_number y ≡ true → lt x y ≡ false → le y x ≡ true
not_lt x y nx ny h = let (S, p, q, r) = three x y y nx ny ny in says_le q p (omega (arith, not_lt_says p q h))

pub not_le : (x y : Float) → is_number x ≡ true → is_number y ≡ true → le x y ≡ false → lt y x ≡ true
not_le x y nx ny h = let (S, p, q, r) = three x y y nx ny ny in says_lt q p (omega (arith, not_le_says p q h))

-- in one equation each
pub lt_is_not_le : (x y : Float) → is_number x ≡ true → is_number y ≡ true → lt x y ≡ not (le y x)
lt_is_not_le x y nx ny = by_cases (le y x) (λ h. rw h (le_not_lt y x h)) (λ h. rw h (not_le y x ny nx h))

pub le_is_not_lt : (x y : Float) → is_number x ≡ true → is_number y ≡ true → le x y ≡ not (lt y x)
le_is_not_lt x y nx ny = by_cases (lt y x) (λ h. rw h (lt_not_le y x h)) (λ h. rw h (not_lt y x ny nx h))

pub lt_asym : (x y : Float) → lt x y ≡ true → lt y x ≡ false
lt_asym x y h = le_not_lt x y (lt_le x y h)

pub lt_irrefl : (x : Float) → lt x x ≡ false
lt_irrefl x = refuted (λ h. never h (lt_asym x x h))

pub le_total : (x y : Float) → is_number x ≡ true → is_number y ≡ true → (le x y ≡ true) ⊎ (le y x ≡ true)
le_total x y nx ny = by_cases (lt y x) (λ h. inr (lt_le y x h)) (λ h. inl (not_lt y x ny nx h))

-- ---- a value and itself: a NaN alone is not at or below itself
pub le_refl : (x : Float) → is_number x ≡ true → le x x ≡ true
le_refl x n = not_lt x x n n (lt_irrefl x)

pub le_self : (x : Float) → le x x ≡ is_number x
le_self x = alike (le_left x x) (le_refl x)

-- ---- `eq`: neither is below the other
pub le_both : (x y : Float) → le x y ≡ true → le y x ≡ true → eq x y ≡ true
le_both x y h k =
    let (S, p, q, r) = three x y y (le_left x y h) (le_right x y h) (le_right x y h) in
    says_eq p q (omega (arith, le_says p q h, le_says q p k))

pub eq_ge : (x y : Float) → eq x y ≡ true → le y x ≡ true
eq_ge x y e =
    let h = eq_le x y e in
    let (S, p, q, r) = three x y y (le_left x y h) (le_right x y h) (le_right x y h) in
    says_le q p (omega (arith, eq_says p q e))

pub eq_sym : (x y : Float) → eq x y ≡ true → eq y x ≡ true
eq_sym x y h = le_both y x (eq_ge x y h) (eq_le x y h)

pub eq_self : (x : Float) → eq x x ≡ is_number x
eq_self x = alike (λ h. le_left x x (eq_le x x h)) (λ n. le_both x x (le_refl x n) (le_refl x n))

-- ---- the ends
pub le_top : (x : Float) → is_number x ≡ true → le x (inf false) ≡ true
unfolding le is_number
le_top nan n = n
le_top (inf true) n = refl
le_top (inf false) n = refl
le_top (fin s m e) n = refl

pub bottom_le : (x : Float) → is_number x ≡ true → le (inf true) x ≡ true
unfolding le is_number
bottom_le nan n = n
bottom_le (inf true) n = refl
bottom_le (inf false) n = refl
bottom_le (fin s m e) n = refl

pub lt_top : (x : Float) → T (finite x) → lt x (inf false) ≡ true
unfolding lt
lt_top nan f = absurd f
lt_top (inf s) f = absurd f
lt_top (fin s m e) f = refl

pub bottom_lt : (x : Float) → T (finite x) → lt (inf true) x ≡ true
unfolding lt
bottom_lt nan f = absurd f
bottom_lt (inf s) f = absurd f
bottom_lt (fin s m e) f = refl

-- what lies between two finite values is finite
inside : (x : Float) → lt (inf true) x ≡ true → lt x (inf false) ≡ true → T (finite x)
unfolding lt
inside nan h k = never h refl
inside (inf true) h k = never h refl
inside (inf false) h k = never k refl
inside (fin s m e) h k = tt

pub between_finite : (a x b : Float) → T (finite a) → T (finite b) → le a x ≡ true → le x b ≡ true → T (finite x)
between_finite a x b f g h k = inside x (lt_le_trans (inf true) a x (bottom_lt a f) h) (le_lt_trans x b (inf false) k (lt_top b g))
