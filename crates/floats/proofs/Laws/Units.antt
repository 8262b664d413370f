-- The order of two finite f64 values is that of their units: x < y says over x + under y < over y + under x, and back.
-- From here on `omega` knows the order of floats as it knows that of numbers.
use mathlib.Core.Path.{◌≡◌}
use Prim.Native.Nat.{ℕ, suc, ◌+◌, ◌^◌, ◌≤◌, ◌<◌}
use native.Mathlib.Omega.{arith}
use mathlib.Core.Bool.{Bool, true, false, cond}
use lib.Dec.{leb, ltb, eqb}
use lib.Pow.{pow_pos}
use lib.Ieee.{Float, nan, inf, fin, lt, eq, le}
use Rattle.floats.specs.Scaled.{mag, negative, over, under}
use Rattle.floats.proofs.Laws.Scale.{Scale, On, Stands, lt_on, eq_on, le_on, lt_says, says_lt, le_says, says_le, eq_says, says_eq}
use Rattle.floats.proofs.Laws.Value.{Known, parts_size}

-- ---- a finite value stands on a scale of units
abbrev pub units_to : ℕ → Scale
units_to n = record { part = 2 ^ 1074; end = suc n; some = pow_pos 1074; long = omega arith }

pub known_stands : (x : Float) (n : ℕ) → Known x → mag x ≤ n → Stands x (mag x) (units_to n)
known_stands nan n h l = absurd h
known_stands (inf s) n h l = absurd h
known_stands (fin s m e) n h l = (h.1, suc_le l)
  where
    suc_le : {a b : ℕ} → a ≤ b → a < suc b
    suc_le h = omega arith

abbrev pub known_on : (x : Float) (n : ℕ) → Known x → mag x ≤ n → On (units_to n) x
known_on x n h l = record { at = mag x; stands = known_stands x n h l }

-- two of them on one
pub first : (a b : ℕ) → a ≤ a + b
first a b = omega arith

pub second : (a b : ℕ) → b ≤ a + b
second a b = omega arith

module _ (x y : Float) (X : Known x) (Y : Known y) where
  abbrev pub first_on : On (units_to (mag x + mag y)) x
  first_on = known_on x (mag x + mag y) X (first (mag x) (mag y))

  abbrev pub second_on : On (units_to (mag x + mag y)) y
  second_on = known_on y (mag x + mag y) Y (second (mag x) (mag y))

  -- ---- the order in units
  pub lt_is : lt x y ≡ ltb (over x + under y) (over y + under x)
  lt_is = lt_on first_on second_on

  pub le_is : le x y ≡ leb (over x + under y) (over y + under x)
  le_is = le_on first_on second_on

  pub eq_is : eq x y ≡ eqb (over x + under y) (over y + under x)
  eq_is = eq_on first_on second_on

  pub lt_units : lt x y ≡ true → over x + under y < over y + under x
  lt_units h = lt_says first_on second_on h

  pub units_lt : over x + under y < over y + under x → lt x y ≡ true
  units_lt h = says_lt first_on second_on h

  pub le_units : le x y ≡ true → over x + under y ≤ over y + under x
  le_units h = le_says first_on second_on h

  pub units_le : over x + under y ≤ over y + under x → le x y ≡ true
  units_le h = says_le first_on second_on h

  pub eq_units : eq x y ≡ true → over x + under y ≡ over y + under x
  eq_units h = eq_says first_on second_on h

  pub units_eq : over x + under y ≡ over y + under x → eq x y ≡ true
  units_eq h = says_eq first_on second_on h

-- between two values of at most c in size lies no larger one
pub between_size : (a x b : Float) (c : ℕ) → Known a → Known x → Known b → mag a ≤ c → mag b ≤ c → le a x ≡ true → le x b ≡ true → mag x ≤ c
between_size a x b c A X B ac bc h k =
    go (negative x) (mag x) (over a) (under a) (over b) (under b) (parts_size a c ac).1 (parts_size b c bc).0 (le_units a x A X h) (le_units x b X B k)
  where
    go : (s : Bool) (g ap an bp bn : ℕ) → an ≤ c → bp ≤ c → ap + cond s g 0 ≤ cond s 0 g + an → cond s 0 g + bn ≤ bp + cond s g 0 → g ≤ c
    go true g ap an bp bn A B h k = omega arith
    go false g ap an bp bn A B h k = omega arith
