-- A finite f64 is known by its sign and its units. So plain values that compare equal are one value, as data, and `le` is antisymmetric on them.
use mathlib.Core.Path.{◌≡◌, refl, sym, ap, ap₂, ◌∙◌}
use Prim.Native.Nat.{ℕ, ◌+◌, ◌-◌, ◌*◌, ◌/◌, ◌^◌, ◌<◌}
use native.Mathlib.Omega.{arith}
use mathlib.Core.Bool.{Bool, true, false, cond, beq}
use lib.Dec.{T}
use lib.Ieee.{Float, nan, inf, fin, binary64, fits, size, hid, top, to_bits, of_bits, lt, eq, le}
use lib.Ieee.Bits.{of_bits-to_bits}
use lib.Ieee.Scale.{finite}
use Rattle.floats.specs.Scaled.{mag, negative}
use Rattle.floats.specs.Kinds.{plain}
use Rattle.lists.proofs.Laws.Tests.{never}
use Rattle.floats.proofs.Laws.Kinds.{plain_number, plain_unsigned}
use Rattle.floats.proofs.Laws.Order.{le_both, not_lt}
use Rattle.floats.proofs.Laws.Value.{known, unsigned_mag}
use Rattle.floats.proofs.Laws.Units.{eq_units}

-- ---- the bits of a finite value are those of its sign and its units
pattern : Bool → ℕ → ℕ
pattern s n = cond s (top binary64) 0 + (size n - 53) * hid binary64 + n / 2 ^ (size n - 53)

bits_are : (x : Float) → T (finite x) → to_bits binary64 x ≡ pattern (negative x) (mag x)
unfolding to_bits mag pattern
bits_are nan f = absurd f
bits_are (inf s) f = absurd f
bits_are (fin s m e) f = refl

pub units_unique : (x y : Float) → T (fits binary64 x) → T (fits binary64 y) → T (finite x) → T (finite y) → negative x ≡ negative y → mag x ≡ mag y → x ≡ y
units_unique x y f g h k s m =
    sym (of_bits-to_bits binary64 x f) ∙ ap (of_bits binary64) (bits_are x h ∙ ap₂ pattern s m ∙ sym (bits_are y k)) ∙ of_bits-to_bits binary64 y g

-- ---- `==` of plain values is equality
same_sign : (s t : Bool) (x y : ℕ) → (s ≡ true → 0 < x) → (t ≡ true → 0 < y) → cond s 0 x + cond t y 0 ≡ cond t 0 y + cond s x 0 → (s ≡ t) × (x ≡ y)
same_sign true true x y h k e = (refl, omega arith)
same_sign true false x y h k e = let l = h refl in absurd (omega arith)
same_sign false true x y h k e = let l = k refl in absurd (omega arith)
same_sign false false x y h k e = (refl, omega arith)

finite_same : (x y : Float) → T (fits binary64 x) → T (fits binary64 y) → T (finite x) → T (finite y) → plain x ≡ true → plain y ≡ true → eq x y ≡ true → x ≡ y
finite_same x y f g i j p q e =
    let X = known x f i in
    let Y = known y g j in
    let (s, m) = same_sign (negative x) (negative y) (mag x) (mag y) (unsigned_mag x X (plain_unsigned x p)) (unsigned_mag y Y (plain_unsigned y q)) (eq_units x y X Y e) in
    units_unique x y f g i j s m

same_end : (s t : Bool) → beq s t ≡ true → s ≡ t
same_end true true h = refl
same_end true false h = sym h
same_end false true h = h
same_end false false h = refl

plain_same : (x y : Float) → T (fits binary64 x) → T (fits binary64 y) → plain x ≡ true → plain y ≡ true → eq x y ≡ true → x ≡ y
unfolding eq
plain_same nan y f g p q h = never h refl
plain_same (inf s) nan f g p q h = never h refl
plain_same (inf s) (inf t) f g p q h = ap inf (same_end s t h)
plain_same (inf s) (fin t n d) f g p q h = never h refl
plain_same (fin s m e) nan f g p q h = never h refl
plain_same (fin s m e) (inf t) f g p q h = never h refl
plain_same (fin s m e) (fin t n d) f g p q h = finite_same (fin s m e) (fin t n d) f g tt tt p q h

module _ (x y : Float) (f : T (fits binary64 x)) (g : T (fits binary64 y)) (p : plain x ≡ true) (q : plain y ≡ true) where
  pub eq_same : eq x y ≡ true → x ≡ y
  eq_same h = plain_same x y f g p q h

  pub le_antisym : le x y ≡ true → le y x ≡ true → x ≡ y
  le_antisym h k = eq_same (le_both x y h k)

  -- neither is below the other
  pub lt_neither : lt x y ≡ false → lt y x ≡ false → x ≡ y
  lt_neither h k = le_antisym (not_lt y x (plain_number y q) (plain_number x p) k) (not_lt x y (plain_number x p) (plain_number y q) h)
