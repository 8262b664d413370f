-- A whole number as a difference of two naturals, `sub_ℕ a b`: its sum, its product and its size, by the parts. At the end, a float's units as such a difference.
use mathlib.Core.Path.{◌≡◌, refl, sym, ap, ap₂, ◌∙◌}
use mathlib.Core.Logic.{inl, inr}
use Prim.Native.Nat.{ℕ, zero, suc, ◌+◌, ◌-◌, ◌*◌, ◌≤◌, ◌<◌}
use native.Mathlib.Nat.{add-zero, mul-zero, zero-mul}
use native.Mathlib.Omega.{arith}
use mathlib.Core.Bool.{Bool, true, false, not, cond}
use lib.Dec.{T, ltb, ltb→lt, nltb→le}
use lib.IntN.{ℤ, pos, negsuc, neg_ℤ, nat_abs, sub_ℕ, ◌+ℤ◌, ◌-ℤ◌, ◌*ℤ◌, +ℤ_comm, *ℤ_comm, neg_ℤ-neg_ℤ, neg_ℤ-+ℤ}
use lib.Ieee.{Float}
use Rattle.floats.specs.Scaled.{mag, negative, over, under, scaled, Near}
use Rattle.floats.proofs.Laws.Distance.{Apart, Split, split}

-- ---- the difference, where it is known which part is the larger
sub_up : (n i : ℕ) → sub_ℕ (n + i) n ≡ pos i
sub_up n i = go (ltb (n + i) n) (ltb→lt (n + i) n)
  where
    no : (n i : ℕ) → n + i < n → ⊥
    no n i h = omega arith

    less : (n i : ℕ) → n + i - n ≡ i
    less n i = omega arith

    go : (b : Bool) → (T b → n + i < n) → cond b (negsuc (n - suc (n + i))) (pos (n + i - n)) ≡ pos i
    go true h = absurd (no n i (h tt))
    go false h = ap pos (less n i)

sub_down : (n i : ℕ) → sub_ℕ n (n + i) ≡ neg_ℤ (pos i)
sub_down n zero = ap (λ (k : ℕ). sub_ℕ n k) (add-zero n) ∙ ap (λ (k : ℕ). sub_ℕ k n) (sym (add-zero n)) ∙ sub_up n 0
sub_down n (suc i) = go (ltb n (n + suc i)) (nltb→le n (n + suc i))
  where
    no : (n i : ℕ) → n + suc i ≤ n → ⊥
    no n i h = omega arith

    less : (n i : ℕ) → n + suc i - suc n ≡ i
    less n i = omega arith

    go : (b : Bool) → (T (not b) → n + suc i ≤ n) → cond b (negsuc (n + suc i - suc n)) (pos (n - (n + suc i))) ≡ negsuc i
    go true h = ap negsuc (less n i)
    go false h = absurd (no n i (h tt))

at_up : (a b i : ℕ) → a ≡ b + i → sub_ℕ a b ≡ pos i
at_up a b i e = rw e (sub_up b i)

at_down : (a b i : ℕ) → b ≡ a + i → sub_ℕ a b ≡ neg_ℤ (pos i)
at_down a b i e = rw e (sub_down a i)

-- the same difference, written another way
sub_same : (a b c d : ℕ) → a + d ≡ c + b → sub_ℕ a b ≡ sub_ℕ c d
sub_same a b c d e = go (split a b)
  where
    go : Split a b → sub_ℕ a b ≡ sub_ℕ c d
    go (inl h) = at_up a b h.0 h.1 ∙ sym (at_up c d h.0 (omega arith))
    go (inr h) = at_down a b h.0 h.1 ∙ sym (at_down c d h.0 (omega arith))

-- ---- negation, sum, difference
pub sub_neg : (a b : ℕ) → neg_ℤ (sub_ℕ a b) ≡ sub_ℕ b a
sub_neg a b = go (split a b)
  where
    go : Split a b → neg_ℤ (sub_ℕ a b) ≡ sub_ℕ b a
    go (inl h) = ap neg_ℤ (at_up a b h.0 h.1) ∙ sym (at_down b a h.0 h.1)
    go (inr h) = ap neg_ℤ (at_down a b h.0 h.1) ∙ neg_ℤ-neg_ℤ (pos h.0) ∙ sym (at_up b a h.0 h.1)

mixed_sum : (i j : ℕ) → pos i +ℤ neg_ℤ (pos j) ≡ sub_ℕ i j
mixed_sum i zero = ap pos (add-zero i) ∙ sym (at_up i 0 i (omega arith))
mixed_sum i (suc j) = refl

pub sub_add : (a b c d : ℕ) → sub_ℕ a b +ℤ sub_ℕ c d ≡ sub_ℕ (a + c) (b + d)
sub_add a b c d = go (split a b) (split c d)
  where
    go : Split a b → Split c d → sub_ℕ a b +ℤ sub_ℕ c d ≡ sub_ℕ (a + c) (b + d)
    go (inl h) (inl k) = ap₂ ◌+ℤ◌ (at_up a b h.0 h.1) (at_up c d k.0 k.1) ∙ sym (at_up (a + c) (b + d) (h.0 + k.0) (omega arith))
    go (inl h) (inr k) =
        ap₂ ◌+ℤ◌ (at_up a b h.0 h.1) (at_down c d k.0 k.1) ∙ mixed_sum h.0 k.0 ∙ sub_same h.0 k.0 (a + c) (b + d) (omega arith)
    go (inr h) (inl k) =
        +ℤ_comm (sub_ℕ a b) (sub_ℕ c d) ∙ ap₂ ◌+ℤ◌ (at_up c d k.0 k.1) (at_down a b h.0 h.1) ∙ mixed_sum k.0 h.0 ∙ sub_same k.0 h.0 (a + c) (b + d) (omega arith)
    go (inr h) (inr k) =
        ap₂ ◌+ℤ◌ (at_down a b h.0 h.1) (at_down c d k.0 k.1) ∙ sym (neg_ℤ-+ℤ (pos h.0) (pos k.0)) ∙ sym (at_down (a + c) (b + d) (h.0 + k.0) (omega arith))

pub sub_sub : (a b c d : ℕ) → sub_ℕ a b -ℤ sub_ℕ c d ≡ sub_ℕ (a + d) (b + c)
sub_sub a b c d = ap (λ (z : ℤ). sub_ℕ a b +ℤ z) (sub_neg c d) ∙ sub_add a b d c

-- ---- the product
mixed_product : (i j : ℕ) → pos i *ℤ neg_ℤ (pos j) ≡ neg_ℤ (pos (i * j))
mixed_product i zero = ap pos (mul-zero i) ∙ sym (ap (λ (k : ℕ). neg_ℤ (pos k)) (mul-zero i))
mixed_product i (suc j) = refl

negative_product : (i j : ℕ) → neg_ℤ (pos i) *ℤ neg_ℤ (pos j) ≡ pos (i * j)
negative_product zero zero = refl
negative_product zero (suc j) = ap (λ (k : ℕ). neg_ℤ (pos k)) (zero-mul (suc j)) ∙ sym (ap pos (zero-mul (suc j)))
negative_product (suc i) zero = ap (λ (k : ℕ). neg_ℤ (pos k)) (mul-zero (suc i)) ∙ sym (ap pos (mul-zero (suc i)))
negative_product (suc i) (suc j) = refl

parts : (b i d j : ℕ) → (b + i) * (d + j) + b * d ≡ (b + i) * d + b * (d + j) + i * j
parts b i d j = omega arith

pub sub_mul : (a b c d : ℕ) → sub_ℕ a b *ℤ sub_ℕ c d ≡ sub_ℕ (a * c + b * d) (a * d + b * c)
sub_mul a b c d = go (split a b) (split c d)
  where
    go : Split a b → Split c d → sub_ℕ a b *ℤ sub_ℕ c d ≡ sub_ℕ (a * c + b * d) (a * d + b * c)
    go (inl h) (inl k) =
        ap₂ ◌*ℤ◌ (at_up a b h.0 h.1) (at_up c d k.0 k.1)
        ∙ sym (at_up (a * c + b * d) (a * d + b * c) (h.0 * k.0) (rw (h.1, k.1) (parts b h.0 d k.0)))
    go (inl h) (inr k) =
        ap₂ ◌*ℤ◌ (at_up a b h.0 h.1) (at_down c d k.0 k.1) ∙ mixed_product h.0 k.0
        ∙ sym (at_down (a * c + b * d) (a * d + b * c) (h.0 * k.0) (rw (h.1, k.1) (parts b h.0 c k.0)))
    go (inr h) (inl k) =
        *ℤ_comm (sub_ℕ a b) (sub_ℕ c d) ∙ ap₂ ◌*ℤ◌ (at_up c d k.0 k.1) (at_down a b h.0 h.1) ∙ mixed_product k.0 h.0
        ∙ sym (at_down (a * c + b * d) (a * d + b * c) (k.0 * h.0) (rw (h.1, k.1) (omega (arith, parts a h.0 d k.0))))
    go (inr h) (inr k) =
        ap₂ ◌*ℤ◌ (at_down a b h.0 h.1) (at_down c d k.0 k.1) ∙ negative_product h.0 k.0
        ∙ sym (at_up (a * c + b * d) (a * d + b * c) (h.0 * k.0) (rw (h.1, k.1) (omega (arith, parts a h.0 c k.0))))

-- ---- the size
abs_neg : (i : ℕ) → nat_abs (neg_ℤ (pos i)) ≡ i
abs_neg zero = refl
abs_neg (suc i) = refl

pub sub_abs : (a b i : ℕ) → Apart i a b → nat_abs (sub_ℕ a b) ≡ i
sub_abs a b i (inl e) = ap nat_abs (at_up a b i e)
sub_abs a b i (inr e) = ap nat_abs (at_down a b i e) ∙ abs_neg i

pub sub_near : (a b e : ℕ) → Near e a b → nat_abs (sub_ℕ a b) ≤ e
sub_near a b e n = go (split a b)
  where
    go : Split a b → nat_abs (sub_ℕ a b) ≤ e
    go (inl h) = rw (sub_abs a b h.0 (inl h.1)) (omega arith)
    go (inr h) = rw (sub_abs a b h.0 (inr h.1)) (omega arith)

-- ---- a float in units is such a difference
pub as_pair : (x : Float) → scaled x ≡ sub_ℕ (over x) (under x)
as_pair x = go (negative x) (mag x)
  where
    go : (s : Bool) (g : ℕ) → cond s (neg_ℤ (pos g)) (pos g) ≡ sub_ℕ (cond s 0 g) (cond s g 0)
    go true g = sym (at_down 0 g g (omega arith))
    go false g = sym (at_up g 0 g (omega arith))

pub difference_pair : (x y : Float) → scaled x -ℤ scaled y ≡ sub_ℕ (over x + under y) (under x + over y)
difference_pair x y = ap₂ ◌-ℤ◌ (as_pair x) (as_pair y) ∙ sub_sub (over x) (under x) (over y) (under y)

pub product_pair : (a b : ℤ) (ap an bp bn : ℕ) → a ≡ sub_ℕ ap an → b ≡ sub_ℕ bp bn → a *ℤ b ≡ sub_ℕ (ap * bp + an * bn) (ap * bn + an * bp)
product_pair a b ap an bp bn p q = ap₂ ◌*ℤ◌ p q ∙ sub_mul ap an bp bn
