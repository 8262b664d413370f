-- Numbers that differ by at most e (`Near e a b`), or by at most e / 2 ^ 53 (`Close e a b`): what holds of sums and products.
-- A signed number is a pair p, n of naturals that stands for p - n, so `Near e p n` bounds its size by e. Nothing here is about floats.
use mathlib.Core.Path.{◌≡◌}
use mathlib.Core.Logic.{◌⊎◌, inl, inr}
use Prim.Native.Nat.{ℕ, zero, suc, ◌+◌, ◌*◌, ◌^◌, ◌≤◌, ◌<◌}
use native.Mathlib.Nat.{mul-le-mul, le_of_mul-le-mul_right}
use native.Mathlib.Omega.{arith}
use Rattle.floats.specs.Scaled.{Near}

-- a and b differ by at most e / 2 ^ 53
abbrev pub Close : ℕ → ℕ → ℕ → Type 0
Close e a b = Near e (2 ^ 53 * a) (2 ^ 53 * b)

-- p - n is w or -w
abbrev pub Apart : ℕ → ℕ → ℕ → Type 0
Apart w p n = (p ≡ n + w) ⊎ (n ≡ p + w)

-- a common factor goes
pub near_cancel : (e a b c : ℕ) → 0 < c → Near (e * c) (a * c) (b * c) → Near e a b
near_cancel e a b c C h =
    let x : a * c ≤ (b + e) * c = omega arith in
    let y : b * c ≤ (a + e) * c = omega arith in
    (le_of_mul-le-mul_right x C, le_of_mul-le-mul_right y C)

-- which of two numbers is the larger, and by how much
abbrev pub Split : ℕ → ℕ → Type 0
Split a b = ((i : ℕ) × (a ≡ b + i)) ⊎ ((i : ℕ) × (b ≡ a + i))

pub split : (a b : ℕ) → Split a b
split zero b = inr (b, omega arith)
split (suc a) zero = inl (suc a, omega arith)
split (suc a) (suc b) = elim (split a b) [ inl h ↦ inl (h.0, more a b h.0 h.1) | inr h ↦ inr (h.0, more b a h.0 h.1) ]
  where
    more : (x y i : ℕ) → x ≡ y + i → suc x ≡ suc y + i
    more x y i e = omega arith

-- a bound on each of two signed numbers is one on their product
product : (e f n i m j : ℕ) → i ≤ e → j ≤ f → Near (e * f) ((n + i) * (m + j) + n * m) ((n + i) * m + n * (m + j))
product e f n i m j x y =
    let z : i * j ≤ e * f = mul-le-mul x y in
    omega arith

pub near_times : (e f p n q m : ℕ) → Near e p n → Near f q m → Near (e * f) (p * q + n * m) (p * m + n * q)
near_times e f p n q m h k = go (split p n) (split q m)
  where
    go : Split p n → Split q m → Near (e * f) (p * q + n * m) (p * m + n * q)
    go (inl x) (inl y) = let z = product e f n x.0 m y.0 (omega arith) (omega arith) in rw (x.1, y.1) (omega arith)
    go (inl x) (inr y) = let z = product e f n x.0 q y.0 (omega arith) (omega arith) in rw (x.1, y.1) (omega arith)
    go (inr x) (inl y) = let z = product e f p x.0 m y.0 (omega arith) (omega arith) in rw (x.1, y.1) (omega arith)
    go (inr x) (inr y) = let z = product e f p x.0 q y.0 (omega arith) (omega arith) in rw (x.1, y.1) (omega arith)

pub close_times : (e f p n q m : ℕ) → Close e p n → Near f q m → Close (e * f) (p * q + n * m) (p * m + n * q)
close_times e f p n q m h k =
    let z : Near (e * f) (2 ^ 53 * p * q + 2 ^ 53 * n * m) (2 ^ 53 * p * m + 2 ^ 53 * n * q) = near_times e f (2 ^ 53 * p) (2 ^ 53 * n) q m h k in
    omega arith

pub close_add : (e f a b c d : ℕ) → Close e a b → Close f c d → Close (e + f) (a + c) (b + d)
close_add e f a b c d h k = omega arith

-- the same difference, written another way
pub close_as : (e a b c d : ℕ) → Close e a b → a + d ≡ c + b → Close e c d
close_as e a b c d h k = omega arith

pub close_more : (e f a b : ℕ) → Close e a b → e ≤ f → Close f a b
close_more e f a b h k = omega arith

pub close_cancel : (e a b c : ℕ) → 0 < c → Close (e * c) (a * c) (b * c) → Close e a b
close_cancel e a b c C h = near_cancel e (2 ^ 53 * a) (2 ^ 53 * b) c C (omega arith)
