-- Numbers paired first with second, third with fourth, and each with the next one: how many pairs there are, and what stands at a place.
-- Assumes nothing.
use mathlib.Core.Path.{◌≡◌, refl, ap}
use Prim.Native.Nat.{ℕ, zero, suc, ◌+◌, ◌*◌, ◌/◌, ◌≤◌, ◌<◌}
use native.Mathlib.Omega.{arith}
use mathlib.Core.List.{List, [], ◌∷◌}
use lib.ListN.{length, get_or, drop}
use lib.Ieee.{Float, nan}
use Rattle.std.specs.Simd.{first_chunks}
use Rattle.geomops.specs.Crossings.{Interval, paired}
use Rattle.geomops.specs.Heights.{neighbours}

abbrev pub nowhere : Interval
nowhere = (nan, nan)

pub length_paired : (xs : List Float) → length (paired xs) ≡ length xs / 2
unfolding paired
length_paired [] = refl
length_paired (x ∷ []) = refl
length_paired (x ∷ y ∷ xs) = omega (arith, length_paired xs)

pub paired_at : (xs : List Float) (k : ℕ) → k < length xs / 2 → get_or (paired xs) k nowhere ≡ (get_or xs (2 * k) nan, get_or xs (2 * k + 1) nan)
unfolding paired
paired_at [] k h = absurd (omega arith)
paired_at (x ∷ []) k h = absurd (omega arith)
paired_at (x ∷ y ∷ xs) zero h = refl
paired_at (x ∷ y ∷ xs) (suc k) h =
    let first : 2 * suc k ≡ suc (suc (2 * k)) = omega arith in
    let second : 2 * suc k + 1 ≡ suc (suc (2 * k + 1)) = omega arith in
    rw (second, first) (paired_at xs k (omega arith))

-- the pairs are the chunks of two
pub length_chunks : (n : ℕ) (xs : List Float) → length (first_chunks 2 n xs) ≡ n
length_chunks zero xs = refl
length_chunks (suc n) xs = ap suc (length_chunks n (drop 2 xs))

pub chunk_at : (xs : List Float) (n k : ℕ) → k < n → n ≤ length xs / 2 →
    get_or (paired xs) k nowhere ≡ (get_or (get_or (first_chunks 2 n xs) k []) 0 nan, get_or (get_or (first_chunks 2 n xs) k []) 1 nan)
unfolding paired
chunk_at [] n k h few = absurd (omega arith)
chunk_at (x ∷ []) n k h few = absurd (omega arith)
chunk_at (x ∷ y ∷ xs) zero k h few = absurd (omega arith)
chunk_at (x ∷ y ∷ xs) (suc n) zero h few = refl
chunk_at (x ∷ y ∷ xs) (suc n) (suc k) h few = chunk_at xs n k (omega arith) (omega arith)

-- fewer than two numbers make no pair
pub paired_short : (xs : List Float) → length xs < 2 → paired xs ≡ []
unfolding paired
paired_short [] h = refl
paired_short (x ∷ []) h = refl
paired_short (x ∷ y ∷ xs) h = absurd (omega arith)

-- the first pair, and the pairs of what stands behind it
pub paired_first : (xs : List Float) → 2 ≤ length xs → paired xs ≡ (get_or xs 0 nan, get_or xs 1 nan) ∷ paired (drop 2 xs)
unfolding paired
paired_first [] h = absurd (omega arith)
paired_first (x ∷ []) h = absurd (omega arith)
paired_first (x ∷ y ∷ xs) h = refl

-- a number alone has no next one
pub neighbours_short : (ys : List Float) → length ys < 2 → neighbours ys ≡ []
unfolding neighbours
neighbours_short [] h = refl
neighbours_short (y ∷ []) h = refl
neighbours_short (y ∷ z ∷ ys) h = absurd (omega arith)

-- the first number with the next one, and those behind it
pub neighbours_first : (ys : List Float) → 2 ≤ length ys → neighbours ys ≡ (get_or ys 0 nan, get_or ys 1 nan) ∷ neighbours (drop 1 ys)
unfolding neighbours
neighbours_first [] h = absurd (omega arith)
neighbours_first (y ∷ []) h = absurd (omega arith)
neighbours_first (y ∷ z ∷ ys) h = refl
