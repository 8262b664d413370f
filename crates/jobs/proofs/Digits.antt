-- The decimal digits at the front of a line, read one by one.
use Rattle.std.proofs.Common.{◌≡◌, ℕ, suc, ◌+◌, ◌*◌, ◌%◌, ◌<◌, ◌≤◌, List, [], ◌∷◌, length, drop, take_while, slice_index_or, refl, arith}
use Rattle.std.specs.List.{prefix_len}
use Rattle.std.specs.Char.{is_digit, digit_value}
use Rattle.std.specs.Str.Parse.{digits_value_after}
use Rattle.jobs.specs.Number.{behind_number}
use Rattle.std.proofs.lemmas.List.Sums.{take_while-cons}
use borrow.Author.Tests.{lt-ltb, le-ltb}

-- what the digits at the front make behind those of n: the last nine count
abbrev pub worth : ℕ → List ℕ → ℕ
worth n l = digits_value_after 10 n (take_while (λ b. is_digit b 10) l) % 1000000000

-- only the last nine of the digits before count
last_nine : (m n : ℕ) (cs : List ℕ) → m % 1000000000 ≡ n % 1000000000
    → digits_value_after 10 m cs % 1000000000 ≡ digits_value_after 10 n cs % 1000000000
last_nine m n [] e = e
last_nine m n (c ∷ cs) e = last_nine (m * 10 + digit_value c) (n * 10 + digit_value c) cs (omega (arith, e))

pub worth_digit : (n : ℕ) (l : List ℕ) → digit_value (slice_index_or l 0 32) < 10
    → worth (n % 100000000 * 10 + digit_value (slice_index_or l 0 32)) (drop 1 l) ≡ worth n l
worth_digit n [] h = omega (arith, h)
worth_digit n (b ∷ l) h =
    rw (take_while-cons (λ b. is_digit b 10) b l, lt-ltb _ _ h)
    (last_nine (n % 100000000 * 10 + digit_value b) (n * 10 + digit_value b) (take_while (λ b. is_digit b 10) l) (omega arith))

pub behind_digit : (l : List ℕ) → digit_value (slice_index_or l 0 32) < 10 → behind_number (drop 1 l) ≡ behind_number l
behind_digit [] h = refl
behind_digit (b ∷ l) h =
    let all : 1 + prefix_len (λ b. is_digit b 10) l + 1 ≡ suc (prefix_len (λ b. is_digit b 10) l + 1) = omega arith in
    rw (lt-ltb _ _ h, all) refl

pub digit_there : (l : List ℕ) → digit_value (slice_index_or l 0 32) < 10 → length (drop 1 l) < length l
digit_there [] h = omega (arith, h)
digit_there (b ∷ l) h = omega arith

pub worth_stops : (n : ℕ) (l : List ℕ) → n < 1000000000 → 10 ≤ digit_value (slice_index_or l 0 32) → worth n l ≡ n
worth_stops n [] h k = omega (arith, h)
worth_stops n (b ∷ l) h k = rw (le-ltb _ _ k) (omega (arith, h))

pub behind_stops : (l : List ℕ) → 10 ≤ digit_value (slice_index_or l 0 32) → behind_number l ≡ drop 1 l
behind_stops [] k = refl
behind_stops (b ∷ l) k = rw (le-ltb _ _ k) refl
