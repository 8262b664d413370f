-- Numbers on one scale: a finite number stands at a whole number of parts, and an infinity at the scale's end.
-- There `lt`, `le` and `eq` compare places as natural numbers are compared, so that `omega` knows the order.
use mathlib.Core.Path.{◌≡◌, refl, sym, ap, ap₂, ◌∙◌}
use Prim.Native.Nat.{ℕ, suc, ◌+◌, ◌*◌, ◌≤◌, ◌<◌}
use native.Mathlib.Nat.{zero-mul, mul-pos, mul_comm, mul_assoc, mul_right_comm, mul-lt-mul_of_pos_right, lt_of_mul-lt-mul_right, eq_of_mul-eq-mul_right}
use native.Mathlib.Omega.{arith}
use mathlib.Core.Bool.{Bool, true, false, not, ◌&&◌, ◌||◌, cond, beq, and-eq-true_iff}
use lib.IntN.{ℤ}
use lib.Dec.{leb, ltb, eqb}
use lib.Ieee.{Float, nan, inf, fin, up, down, below, level, neg, lt, eq, le}
use lib.Ieee.Fits.{down_pos}
use lib.Ieee.Positive.{num, den, den_pos}
use borrow.Author.Tests.{ltb-true, ltb-false, leb-true, leb-false, eqb-true, lt-ltb, le-ltb, le-leb, eq-eqb, ne_eqb}
use Rattle.floats.specs.Scaled.{negative}
use Rattle.floats.specs.Kinds.{is_number, negative_zero}
use Rattle.lists.proofs.Laws.Tests.{alike, by_cases, never}

-- parts of 1 / part, and an end that no finite number on it reaches
pub record Scale : Type 0 where
  pub part : ℕ
  pub end : ℕ
  pub some : 0 < part
  pub long : 0 < end

abbrev pub Stands : Float → ℕ → Scale → Type 0
Stands nan a S = ⊥
Stands (inf s) a S = a ≡ S.end
Stands (fin s m e) a S = (m * up e * S.part ≡ a * down e) × (a < S.end)

-- x stands on the scale, so many parts from zero
pub record On (S : Scale) (x : Float) : Type 0 where
  pub at : ℕ
  pub stands : Stands x at S

-- the place is high p - deep p: one of the two is 0
abbrev pub high : {S : Scale} {x : Float} → On S x → ℕ
high {x} p = cond (negative x) 0 p.at

abbrev pub deep : {S : Scale} {x : Float} → On S x → ℕ
deep {x} p = cond (negative x) p.at 0

-- ---- two comparisons with one answer
pub less_alike : (a b x y : ℕ) → (a < b → x < y) → (x < y → a < b) → ltb a b ≡ ltb x y
less_alike a b x y h k = alike (λ t. lt-ltb x y (h (ltb-true a b t))) (λ t. lt-ltb a b (k (ltb-true x y t)))

same_alike : (a b x y : ℕ) → (a ≡ b → x ≡ y) → (x ≡ y → a ≡ b) → eqb a b ≡ eqb x y
same_alike a b x y h k = alike (λ t. eq-eqb x y (h (eqb-true a b t))) (λ t. eq-eqb a b (k (eqb-true x y t)))

-- a / c and b / c are x / u and y / u
module _ (a b c x y u : ℕ) (C : 0 < c) (U : 0 < u) (p : a * u ≡ x * c) (q : b * u ≡ y * c) where
  pub scaled_less : ltb a b ≡ ltb x y
  scaled_less =
      less_alike a b x y (λ h. lt_of_mul-lt-mul_right c (rw (← p, ← q) (mul-lt-mul_of_pos_right h U)))
      (λ h. lt_of_mul-lt-mul_right u (rw (p, q) (mul-lt-mul_of_pos_right h C)))

  scaled_same : eqb a b ≡ eqb x y
  scaled_same =
      same_alike a b x y (λ h. eq_of_mul-eq-mul_right c C x y (sym p ∙ ap (λ (z : ℕ). z * u) h ∙ q))
      (λ h. eq_of_mul-eq-mul_right u U a b (p ∙ ap (λ (z : ℕ). z * c) h ∙ sym q))

-- ---- ±a against ±b
below_is : (s t : Bool) (a b : ℕ) → below s a t b ≡ ltb (cond s 0 a + cond t b 0) (cond t 0 b + cond s a 0)
below_is false false a b = less_alike a b (a + 0) (b + 0) (λ h. omega arith) (λ h. omega arith)
below_is false true a b = sym (le-ltb (a + b) 0 (omega arith))
below_is true false a b = less_alike 0 (a + b) 0 (b + a) (λ h. omega arith) (λ h. omega arith)
below_is true true a b = less_alike b a (0 + b) (0 + a) (λ h. omega arith) (λ h. omega arith)

level_is : (s t : Bool) (a b : ℕ) → level s a t b ≡ eqb (cond s 0 a + cond t b 0) (cond t 0 b + cond s a 0)
level_is s t a b = go s t
  where
    and_true : (p : Bool) → (p && true) ≡ p
    and_true true = refl
    and_true false = refl

    both_none : (x y : ℕ) → (x ≡ y → (a ≡ b) × (a ≡ 0)) → (a ≡ b → a ≡ 0 → x ≡ y) → (eqb a b && eqb a 0) ≡ eqb x y
    both_none x y f g =
        alike (λ h. let (i, j) = (and-eq-true_iff (eqb a b) (eqb a 0)).0 h in eq-eqb x y (g (eqb-true a b i) (eqb-true a 0 j)))
        (λ h. let (i, j) = f (eqb-true x y h) in (and-eq-true_iff (eqb a b) (eqb a 0)).1 (eq-eqb a b i, eq-eqb a 0 j))

    go : (s t : Bool) → level s a t b ≡ eqb (cond s 0 a + cond t b 0) (cond t 0 b + cond s a 0)
    go false false = and_true (eqb a b) ∙ same_alike a b (a + 0) (b + 0) (λ h. omega arith) (λ h. omega arith)
    go false true = both_none (a + b) 0 (λ h. (omega arith, omega arith)) (λ i j. omega arith)
    go true false = both_none 0 (b + a) (λ h. (omega arith, omega arith)) (λ i j. omega arith)
    go true true = and_true (eqb a b) ∙ same_alike a b (0 + b) (0 + a) (λ h. omega arith) (λ h. omega arith)

-- the pairs of two places are scaled as the places are
pair_scaled : (s t : Bool) (a b c x y u : ℕ) → a * u ≡ x * c → b * u ≡ y * c → (cond s 0 a + cond t b 0) * u ≡ (cond s 0 x + cond t y 0) * c
pair_scaled false false a b c x y u p q = omega arith
pair_scaled false true a b c x y u p q = omega arith
pair_scaled true false a b c x y u p q = omega arith
pair_scaled true true a b c x y u p q = omega arith

-- ---- two finite numbers
module _ (S : Scale) (m n : ℕ) (e d : ℤ) (a b : ℕ) (p : m * up e * S.part ≡ a * down e) (q : n * up d * S.part ≡ b * down d) where
  -- both over the common denominator
  pub common_left : m * up e * down d * S.part ≡ a * (down e * down d)
  common_left = mul_right_comm (m * up e) (down d) S.part ∙ ap (λ (z : ℕ). z * down d) p ∙ mul_assoc a (down e) (down d)

  pub common_right : n * up d * down e * S.part ≡ b * (down e * down d)
  common_right = mul_right_comm (n * up d) (down e) S.part ∙ ap (λ (z : ℕ). z * down e) q ∙ mul_assoc b (down d) (down e) ∙ ap (λ (z : ℕ). b * z) (mul_comm (down d) (down e))

  lt_fractions : (s t : Bool) → lt (fin s m e) (fin t n d) ≡ ltb (cond s 0 a + cond t b 0) (cond t 0 b + cond s a 0)
  unfolding lt
  lt_fractions s t =
      let x = m * up e * down d in
      let y = n * up d * down e in
      let c = down e * down d in
      below_is s t x y
      ∙ scaled_less (cond s 0 x + cond t y 0) (cond t 0 y + cond s x 0) c (cond s 0 a + cond t b 0) (cond t 0 b + cond s a 0) S.part (mul-pos (down_pos e) (down_pos d)) S.some
      (pair_scaled s t x y c a b S.part common_left common_right) (pair_scaled t s y x c b a S.part common_right common_left)

  eq_fractions : (s t : Bool) → eq (fin s m e) (fin t n d) ≡ eqb (cond s 0 a + cond t b 0) (cond t 0 b + cond s a 0)
  unfolding eq
  eq_fractions s t =
      let x = m * up e * down d in
      let y = n * up d * down e in
      let c = down e * down d in
      level_is s t x y
      ∙ scaled_same (cond s 0 x + cond t y 0) (cond t 0 y + cond s x 0) c (cond s 0 a + cond t b 0) (cond t 0 b + cond s a 0) S.part (mul-pos (down_pos e) (down_pos d)) S.some
      (pair_scaled s t x y c a b S.part common_left common_right) (pair_scaled t s y x c b a S.part common_right common_left)

-- ---- with an infinity, whose place is the end
ends_lt : (s t : Bool) (b : ℕ) → 0 < b → (s && not t) ≡ ltb (cond s 0 b + cond t b 0) (cond t 0 b + cond s b 0)
ends_lt false false b B = sym (le-ltb (b + 0) (b + 0) (omega arith))
ends_lt false true b B = sym (le-ltb (b + b) 0 (omega arith))
ends_lt true false b B = sym (lt-ltb 0 (b + b) (omega arith))
ends_lt true true b B = sym (le-ltb (0 + b) (0 + b) (omega arith))

ends_eq : (s t : Bool) (b : ℕ) → 0 < b → beq s t ≡ eqb (cond s 0 b + cond t b 0) (cond t 0 b + cond s b 0)
ends_eq false false b B = sym (eq-eqb (b + 0) (b + 0) refl)
ends_eq false true b B = sym (ne_eqb (b + b) 0 (λ h. omega arith))
ends_eq true false b B = sym (ne_eqb 0 (b + b) (λ h. omega arith))
ends_eq true true b B = sym (eq-eqb (0 + b) (0 + b) refl)

-- one of two numbers is the smaller: they are not equal
one_way : (i j : ℕ) (t : Bool) → t ≡ ltb i j → not t ≡ ltb j i → false ≡ eqb i j
one_way i j true h k = sym (ne_eqb i j (λ e. omega (arith, ltb-true i j (sym h))))
one_way i j false h k = sym (ne_eqb i j (λ e. omega (arith, ltb-true j i (sym k))))

module _ (a b : ℕ) (h : a < b) where
  end_lt : (s t : Bool) → s ≡ ltb (cond s 0 b + cond t a 0) (cond t 0 a + cond s b 0)
  end_lt false false = sym (le-ltb (b + 0) (a + 0) (omega arith))
  end_lt false true = sym (le-ltb (b + a) 0 (omega arith))
  end_lt true false = sym (lt-ltb 0 (a + b) (omega arith))
  end_lt true true = sym (lt-ltb (0 + a) (0 + b) (omega arith))

  lt_end : (s t : Bool) → not t ≡ ltb (cond s 0 a + cond t b 0) (cond t 0 b + cond s a 0)
  lt_end false false = sym (lt-ltb (a + 0) (b + 0) (omega arith))
  lt_end false true = sym (le-ltb (a + b) 0 (omega arith))
  lt_end true false = sym (lt-ltb 0 (b + a) (omega arith))
  lt_end true true = sym (le-ltb (0 + b) (0 + a) (omega arith))

  end_eq : (s t : Bool) → false ≡ eqb (cond s 0 b + cond t a 0) (cond t 0 a + cond s b 0)
  end_eq s t = one_way (cond s 0 b + cond t a 0) (cond t 0 a + cond s b 0) s (end_lt s t) (lt_end t s)

  eq_end : (s t : Bool) → false ≡ eqb (cond s 0 a + cond t b 0) (cond t 0 b + cond s a 0)
  eq_end s t = end_eq t s ∙ turned (cond t 0 b + cond s a 0) (cond s 0 a + cond t b 0)
    where
      turned : (i j : ℕ) → eqb i j ≡ eqb j i
      turned i j = same_alike i j j i sym sym

-- ---- the comparisons, by the places
module _ (S : Scale) where
  lt_stands : (x y : Float) (a b : ℕ) → Stands x a S → Stands y b S → lt x y ≡ ltb (cond (negative x) 0 a + cond (negative y) b 0) (cond (negative y) 0 b + cond (negative x) a 0)
  unfolding lt
  lt_stands nan y a b p q = absurd p
  lt_stands (inf s) nan a b p q = absurd q
  lt_stands (inf s) (inf t) a b p q = rw (p, q) (ends_lt s t S.end S.long)
  lt_stands (inf s) (fin t n d) a b p q = rw p (end_lt b S.end q.1 s t)
  lt_stands (fin s m e) nan a b p q = absurd q
  lt_stands (fin s m e) (inf t) a b p q = rw q (lt_end a S.end p.1 s t)
  lt_stands (fin s m e) (fin t n d) a b p q = lt_fractions S m n e d a b p.0 q.0 s t

  eq_stands : (x y : Float) (a b : ℕ) → Stands x a S → Stands y b S → eq x y ≡ eqb (cond (negative x) 0 a + cond (negative y) b 0) (cond (negative y) 0 b + cond (negative x) a 0)
  unfolding eq
  eq_stands nan y a b p q = absurd p
  eq_stands (inf s) nan a b p q = absurd q
  eq_stands (inf s) (inf t) a b p q = rw (p, q) (ends_eq s t S.end S.long)
  eq_stands (inf s) (fin t n d) a b p q = rw p (end_eq b S.end q.1 s t)
  eq_stands (fin s m e) nan a b p q = absurd q
  eq_stands (fin s m e) (inf t) a b p q = rw q (eq_end a S.end p.1 s t)
  eq_stands (fin s m e) (fin t n d) a b p q = eq_fractions S m n e d a b p.0 q.0 s t

either : (a b : ℕ) → (ltb a b || eqb a b) ≡ leb a b
either a b = by_cases (ltb a b) (λ h. rw h (sym (le-leb a b (omega (arith, ltb-true a b h))))) (λ h. rw h (rest (ltb-false a b h)))
  where
    rest : b ≤ a → eqb a b ≡ leb a b
    rest h = alike (λ t. le-leb a b (omega (arith, eqb-true a b t))) (λ t. eq-eqb a b (omega (arith, leb-true a b t)))

module _ {S : Scale} {x y : Float} (p : On S x) (q : On S y) where
  pub lt_on : lt x y ≡ ltb (high p + deep q) (high q + deep p)
  lt_on = lt_stands S x y p.at q.at p.stands q.stands

  pub eq_on : eq x y ≡ eqb (high p + deep q) (high q + deep p)
  eq_on = eq_stands S x y p.at q.at p.stands q.stands

  pub le_on : le x y ≡ leb (high p + deep q) (high q + deep p)
  unfolding le
  le_on = ap₂ ◌||◌ lt_on eq_on ∙ either (high p + deep q) (high q + deep p)

  -- ---- each answer, as a fact of the places
  pub lt_says : lt x y ≡ true → high p + deep q < high q + deep p
  lt_says h = ltb-true (high p + deep q) (high q + deep p) (sym lt_on ∙ h)

  pub says_lt : high p + deep q < high q + deep p → lt x y ≡ true
  says_lt h = lt_on ∙ lt-ltb (high p + deep q) (high q + deep p) h

  pub not_lt_says : lt x y ≡ false → high q + deep p ≤ high p + deep q
  not_lt_says h = ltb-false (high p + deep q) (high q + deep p) (sym lt_on ∙ h)

  pub says_not_lt : high q + deep p ≤ high p + deep q → lt x y ≡ false
  says_not_lt h = lt_on ∙ le-ltb (high p + deep q) (high q + deep p) h

  pub le_says : le x y ≡ true → high p + deep q ≤ high q + deep p
  le_says h = leb-true (high p + deep q) (high q + deep p) (sym le_on ∙ h)

  pub says_le : high p + deep q ≤ high q + deep p → le x y ≡ true
  says_le h = le_on ∙ le-leb (high p + deep q) (high q + deep p) h

  pub not_le_says : le x y ≡ false → high q + deep p < high p + deep q
  not_le_says h = leb-false (high p + deep q) (high q + deep p) (sym le_on ∙ h)

  pub eq_says : eq x y ≡ true → high p + deep q ≡ high q + deep p
  eq_says h = eqb-true (high p + deep q) (high q + deep p) (sym eq_on ∙ h)

  pub says_eq : high p + deep q ≡ high q + deep p → eq x y ≡ true
  says_eq h = eq_on ∙ eq-eqb (high p + deep q) (high q + deep p) h

-- ---- the other sign
pub neg_stands : (S : Scale) (x : Float) (a : ℕ) → Stands x a S → Stands (neg x) a S
unfolding neg
neg_stands S nan a h = absurd h
neg_stands S (inf s) a h = h
neg_stands S (fin s m e) a h = h

abbrev pub neg_on : {S : Scale} {x : Float} → On S x → On S (neg x)
neg_on {S} {x} p = record { at = p.at; stands = neg_stands S x p.at p.stands }

neg_parts : (S : Scale) (x : Float) (a : ℕ) → Stands x a S → (cond (negative (neg x)) 0 a ≡ cond (negative x) a 0) × (cond (negative (neg x)) a 0 ≡ cond (negative x) 0 a)
unfolding neg
neg_parts S nan a h = absurd h
neg_parts S (inf true) a h = (refl, refl)
neg_parts S (inf false) a h = (refl, refl)
neg_parts S (fin true m e) a h = (refl, refl)
neg_parts S (fin false m e) a h = (refl, refl)

module _ {S : Scale} {x : Float} (p : On S x) where
  pub high_neg : high (neg_on p) ≡ deep p
  high_neg = (neg_parts S x p.at p.stands).0

  pub deep_neg : deep (neg_on p) ≡ high p
  deep_neg = (neg_parts S x p.at p.stands).1

-- ---- what stands on a scale is a number
stands_number : (S : Scale) (x : Float) (a : ℕ) → Stands x a S → is_number x ≡ true
unfolding is_number
stands_number S nan a h = absurd h
stands_number S (inf s) a h = refl
stands_number S (fin s m e) a h = refl

pub on_number : {S : Scale} {x : Float} → On S x → is_number x ≡ true
on_number {S} {x} p = stands_number S x p.at p.stands

-- ---- a number that stands off zero is no negative zero
off_zero : (m u c a d : ℕ) → 0 < d → 0 < a → m * u * c ≡ a * d → eqb m 0 ≡ false
off_zero m u c a d D A e = ne_eqb m 0 (λ z. none (rw (z, zero-mul u, zero-mul c) at e))
  where
    none : 0 ≡ a * d → ⊥
    none h = omega (arith, mul-pos A D)

stands_unsigned : (S : Scale) (x : Float) (a : ℕ) → Stands x a S → (negative x ≡ true → 0 < a) → negative_zero x ≡ false
unfolding negative_zero
stands_unsigned S nan a h f = refl
stands_unsigned S (inf s) a h f = refl
stands_unsigned S (fin true m e) a h f = off_zero m (up e) S.part a (down e) (down_pos e) (f refl) h.0
stands_unsigned S (fin false m e) a h f = refl

pub on_unsigned : {S : Scale} {x : Float} (p : On S x) → (negative x ≡ true → 0 < p.at) → negative_zero x ≡ false
on_unsigned {S} {x} p = stands_unsigned S x p.at p.stands

-- ---- any three numbers stand on one scale
spot : Float → ℕ → ℕ → ℕ
spot nan k b = 0
spot (inf s) k b = b
spot (fin s m e) k b = m * up e * k

stand : (x : Float) (k : ℕ) (S : Scale) → is_number x ≡ true → S.part ≡ den x * k → num x * k < S.end → Stands x (spot x k S.end) S
unfolding is_number spot
stand nan k S h c l = never h refl
stand (inf s) k S h c l = refl
stand (fin s m e) k S h c l = (rw c (sym (mul_right_comm (m * up e) k (down e) ∙ mul_assoc (m * up e) (down e) k)), l)

pub three : (x y z : Float) → is_number x ≡ true → is_number y ≡ true → is_number z ≡ true → (S : Scale) × On S x × On S y × On S z
three x y z h k l = (S, place x h (den y * den z) refl (omega arith), place y k (den x * den z) (omega arith) (omega arith), place z l (den x * den y) (omega arith) (omega arith))
  where
    S : Scale
    S = record {
      part = den x * (den y * den z);
      end = suc (num x * (den y * den z) + num y * (den x * den z) + num z * (den x * den y));
      some = mul-pos (den_pos x) (mul-pos (den_pos y) (den_pos z));
      long = omega arith;
    }

    place : (w : Float) → is_number w ≡ true → (k : ℕ) → S.part ≡ den w * k → num w * k < S.end → On S w
    place w h k c l = record { at = spot w k S.end; stands = stand w k S h c l }
