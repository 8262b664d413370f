-- Numbers by first appearance: a root keeps the number that it got where it was new, and new roots are counted.
use Prim.Native.Nat.{ℕ, zero, suc, ◌+◌, ◌<◌, ◌≤◌, zero-le}
use mathlib.Core.Path.{◌≡◌, refl, sym, ◌∙◌}
use mathlib.Core.Logic.{◌≢◌, ⊎_elim}
use mathlib.Core.Bool.{Bool, true, false, not, ◌&&◌, true≢false, or-true}
use mathlib.Core.List.{[], ◌∷◌, ◌++◌}
use native.Mathlib.Decide.{ℕ_discrete, dec_lt}
use native.Mathlib.Omega.{arith}
use native.Mathlib.Numerals.{add-one}
use native.Mathlib.Nat.{le_refl, le_antisymm}
use lib.Arith.{le-zero}
use lib.ListN.{length, get_or, length-append, get_or-append}
use lib.Seq.{get_or_at}
use lib.Dec.{eqb}
use borrow.Author.Tests.{eq-eqb, ne_eqb, eqb-true, not-true}
use Rattle.std.proofs.lemmas.Bool.{and_parts, or_cases}
use Rattle.lists.specs.Marks.{empty_number}
use Rattle.lists.proofs.Laws.Tests.{by_cases}
use Rattle.union_find.specs.Numbering.{seen, is_new, new_below, number_for, number_at, numbers_below}

module _ (root : ℕ → ℕ) (conducts : ℕ → Bool) where
  -- ---- what has been seen

  pub seen_at : (r n x : ℕ) → x < n → conducts x ≡ true → root x ≡ r → seen root conducts r n ≡ true
  unfolding seen
  seen_at r zero x h k e = absurd (omega arith)
  seen_at r (suc n) x h k e =
      elim (ℕ_discrete x n) [
        | yes f ↦ simp (rw f at k, eq-eqb (root n) r (rw f at e))
        | no f ↦ simp (seen_at r n x (omega arith) k e, or-true)
      ]

  -- a root that is seen below suc n and not below n is that of n
  seen_here : (r n : ℕ) → seen root conducts r n ≡ false → seen root conducts r (suc n) ≡ true
      → (conducts n ≡ true) × (root n ≡ r)
  unfolding seen
  seen_here r n before e =
      ⊎_elim (λ f. let (k, g) = and_parts (conducts n) (eqb (root n) r) f in (k, eqb-true (root n) r g))
      (λ f. absurd (true≢false (sym f ∙ before))) (or_cases (conducts n && eqb (root n) r) (seen root conducts r n) e)

  pub seen_more : (r n : ℕ) → seen root conducts r n ≡ true → seen root conducts r (suc n) ≡ true
  unfolding seen
  seen_more r n e = simp (e, or-true)

  -- a polygon that does not have the root r, or does not conduct, changes nothing for r
  pub seen_kept : (r n : ℕ) → (conducts n ≡ true → root n ≢ r) → seen root conducts r (suc n) ≡ seen root conducts r n
  unfolding seen
  seen_kept r n other =
      by_cases (conducts n) (λ k. simp (k, ne_eqb (root n) r (other k))) (λ k. simp k)

  -- ---- numbers

  -- a root that is not seen yet would get the next number
  pub number_next : (r n : ℕ) → seen root conducts r n ≡ false → number_for root conducts r n ≡ new_below root conducts n
  unfolding number_for new_below
  number_next r zero e = refl
  number_next r (suc n) e = simp e

  -- a root that is seen keeps what it had or would have got
  pub number_kept : (r n : ℕ) → seen root conducts r (suc n) ≡ true → number_for root conducts r (suc n) ≡ number_for root conducts r n
  unfolding number_for
  number_kept r n e = simp e

  -- ---- counting new roots

  pub new_below_at_most : (n : ℕ) → new_below root conducts n ≤ n
  unfolding new_below
  new_below_at_most zero = zero-le
  new_below_at_most (suc n) =
      by_cases (is_new root conducts n) (λ e. simp e (omega (arith, new_below_at_most n))) (λ e. simp e (omega (arith, new_below_at_most n)))

  new_below_grows : (m n : ℕ) → m ≤ n → new_below root conducts m ≤ new_below root conducts n
  unfolding new_below
  new_below_grows m zero h = rw (le-zero h) zero-le
  new_below_grows m (suc n) h =
      elim (dec_lt n m)
      [ yes g ↦ rw (le_antisymm h g) (le_refl (new_below root conducts (suc n))) | no g ↦ omega (arith, new_below_grows m n (omega arith)) ]

  pub new_counted : (n : ℕ) → conducts n ≡ true → seen root conducts (root n) n ≡ false
      → new_below root conducts (suc n) ≡ suc (new_below root conducts n)
  unfolding new_below
  new_counted n k e = simp (k, e) (omega arith)

  pub old_counted : (n : ℕ) → (conducts n ≡ true → seen root conducts (root n) n ≡ true)
      → new_below root conducts (suc n) ≡ new_below root conducts n
  unfolding new_below
  old_counted n old = by_cases (conducts n) (λ k. simp (k, old k) (omega arith)) (λ k. simp k (omega arith))

-- f is the first conducting polygon with the root r
pub record First (root : ℕ → ℕ) (conducts : ℕ → Bool) (r f : ℕ) : Type 0 where
  pub conducting : conducts f ≡ true
  pub has : root f ≡ r
  pub unseen : seen root conducts r f ≡ false

module _ (root : ℕ → ℕ) (conducts : ℕ → Bool) where
  -- a root that is seen was new somewhere, and its number is what was counted there
  pub first_from : (r n : ℕ) → seen root conducts r n ≡ true
      → (f : ℕ) × (f < n) × First root conducts r f × (number_for root conducts r n ≡ new_below root conducts f)
  unfolding seen
  first_from r zero e = absurd (true≢false (sym e))
  first_from r (suc n) e =
      by_cases (seen root conducts r n)
      (λ s. let (f, below, first, same) = first_from r n s in (f, omega arith, first, number_kept root conducts r n e ∙ same))
      (λ s.
      let (k, has) = seen_here root conducts r n s e in
      (n, omega arith, record { conducting = k; has = has; unseen = s }, number_kept root conducts r n e ∙ number_next root conducts r n s))

  pub first_unique : (r f g : ℕ) → First root conducts r f → First root conducts r g → f ≡ g
  first_unique r f g hf hg =
      elim (dec_lt f g) [
        | yes h ↦ absurd (true≢false (sym (seen_at root conducts r g f h hf.conducting hf.has) ∙ hg.unseen))
        | no h ↦
            elim (dec_lt g f) [
              | yes k ↦ absurd (true≢false (sym (seen_at root conducts r f g k hg.conducting hg.has) ∙ hf.unseen))
              | no k ↦ omega arith
            ]
      ]

  pub number_new : (i : ℕ) → conducts i ≡ true → seen root conducts (root i) i ≡ false
      → number_at root conducts i ≡ new_below root conducts i
  unfolding number_at
  number_new i k s = rw k (number_next root conducts (root i) i s)

  pub number_old : (i : ℕ) → conducts i ≡ true → number_at root conducts i ≡ number_for root conducts (root i) i
  unfolding number_at
  number_old i k = rw k

  pub number_none : (i : ℕ) → conducts i ≡ false → number_at root conducts i ≡ empty_number
  unfolding number_at
  number_none i k = rw k

  -- the number of a conducting polygon is the count of new roots before the first with its root
  pub has_first : (i : ℕ) → conducts i ≡ true
      → (f : ℕ) × (f ≤ i) × First root conducts (root i) f × (number_at root conducts i ≡ new_below root conducts f)
  has_first i k =
      by_cases (seen root conducts (root i) i)
      (λ s. let (f, below, first, same) = first_from (root i) i s in (f, omega arith, first, number_old i k ∙ same))
      (λ s. (i, omega arith, record { conducting = k; has = refl; unseen = s }, number_new i k s))

  -- of two first polygons the earlier has the smaller count before it
  pub firsts_in_order : (r f n : ℕ) → First root conducts r f → f < n → new_below root conducts f < new_below root conducts n
  firsts_in_order r f n first lt =
      omega
      (arith, new_counted root conducts f first.conducting (rw first.has first.unseen), new_below_grows root conducts (suc f) n lt)

  -- every number below the count is given
  pub numbers_have_no_gap : (n k : ℕ) → k < new_below root conducts n
      → (i : ℕ) × (i < n) × (conducts i ≡ true) × (number_at root conducts i ≡ k)
  unfolding new_below
  numbers_have_no_gap zero k h = absurd (omega arith)
  numbers_have_no_gap (suc n) k h =
      elim (dec_lt k (new_below root conducts n)) [
        | yes g ↦ let (i, below, rest, same) = numbers_have_no_gap n k g in (i, omega arith, rest, same)
        | no g ↦ by_cases (is_new root conducts n) (λ new. at_new new g (rw new at h)) (λ old. absurd (past g (rw old at h)))
      ]
    where
      past : ¬ (k < new_below root conducts n) → k < 0 + new_below root conducts n → ⊥
      past g h = omega arith

      at_new : is_new root conducts n ≡ true → ¬ (k < new_below root conducts n) → k < 1 + new_below root conducts n
          → (i : ℕ) × (i < suc n) × (conducts i ≡ true) × (number_at root conducts i ≡ k)
      at_new new g h =
          let (conducting, unseen) = and_parts (conducts n) (not (seen root conducts (root n) n)) new in
          (n, omega arith, conducting, number_new n conducting (not-true (seen root conducts (root n) n) unseen) ∙ omega arith)

  -- ---- the list

  pub numbers_more : (n : ℕ) → numbers_below root conducts (n + 1) ≡ numbers_below root conducts n ++ (number_at root conducts n ∷ [])
  unfolding numbers_below
  numbers_more n = rw add-one

  pub numbers_length : (n : ℕ) → length (numbers_below root conducts n) ≡ n
  unfolding numbers_below
  numbers_length zero = refl
  numbers_length (suc n) = rw length-append (omega (arith, numbers_length n))

  pub numbers_read : (n x : ℕ) → x < n → get_or (numbers_below root conducts n) x 0 ≡ number_at root conducts x
  unfolding numbers_below
  numbers_read zero x h = absurd (omega arith)
  numbers_read (suc n) x h =
      elim (dec_lt x n) [
        | yes g ↦ get_or-append (numbers_below root conducts n) _ 0 x (omega (arith, numbers_length n)) ∙ numbers_read n x g
        | no g ↦
            let e : x ≡ n = omega arith in
            rw e (get_or_at (numbers_below root conducts n) (number_at root conducts n) [] 0 n (numbers_length n))
      ]
