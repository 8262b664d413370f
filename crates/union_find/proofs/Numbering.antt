-- The theorem of numbering: the numbers of `number_components` are the one list in which two conducting polygons share a number
-- exactly where they share a root (or a chain joins them), numbers rise with the least polygon, and all others have the mark.
use Prim.Native.Nat.{ℕ, zero, suc, ◌<◌, ◌≤◌, zero-le}
use mathlib.Core.Path.{◌≡◌, refl, sym, ◌∙◌, ap}
use mathlib.Core.Logic.Iff
use mathlib.Core.Logic.{◌↔◌, ◌⊎◌, inl, inr, ⊎_elim}
use mathlib.Core.Bool.{Bool, true, false, ◌&&◌, true≢false, and-eq-true_iff}
use mathlib.Core.List.{List}
use native.Mathlib.Decide.{ℕ_discrete, dec_lt}
use native.Mathlib.Omega.{arith}
use native.Mathlib.Nat.{le_antisymm}
use lib.ListN.{get_or}
use lib.Seq.{ext_get_or}
use lib.Dec.{eqb}
use borrow.Author.Tests.{eqb-true, eq-eqb}
use Rattle.union_find.specs.declared.Table.{Table}
use Rattle.union_find.specs.Forest.{root_of}
use Rattle.union_find.specs.Table.{OneRoot}
use Rattle.union_find.specs.Chain.{Link, Op, Chain, after, links_of, joins, Within, BetweenPolygons}
use Rattle.union_find.specs.Numbering.{Conducting, Least, Numbered, seen, new_below, number_at, numbers_below, conducts_in, numbers_of, count_of}
use Rattle.lists.proofs.Laws.Tests.{by_cases}
use Rattle.union_find.proofs.Laws.NewRoots.{First, first_from, first_unique, has_first, firsts_in_order, numbers_have_no_gap, number_none, numbers_length, numbers_read}
use Rattle.union_find.proofs.Chains.{one_root_iff_chain, one_root_iff_chain_of_joins}

-- ---- the walk numbers the classes of one root

module _ (root : ℕ → ℕ) (conducts : ℕ → Bool) (n : ℕ) where
  abbrev SameRoot : ℕ → ℕ → Type 0
  SameRoot i j = root i ≡ root j

  -- the least polygon of a component is the first with its root
  least_first : (i f : ℕ) → Least n conducts SameRoot i f → First root conducts (root i) f
  least_first i f least =
      record {
        conducting = least.conducting.1;
        has = least.same;
        unseen =
            by_cases (seen root conducts (root i) f)
            (λ s.
            let (x, lt, first, _) = first_from root conducts (root i) f s in
            absurd (least.first x lt (omega (arith, least.conducting.0), first.conducting) first.has))
            (λ s. s);
      }

  number_by_first : (i f : ℕ) → conducts i ≡ true → First root conducts (root i) f
      → number_at root conducts i ≡ new_below root conducts f
  number_by_first i f k first =
      let (g, _, other, same) = has_first root conducts i k in
      same ∙ ap (new_below root conducts) (first_unique root conducts (root i) g f other first)

  in_order : (i j f g : ℕ) → conducts i ≡ true → conducts j ≡ true
      → First root conducts (root i) f → First root conducts (root j) g → f < g
      → number_at root conducts i < number_at root conducts j
  in_order i j f g ki kj first-i first-j lt =
      rw (number_by_first i f ki first-i, number_by_first j g kj first-j) (firsts_in_order root conducts (root i) f g first-i lt)

  same_number : (i j : ℕ) → conducts i ≡ true → conducts j ≡ true
      → (number_at root conducts i ≡ number_at root conducts j) ↔ SameRoot i j
  same_number i j ki kj = (one_root, one_number)
    where
      one_root : number_at root conducts i ≡ number_at root conducts j → root i ≡ root j
      one_root e =
          let (f, _, first-i, _) = has_first root conducts i ki in
          let (g, _, first-j, _) = has_first root conducts j kj in
          elim (dec_lt f g) [
            | yes lt ↦ absurd (omega (arith, e, in_order i j f g ki kj first-i first-j lt))
            | no no_lt ↦
                elim (dec_lt g f) [
                  | yes lt ↦ absurd (omega (arith, e, in_order j i g f kj ki first-j first-i lt))
                  | no no-gt ↦ let same : f ≡ g = omega arith in sym first-i.has ∙ ap root same ∙ first-j.has
                ]
          ]

      one_number : root i ≡ root j → number_at root conducts i ≡ number_at root conducts j
      one_number e =
          let (f, _, first, number) = has_first root conducts i ki in
          number ∙ sym (number_by_first j f kj (rw e at first))

  walk_numbers : Numbered n conducts SameRoot (new_below root conducts n) (numbers_below root conducts n)
  walk_numbers =
      record {
        size = numbers_length root conducts n;
        same = λ i j hi hj. rw (read i hi.0, read j hj.0) (same_number i j hi.1 hj.1);
        rises = λ i j f g hi hj least-i least-j lt.
            rw (read i hi.0, read j hj.0) (in_order i j f g hi.1 hj.1 (least_first i f least-i) (least_first j g least-j) lt);
        given = λ k. (
          λ lt.
              let (i, below, conducting, number) = numbers_have_no_gap root conducts n k lt in
              (i, (below, conducting), read i below ∙ number),
          λ there. below_count there,
        );
        marked = λ i h k. read i h ∙ number_none root conducts i k;
      }
    where
      read : (i : ℕ) → i < n → get_or (numbers_below root conducts n) i 0 ≡ number_at root conducts i
      read i h = numbers_read root conducts n i h

      below_count : {k : ℕ} → ((i : ℕ) × Conducting n conducts i × (get_or (numbers_below root conducts n) i 0 ≡ k))
          → k < new_below root conducts n
      below_count (i, (below, conducting), number) =
          let (f, le, first, same) = has_first root conducts i conducting in
          omega (arith, number, read i below, same, firsts_in_order root conducts (root i) f n first (omega arith))

-- ---- at most one list numbers the components

-- the first number below k that passes the test, if one does
first_true : (test : ℕ → Bool) (k : ℕ)
    → ((x : ℕ) → x < k → test x ≡ false) ⊎ ((f : ℕ) × (f < k) × (test f ≡ true) × ((x : ℕ) → x < f → test x ≡ false))
first_true test zero = inl (λ x h. absurd (omega arith))
first_true test (suc k) =
    ⊎_elim
    (λ none.
    by_cases (test k) (λ e. inr (k, omega arith, e, none))
    (λ e. inl (λ x h. elim (ℕ_discrete x k) [ yes f ↦ rw f e | no f ↦ none x (omega arith) ])))
    (λ found. let (f, h, e, before) = found in inr (f, omega arith, e, before)) (first_true test k)

module _ {n : ℕ} {conducts : ℕ → Bool} {Same : ℕ → ℕ → Type 0} where
  -- every component has its least polygon
  has_least : {count : ℕ} {a : List ℕ} → Numbered n conducts Same count a → (i : ℕ) → Conducting n conducts i
      → (f : ℕ) × Least n conducts Same i f
  has_least {a = a} numbered i h =
      ⊎_elim (λ none. absurd (true≢false (sym (pass i h refl) ∙ none i (omega arith))))
      (λ found.
      let (f, below, e, before) = found in
      let (conducting, same) = (and-eq-true_iff (conducts f) (eqb (get_or a f 0) (get_or a i 0))).0 e in
      let there : Conducting n conducts f = (omega (arith, h.0), conducting) in (
        f,
        record {
          conducting = there;
          same = (numbered.same f i there h).0 (eqb-true (get_or a f 0) (get_or a i 0) same);
          first = λ x lt k c. true≢false (sym (pass x k ((numbered.same x i k h).1 c)) ∙ before x lt);
        },
      ))
      (first_true test (suc i))
    where
      test : ℕ → Bool
      test x = conducts x && eqb (get_or a x 0) (get_or a i 0)

      pass : (x : ℕ) → Conducting n conducts x → get_or a x 0 ≡ get_or a i 0 → test x ≡ true
      pass x k e = (and-eq-true_iff (conducts x) (eqb (get_or a x 0) (get_or a i 0))).1 (k.1, eq-eqb (get_or a x 0) (get_or a i 0) e)

  -- two numberings have the components in one order
  order_kept : {c d : ℕ} {a b : List ℕ} → Numbered n conducts Same c a → Numbered n conducts Same d b → (i j : ℕ)
      → Conducting n conducts i → Conducting n conducts j → get_or a i 0 < get_or a j 0 → get_or b i 0 < get_or b j 0
  order_kept {a = a} by-a by-b i j hi hj lt =
      let (f, least-i) = has_least by-a i hi in
      let (g, least-j) = has_least by-a j hj in
      elim (dec_lt f g) [
        | yes h ↦ by-b.rises i j f g hi hj least-i least-j h
        | no h ↦
            elim (ℕ_discrete f g) [
              | yes e ↦
                  let with-i : get_or a f 0 ≡ get_or a i 0 = (by-a.same f i least-i.conducting hi).1 least-i.same in
                  let with-j : get_or a f 0 ≡ get_or a j 0 = rw e ((by-a.same g j least-j.conducting hj).1 least-j.same) in
                  absurd (omega arith)
              | no e ↦ absurd (omega (arith, by-a.rises j i g f hj hi least-j least-i (omega arith)))
            ]
      ]

  no_higher : {c d : ℕ} {a b : List ℕ} → Numbered n conducts Same c a → Numbered n conducts Same d b → (v i : ℕ)
      → Conducting n conducts i → get_or b i 0 ≡ v → v ≤ get_or a i 0
  no_higher by-a by-b zero i h e = zero-le
  no_higher {d = d} by-a by-b (suc v) i h e =
      let below : suc v < d = (by-b.given (suc v)).1 (i, h, e) in
      let (j, k, f) = (by-b.given v).0 (omega arith) in
      omega (arith, no_higher by-a by-b v j k f, order_kept by-b by-a j i k h (omega arith))

  one_list : {c d : ℕ} {a b : List ℕ} → Numbered n conducts Same c a → Numbered n conducts Same d b → a ≡ b
  one_list {a = a} {b = b} by-a by-b =
      ext_get_or 0 a b (by-a.size ∙ sym by-b.size)
      (λ i lt.
      let h : i < n = omega (arith, by-a.size) in
      by_cases (conducts i)
      (λ e. le_antisymm (no_higher by-b by-a (get_or a i 0) i (h, e) refl) (no_higher by-a by-b (get_or b i 0) i (h, e) refl))
      (λ e. by-a.marked i h e ∙ sym (by-b.marked i h e)))

  no_more : {c d : ℕ} {a b : List ℕ} → Numbered n conducts Same c a → Numbered n conducts Same d b → d ≤ c
  no_more {c} {d} by-a by-b =
      elim (dec_lt c d) [
        | yes more ↦
            let (i, h, e) = (by-b.given c).0 more in
            absurd (omega (arith, (by-a.given c).1 (i, h, ap (λ (l : List ℕ). get_or l i 0) (one_list by-a by-b) ∙ e)))
        | no few ↦ omega arith
      ]

  -- one list, and one count of components
  pub one_numbering : {c d : ℕ} {a b : List ℕ} → Numbered n conducts Same c a → Numbered n conducts Same d b → (c ≡ d) × (a ≡ b)
  one_numbering by-a by-b = (le_antisymm (no_more by-b by-a) (no_more by-a by-b), one_list by-a by-b)

-- ---- what `number_components` gives

-- where two relations agree, so do their numberings
module _ {n : ℕ} {conducts : ℕ → Bool} {Same Other : ℕ → ℕ → Type 0} (agree : (i j : ℕ) → Same i j ↔ Other i j) where
  least_by : {i f : ℕ} → Least n conducts Other i f → Least n conducts Same i f
  least_by {i} {f} least =
      record { conducting = least.conducting; same = (agree f i).1 least.same; first = λ x lt k c. least.first x lt k ((agree x i).0 c) }

  pub numbered_by : {count : ℕ} {numbers : List ℕ} → Numbered n conducts Same count numbers → Numbered n conducts Other count numbers
  numbered_by numbered =
      record {
        size = numbered.size;
        same = λ i j hi hj. Iff.trans (numbered.same i j hi hj) (agree i j);
        rises = λ i j f g hi hj least-i least-j. numbered.rises i j f g hi hj (least_by least-i) (least_by least-j);
        given = numbered.given;
        marked = numbered.marked;
      }

module _ (conducts : List Bool) (n : ℕ) where
  -- of one root, in any table
  pub numbered_by_roots : (t : Table)
      → Numbered n (conducts_in conducts) (OneRoot t) (count_of t.parent conducts n) (numbers_of t.parent conducts n)
  numbered_by_roots t = walk_numbers (root_of t.parent) (conducts_in conducts) n

  -- of one chain, after any joins and lookups from a fresh table
  pub numbered_by_chains : (ops : List Op) → Within ops
      → Numbered n (conducts_in conducts) (Chain (links_of ops))
      (count_of (after ops).parent conducts n) (numbers_of (after ops).parent conducts n)
  numbered_by_chains ops within = numbered_by (one_root_iff_chain ops within) (numbered_by_roots (after ops))

  -- the same of joins alone
  pub numbered_by_chains_of_joins : (links : List Link) → BetweenPolygons links
      → Numbered n (conducts_in conducts) (Chain links)
      (count_of (after (joins links)).parent conducts n) (numbers_of (after (joins links)).parent conducts n)
  numbered_by_chains_of_joins links inside = numbered_by (one_root_iff_chain_of_joins links inside) (numbered_by_roots (after (joins links)))
