-- Rectangles written into a lent list, one behind the other, as far as there is room. Assumes nothing.
use mathlib.Core.Path.{◌≡◌, refl, sym, ap, ◌∙◌, subst}
use Prim.Native.Nat.{ℕ, zero, suc, ◌+◌, ◌*◌, ◌-◌, ◌/◌, ◌≤◌, ◌<◌}
use native.Mathlib.Nat.{add-zero, zero-add, add-suc, suc-add}
use native.Mathlib.Omega.{arith}
use mathlib.Core.Bool.{true, false}
use mathlib.Core.List.{List, [], ◌∷◌, ◌++◌, flat_map, append_assoc, append-nil}
use Rattle.std.specs.Prelude.{Result, Ok, Err}
use Rattle.std.specs.Result.{IsErr}
use Rattle.std.proofs.Common.{zero-le}
use Rattle.std.proofs.lemmas.Bool.{false≢true}
use lib.Dec.{leb, lit<}
use lib.ListN.{length, get_or, set, take, drop, take-append-drop, length-append, length-take}
use lib.Seq.{sets, length-sets, sets-eq, take-nil, take_all, take-append-le, take-append-add, get_or-take, drop-drop}
use lib.Ieee.{Float, nan, binary64, lt, sub}
use borrow.Author.Tests.{le-leb, lt-leb, leb-true, leb-false}
use Rattle.lists.specs.Front.{Front}
use Rattle.lists.proofs.Laws.Each.{each_append, each_none, each_next, each_all}
use Rattle.lists.proofs.Laws.Tests.{by_cases}
use Rattle.std.specs.Simd.{first_chunks}
use Rattle.geomops.specs.Crossings.{Interval, paired}
use Rattle.geomops.specs.Heights.{neighbours}
use Rattle.geomops.proofs.Laws.Pairs.{nowhere, length_paired, length_chunks, chunk_at, neighbours_short, neighbours_first}
use Rattle.geometry.specs.Number.{resolution}
use Rattle.geomops.specs.declared.rects.Rect.{Rect}
use Rattle.geomops.specs.declared.rects.NoRoom.{NoRoom}
use Rattle.geomops.specs.Rects.{room_in, rect_at, numbers_of, wide, place_behind, Pushed, answer_of, rects_front, Pieced}

-- ---- a run of stores behind another

sets_append : (l : List Float) (i : ℕ) (us vs : List Float) → sets l i (us ++ vs) ≡ sets (sets l i us) (i + length us) vs
sets_append l i [] vs = rw (add-zero i)
sets_append l i (u ∷ us) vs = sets_append (set l i u) (suc i) us vs ∙ rw (suc-add i (length us), add-suc i (length us))

-- ---- the numbers of rectangles

pub length_numbers : (rs : List Rect) → length (numbers_of rs) ≡ 4 * length rs
unfolding numbers_of
length_numbers [] = refl
length_numbers (r ∷ rs) = omega (arith, length_numbers rs)

pub numbers_append : (rs ts : List Rect) → numbers_of (rs ++ ts) ≡ numbers_of rs ++ numbers_of ts
unfolding numbers_of
numbers_append [] ts = refl
numbers_append (r ∷ rs) ts = ap (λ (l : List Float). r.x0 ∷ r.y0 ∷ r.x1 ∷ r.y1 ∷ l) (numbers_append rs ts)

-- a rectangle that was written is the one that is read there
pub rect_back : (rs : List Rect) (behind : List Float) (i : ℕ) (d : Rect) → i < length rs → rect_at (numbers_of rs ++ behind) i ≡ get_or rs i d
unfolding numbers_of rect_at
rect_back [] behind i d h = absurd (omega arith)
rect_back (r ∷ rs) behind zero d h = refl
rect_back (r ∷ rs) behind (suc i) d h =
    let p0 : 4 * suc i ≡ suc (suc (suc (suc (4 * i)))) = omega arith in
    let p1 : 4 * suc i + 1 ≡ suc (suc (suc (suc (4 * i + 1)))) = omega arith in
    let p2 : 4 * suc i + 2 ≡ suc (suc (suc (suc (4 * i + 2)))) = omega arith in
    let p3 : 4 * suc i + 3 ≡ suc (suc (suc (suc (4 * i + 3)))) = omega arith in
    rw (p1, p2, p3, p0) (rect_back rs behind i d (omega arith))

-- ---- the record

pub pushed_length : {rs : List Rect} {before after : List Float} {p : ℕ} {r : Result ℕ NoRoom} → Pushed rs before after p r → length after ≡ length before
pushed_length {rs} {before} {after} {p} s = ap length s.list ∙ length-sets before (4 * p) (numbers_of (take (room_in before - p) rs))

-- there is room for all, or there is not
behind_fits : (room p : ℕ) (rs : List Rect) → length rs ≤ room - p → place_behind room p rs ≡ Ok (p + length rs)
unfolding place_behind
behind_fits room p rs h = rw (le-leb (length rs) (room - p) h)

behind_over : (room p : ℕ) (rs : List Rect) → room - p < length rs → place_behind room p rs ≡ Err (record {})
unfolding place_behind
behind_over room p rs h = rw (lt-leb (length rs) (room - p) h)

module _ {rs : List Rect} {before after : List Float} {p : ℕ} where
  pub found_room : {q : ℕ} → Pushed rs before after p (Ok q) → (length rs ≤ room_in before - p) × (q ≡ p + length rs)
  found_room {q} s =
      by_cases (leb (length rs) (room_in before - p))
      (λ b. let few : length rs ≤ room_in before - p = leb-true _ _ b in (few, cc (s.place, behind_fits (room_in before) p rs few)))
      (λ b. let z : ◌≡◌ {A = ℕ} 0 1 = cc (s.place, behind_over (room_in before) p rs (leb-false _ _ b)) in absurd (omega arith))

  pub found_none : {e : NoRoom} → Pushed rs before after p (Err e) → room_in before - p < length rs
  found_none s =
      by_cases (leb (length rs) (room_in before - p))
      (λ b. let z : ◌≡◌ {A = ℕ} 0 1 = cc (s.place, behind_fits (room_in before) p rs (leb-true _ _ b)) in absurd (omega arith))
      (λ b. leb-false _ _ b)

pub pushed_none : (l : List Float) (p : ℕ) → Pushed [] l l p (Ok p)
unfolding numbers_of
pushed_none l p = record { place = sym (behind_fits (room_in l) p [] zero-le ∙ rw (add-zero p)); list = rw (take-nil {A = Rect} (room_in l - p)) }

-- one rectangle: behind the room, and in it
module _ (r : Rect) (l : List Float) (p : ℕ) where
  pub pushed_full : room_in l ≤ p → Pushed (r ∷ []) l l p (Err (record {}))
  unfolding numbers_of
  pushed_full h =
      let none : room_in l - p ≡ 0 = omega arith in
      record { place = sym (behind_over (room_in l) p (r ∷ []) (omega arith)); list = rw none }

  pub pushed_one : {after : List Float} → p < room_in l → after ≡ take (4 * p) l ++ (numbers_of (r ∷ []) ++ drop 4 (drop (4 * p) l)) → Pushed (r ∷ []) l after p (Ok (p + 1))
  unfolding numbers_of
  pushed_one h e =
      let some : 1 ≤ room_in l - p = omega arith in
      record {
        place = sym (behind_fits (room_in l) p (r ∷ []) some);
        list = e ∙ rw (take_all (room_in l - p) (r ∷ []) some, drop-drop 4 (4 * p) l) (sym (sets-eq (numbers_of (r ∷ [])) l (4 * p) (omega arith) ∙ append_assoc (take (4 * p) l) (numbers_of (r ∷ [])) (drop (4 * p + 4) l)));
      }

-- more rectangles behind those that are written
module _ {rs : List Rect} {before mid : List Float} {p : ℕ} where
  pub pushed_more : {q : ℕ} → Pushed rs before mid p (Ok q) → (ts : List Rect) {after : List Float} {r : Result ℕ NoRoom} → Pushed ts mid after q r → Pushed (rs ++ ts) before after p r
  pushed_more {q} s ts {after} {r} more =
      let fits = found_room s in
      let same : room_in mid ≡ room_in before = rw (pushed_length s) refl in
      let left : room_in before - p ≡ length rs + (room_in before - q) = omega (arith, fits.0, fits.1) in
      let whole : take (room_in before - p) rs ≡ rs = take_all (room_in before - p) rs fits.0 in
      let at : 4 * p + length (numbers_of rs) ≡ 4 * q = omega (arith, length_numbers rs, fits.1) in
      let held : mid ≡ sets before (4 * p) (numbers_of rs) = s.list ∙ rw whole in
      let both : length (rs ++ ts) ≡ length rs + length ts = length-append rs ts in
      record {
        place = more.place ∙ rw same (by_cases (leb (length ts) (room_in before - q))
            (λ b. behind_fits (room_in before) q ts (leb-true _ _ b) ∙ ap Ok (omega (arith, fits.1, both)) ∙ sym (behind_fits (room_in before) p (rs ++ ts) (omega (arith, left, both, leb-true _ _ b))))
            (λ b. behind_over (room_in before) q ts (leb-false _ _ b) ∙ sym (behind_over (room_in before) p (rs ++ ts) (omega (arith, left, both, leb-false _ _ b)))));
        list = more.list ∙ rw (same, left, take-append-add rs ts (room_in before - q), numbers_append, sets_append, at, held);
      }

  -- where not all found room, no more do
  pub pushed_stop : {e : NoRoom} → Pushed rs before mid p (Err e) → (ts : List Rect) → Pushed (rs ++ ts) before mid p (Err e)
  pushed_stop s ts =
      let over = found_none s in
      record {
        place = sym (behind_over (room_in before) p (rs ++ ts) (rw length-append (omega (arith, over))));
        list = rw (take-append-le (room_in before - p) rs ts (omega (arith, over))) s.list;
      }

-- a refusal handed back by `?`
pub pushed_back : {rs : List Rect} {before after : List Float} {p : ℕ} {e : NoRoom} {r : Result ℕ NoRoom} → IsErr r → Pushed rs before after p (Err e) → Pushed rs before after p r
pushed_back {r = Ok q} h s = absurd (false≢true h)
pushed_back {r = Err d} h s = s

-- ---- rectangles for each pair of numbers, and for each with the next

module _ (f : Interval → List Rect) (xs : List Float) where
  pub pairs_none : (before : List Float) (p : ℕ) → Pushed (flat_map f (take 0 (paired xs))) before before p (Ok p)
  pairs_none before p = rw each_none (pushed_none before p)

  -- not all of the first k found room
  pairs_over : {before after : List Float} {p : ℕ} {e : NoRoom} (k : ℕ) → Pushed (flat_map f (take k (paired xs))) before after p (Err e) → Pushed (flat_map f (paired xs)) before after p (Err e)
  pairs_over {before} {after} {p} {e} k s = subst (λ (rs : List Rect). Pushed rs before after p (Err e)) (sym (each_append f (take k (paired xs)) (drop k (paired xs))) ∙ ap (flat_map f) (take-append-drop k (paired xs))) (pushed_stop s (flat_map f (drop k (paired xs))))

  module _ {chunks : List (List Float)} (are : chunks ≡ first_chunks 2 (length xs / 2) xs) where
    many : length chunks ≡ length xs / 2
    many = ap length are ∙ length_chunks (length xs / 2) xs

    module _ {before mid : List Float} {p q k : ℕ} (s : Pushed (flat_map f (take k (paired xs))) before mid p (Ok q)) where
      pub pairs_more : {after : List Float} {r : Result ℕ NoRoom} → k < length chunks → Pushed (f (get_or (get_or chunks k []) 0 nan, get_or (get_or chunks k []) 1 nan)) mid after q r →
          Pushed (flat_map f (take (k + 1) (paired xs))) before after p r
      pairs_more h more =
          let here : k < length (paired xs) = rw length_paired (omega (arith, many)) in
          rw (each_next f (paired xs) k nowhere here, chunk_at xs (length xs / 2) k (omega (arith, many)) (omega arith), ← are) (pushed_more s _ more)

      pub pairs_stop : {after : List Float} {e : NoRoom} → k < length chunks → Pushed (f (get_or (get_or chunks k []) 0 nan, get_or (get_or chunks k []) 1 nan)) mid after q (Err e) →
          Pushed (flat_map f (paired xs)) before after p (Err e)
      pairs_stop h more = pairs_over (k + 1) (pairs_more h more)

      pub pairs_all : length chunks ≤ k → Pushed (flat_map f (paired xs)) before mid p (Ok q)
      pairs_all h =
          let all : length (paired xs) ≤ k = rw length_paired (omega (arith, many)) in
          rw (← each_all f (paired xs) k all) s

-- what is written, and what is to be written for the numbers that are left, is all
pub record Bands (f : Interval → List Rect) (ys left before after : List Float) (q : ℕ) : Type 0 where
  pub made : List Rect
  pub all : flat_map f (neighbours ys) ≡ made ++ flat_map f (neighbours left)
  pub written : Pushed made before after 0 (Ok q)

pub bands_none : (f : Interval → List Rect) (ys before : List Float) → Bands f ys ys before before 0
bands_none f ys before = record { made = []; all = refl; written = pushed_none before 0 }

module _ {f : Interval → List Rect} {ys left before mid : List Float} {q : ℕ} (b : Bands f ys left before mid q) where
  module _ {pair : List Float} {n : ℕ} (two : n ≡ 2) (some : n ≤ length left) (first : pair ≡ take n left) where
    on : flat_map f (neighbours ys) ≡ (b.made ++ f (get_or pair 0 nan, get_or pair 1 nan)) ++ flat_map f (neighbours (drop 1 left))
    unfolding flat_map
    on =
        let pairs : 2 ≤ length left = omega arith in
        rw (b.all, neighbours_first left pairs, first, two, get_or-take 2 left 0 nan (lit< tt), get_or-take 2 left 1 nan (lit< tt), append_assoc)

    pub bands_more : {next after : List Float} {t : ℕ} → next ≡ drop 1 left → Pushed (f (get_or pair 0 nan, get_or pair 1 nan)) mid after q (Ok t) → Bands f ys next before after t
    bands_more behind more = record { made = b.made ++ f (get_or pair 0 nan, get_or pair 1 nan); all = rw behind on; written = pushed_more b.written _ more }

    pub bands_stop : {after : List Float} {e : NoRoom} → Pushed (f (get_or pair 0 nan, get_or pair 1 nan)) mid after q (Err e) → Pushed (flat_map f (neighbours ys)) before after 0 (Err e)
    bands_stop more = rw on (pushed_stop (pushed_more b.written _ more) _)

  pub bands_all : length left < 2 → Pushed (flat_map f (neighbours ys)) before mid 0 (Ok q)
  unfolding flat_map
  bands_all few = rw (b.all, neighbours_short left few, append-nil) b.written

-- ---- a rectangle whose width counts, and one whose width does not

pub wide_one : (r : Rect) → lt resolution (sub binary64 r.x1 r.x0) ≡ true → wide r ≡ r ∷ []
unfolding wide
wide_one r w = rw w

pub wide_none : (r : Rect) → lt resolution (sub binary64 r.x1 r.x0) ≡ false → wide r ≡ []
unfolding wide
wide_none r w = rw w

-- ---- the answer

answer_fits : (room : ℕ) (rs : List Rect) → length rs ≤ room → answer_of room rs ≡ Ok (length rs)
unfolding answer_of
answer_fits room rs h = rw (le-leb (length rs) room h)

answer_over : (room : ℕ) (rs : List Rect) → room < length rs → answer_of room rs ≡ Err (record {})
unfolding answer_of
answer_over room rs h = rw (lt-leb (length rs) room h)

-- what is pushed from the first place on is the answer
pub pieced_pushed : {rs : List Rect} {before after : List Float} {r : Result ℕ NoRoom} → Pushed rs before after 0 r → Pieced rs before after r
unfolding answer_of rects_front place_behind
pieced_pushed {rs} {before} s =
    let held = take (room_in before) rs in
    let many : length (numbers_of held) ≡ 4 * length held = length_numbers held in
    let few : length held ≤ room_in before = rw (length-take) (omega arith) in
    let start : room_in before - 0 ≡ room_in before = omega arith in
    record {
      answer = s.place ∙ rw (start, zero-add (length rs));
      list = s.list ∙ rw start (sets-eq (numbers_of held) before 0 (omega (arith, many)) ∙ rw (many, zero-add));
    }

pub pieced_none : (l : List Float) → Pieced [] l l (Ok 0)
pieced_none l = pieced_pushed (pushed_none l 0)

-- ---- what a caller reads off the answer

module _ {rs : List Rect} {before after : List Float} where
  -- all were written
  pub pieced_front : {n : ℕ} → Pieced rs before after (Ok n) → (n ≡ length rs) × Front (numbers_of rs) before after (4 * n)
  unfolding answer_of rects_front
  pieced_front {n} p =
      by_cases (leb (length rs) (room_in before))
      (λ b. let few : length rs ≤ room_in before = leb-true (length rs) (room_in before) b in
      let many : n ≡ length rs = cc (p.answer, answer_fits (room_in before) rs few) in
      let whole : take (room_in before) rs ≡ rs = take_all (room_in before) rs few in
      (many, record { many = rw many (sym (length_numbers rs)); list = p.list ∙ rw (whole, many) }))
      (λ b. let z : ◌≡◌ {A = ℕ} 0 1 = cc (p.answer, answer_over (room_in before) rs (leb-false (length rs) (room_in before) b)) in absurd (omega arith))

  -- there are more than there is room for
  pub pieced_more : Pieced rs before after (Err (record {})) → room_in before < length rs
  pieced_more p =
      by_cases (leb (length rs) (room_in before))
      (λ b. let z : ◌≡◌ {A = ℕ} 0 1 = cc (p.answer, answer_fits (room_in before) rs (leb-true (length rs) (room_in before) b)) in absurd (omega arith))
      (λ b. leb-false (length rs) (room_in before) b)

  -- answer and list are determined
  pub pieced_unique : {other : List Float} {r q : Result ℕ NoRoom} → Pieced rs before after r → Pieced rs before other q → (r ≡ q) × (after ≡ other)
  pieced_unique p o = (p.answer ∙ sym o.answer, p.list ∙ sym o.list)
