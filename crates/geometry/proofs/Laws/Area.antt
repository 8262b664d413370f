-- The sum over a ring's edges: one edge more, and the last one, from the last point to the first. Assumes nothing.
use Rattle.std.proofs.Common.{◌≡◌, ℕ, zero, suc, ◌+◌, ◌-◌, ◌∙◌, ◌<◌, ◌≤◌, Bool, true, false, cond, ltb, List, sym, refl, ap, arith, ltb-true, le-ltb, lt-ltb}
use lib.Ieee.{Float, binary64, add}
use Rattle.geometry.specs.declared.ring.Point.{Point}
use Rattle.geometry.specs.Number.{nought}
use Rattle.geometry.specs.Ring.{points_in, point_at, next_of}
use Rattle.geometry.specs.Area.{cross_of, cross_sum}

-- behind a point that is not the last comes the next, and behind the last the first
pub next_inside : (n i : ℕ) → i + 1 < n → next_of n i ≡ i + 1
unfolding next_of
next_inside n i h = rw (lt-ltb (i + 1) n h)

pub next_last : (n i : ℕ) → n ≤ i + 1 → next_of n i ≡ 0
unfolding next_of
next_last n i h = rw (le-ltb (i + 1) n h)

-- either way it is one of the n points
pub next_among : (n i : ℕ) → i < n → next_of n i < n
unfolding next_of
next_among n i h = among (ltb (i + 1) n) (ltb-true (i + 1) n)
  where
    among : (b : Bool) → (b ≡ true → i + 1 < n) → cond b (i + 1) 0 < n
    among true inside = inside refl
    among false inside = omega arith

-- the edges in front of point i are summed but the last one, which starts from `here`
pub record Summing (ring : List Float) (here : Point) (sum : Float) (i : ℕ) : Type 0 where
  pub some : 0 < i
  pub inside : i ≤ points_in ring
  pub point : here ≡ point_at ring (i - 1)
  pub total : sum ≡ cross_sum ring (i - 1)

pub sum_first : {first : Point} (ring : List Float) → 0 < points_in ring → first ≡ point_at ring 0 → Summing ring first nought 1
unfolding cross_sum
sum_first ring some p = record { some = omega arith; inside = some; point = p; total = refl }

-- one edge more
summed : (ring : List Float) (i : ℕ) → 0 < i → cross_sum ring i ≡ add binary64 (cross_sum ring (i - 1)) (cross_of (point_at ring (i - 1)) (point_at ring (next_of (points_in ring) (i - 1))))
unfolding cross_sum
summed ring zero h = absurd (omega arith)
summed ring (suc i) h = let back : suc i - 1 ≡ i = omega arith in rw back

module _ {ring : List Float} {here next : Point} {sum r : Float} {i : ℕ} (s : Summing ring here sum i) (e : r ≡ cross_of here next) where
  pub sum_next : i < points_in ring → next ≡ point_at ring i → Summing ring next (add binary64 sum r) (i + 1)
  sum_next h p =
      let back : i + 1 - 1 ≡ i = omega arith in
      let there : i - 1 + 1 ≡ i = omega (arith, s.some) in
      let behind : next_of (points_in ring) (i - 1) ≡ i = next_inside (points_in ring) (i - 1) (omega (arith, s.some)) ∙ there in
      record { some = omega arith; inside = omega arith; point = rw back p; total = rw (back, summed ring i s.some, behind, e, s.total, s.point, p) }

  pub sum_last : points_in ring ≤ i → next ≡ point_at ring 0 → add binary64 sum r ≡ cross_sum ring (points_in ring)
  sum_last h p =
      let all : points_in ring ≡ i = omega (arith, s.inside) in
      let behind : next_of (points_in ring) (i - 1) ≡ 0 = next_last (points_in ring) (i - 1) (omega (arith, s.some)) in
      rw (e, s.total, s.point, p) (sym (ap (cross_sum ring) all ∙ rw (summed ring i s.some, behind)))
