-- The starts of rings, written one after the other, and rings as parts of the list of points. Assumes nothing.
use mathlib.Core.Path.{◌≡◌, refl, sym, ◌∙◌}
use mathlib.Core.Bool.{Bool}
use Prim.Native.Nat.{ℕ, ◌+◌, ◌-◌, ◌*◌, ◌≤◌, ◌<◌}
use native.Mathlib.Omega.{arith}
use mathlib.Core.List.{List, []}
use lib.ListN.{length, get_or, take, drop, set, length-set, length-take, length-drop, get_or-append, get_or-eq_default}
use lib.Ieee.{Float}
use Rattle.lists.specs.All.{AllOf}
use Rattle.lists.specs.Front.{Front}
use Rattle.lists.specs.Gathered.{tabulate}
use Rattle.lists.proofs.Laws.All.{all_take, all_drop}
use Rattle.lists.proofs.Laws.Front.{front_none, front_store, front_fits}
use Rattle.lists.proofs.Laws.Gathered.{tabulate_none, tabulate_next, tabulate_length, tabulate_at}
use Rattle.layout.specs.Bounds.{max_points}
use Rattle.layout.specs.Job.{Layout}
use Rattle.layout.specs.Accepted.{Polygons}
use Rattle.layout.specs.Rings.{total, start_of, ring_of, starts_of, Starts, RingsIn}
use Rattle.layout.proofs.Laws.Counting.{total_next, total_all, total_within}

-- ---- the starts

pub start_first : (lengths : List ℕ) → start_of lengths 0 ≡ 0
unfolding start_of
start_first lengths = refl

pub start_next : (lengths : List ℕ) (i : ℕ) → i < length lengths → start_of lengths (i + 1) ≡ start_of lengths i + 2 * get_or lengths i 0
unfolding start_of
start_next lengths i h = omega (arith, total_next lengths i h)

pub start_last : (lengths : List ℕ) → start_of lengths (length lengths) ≡ 2 * total lengths
unfolding start_of
start_last lengths = omega (arith, total_all lengths (length lengths) (omega arith))

-- a ring ends within the sum of all
pub start_within : (lengths : List ℕ) (i : ℕ) → start_of lengths i + 2 * get_or lengths i 0 ≤ 2 * total lengths
unfolding start_of
start_within lengths i = omega (arith, total_within lengths i)

-- the invariant of the loop that writes them
pub record Starting (lengths before list : List ℕ) (at i : ℕ) : Type 0 where
  pub passed : i ≤ length lengths
  pub here : at ≡ start_of lengths i
  pub long : length list ≡ length before
  pub front : Front (tabulate (start_of lengths) i) before list i

pub starting_none : (lengths before : List ℕ) → Starting lengths before before 0 0
starting_none lengths before = record {
  passed = omega arith;
  here = sym (start_first lengths);
  long = refl;
  front = rw (tabulate_none (start_of lengths)) (front_none before);
}

module _ {lengths before list : List ℕ} {at i : ℕ} (s : Starting lengths before list at i) where
  -- the start of ring i, stored
  starting_store : i < length list → Front (tabulate (start_of lengths) (i + 1)) before (set list i at) (i + 1)
  starting_store h = rw (tabulate_next (start_of lengths) i, ← s.here) (front_store at s.front h)

  pub starting_on : length lengths < length before → i < length lengths → {next : ℕ} → next ≡ at + 2 * get_or lengths i 0 →
      Starting lengths before (set list i at) next (i + 1)
  starting_on room h e = record {
    passed = omega arith;
    here = omega (arith, e, s.here, start_next lengths i h);
    long = length-set list i at ∙ s.long;
    front = starting_store (omega (arith, s.long));
  }

  pub starting_ends : length lengths < length before → length lengths ≤ i → Front (starts_of lengths) before (set list (length lengths) at) (length lengths + 1)
  starting_ends room h =
      let all : i ≡ length lengths = omega (arith, s.passed) in
      rw (← all) (starting_store (omega (arith, s.long, s.passed)))

-- what the work list then begins with
pub starts_of_front : {lengths before after : List ℕ} → Front (starts_of lengths) before after (length lengths + 1) → Starts lengths after
starts_of_front {lengths} {before} {after} f = record {
  long = omega (arith, front_fits f);
  each = λ i h.
      rw f.list
      (get_or-append (starts_of lengths) (drop (length lengths + 1) before) 0 i (rw (tabulate_length (start_of lengths) (length lengths + 1)) (omega arith))
      ∙ tabulate_at (start_of lengths) (length lengths + 1) i 0 (omega arith));
}

-- ---- rings

-- there is no ring behind the last
pub ring_none : (points : List Float) (lengths : List ℕ) (i : ℕ) → length lengths ≤ i → ring_of points lengths i ≡ []
unfolding ring_of
ring_none points lengths i h = rw (get_or-eq_default lengths 0 h)

-- the part between two starts is the ring
pub ring_between : (points : List Float) (lengths : List ℕ) (i : ℕ) {from to : ℕ} → i < length lengths → from ≡ start_of lengths i →
    to ≡ start_of lengths (i + 1) → take (to - from) (drop from points) ≡ ring_of points lengths i
unfolding ring_of
ring_between points lengths i {from} {to} h f t =
    let size : to - from ≡ 2 * get_or lengths i 0 = omega (arith, f, t, start_next lengths i h) in
    rw (size, f)

module _ {points : List Float} {lengths starts : List ℕ} (r : RingsIn points lengths starts) (i : ℕ) (h : i < length lengths) where
  pub starts_ordered : get_or starts i 0 ≤ get_or starts (i + 1) 0
  starts_ordered = omega (arith, r.starting.each i (omega arith), r.starting.each (i + 1) (omega arith), start_next lengths i h)

  pub starts_inside : get_or starts (i + 1) 0 ≤ length points
  starts_inside = omega (arith, r.starting.each (i + 1) (omega arith), start_next lengths i h, start_within lengths i, r.inside)

-- ---- the rings of an accepted layout

module _ {l : Layout} (p : Polygons l) where
  -- their starts can be written
  pub starts_fit : 2 * total l.lengths ≤ 2 * max_points
  starts_fit = omega (arith, p.whole, p.few_points)

  -- and then every ring is at hand
  pub rings_ready : {before starts : List ℕ} → Front (starts_of l.lengths) before starts (length l.lengths + 1) → RingsIn l.points l.lengths starts
  rings_ready f = record { starting = starts_of_front f; inside = omega (arith, p.whole) }

-- ---- what a ring has from the list of points

pub ring_length : (points : List Float) (lengths : List ℕ) (i : ℕ) → start_of lengths i + 2 * get_or lengths i 0 ≤ length points →
    length (ring_of points lengths i) ≡ 2 * get_or lengths i 0
unfolding ring_of
ring_length points lengths i h = omega (arith, length-take (2 * get_or lengths i 0) (drop (start_of lengths i) points), length-drop (start_of lengths i) points)

pub ring_all : (test : Float → Bool) (points : List Float) (lengths : List ℕ) (i : ℕ) → AllOf test points → AllOf test (ring_of points lengths i)
unfolding ring_of
ring_all test points lengths i a = all_take test (2 * get_or lengths i 0) (drop (start_of lengths i) points) (all_drop test (start_of lengths i) points a)
