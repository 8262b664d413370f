-- The pieces of two rings: of a band, of all bands, and of rings under 3 points. Assumes nothing.
use mathlib.Core.Path.{◌≡◌, ap}
use Prim.Native.Nat.{◌<◌}
use mathlib.Core.Bool.{true, false}
use mathlib.Core.List.{List, [], flat_map}
use lib.ListN.{length}
use lib.Ieee.{Float, le}
use Rattle.lists.specs.All.{AllOf}
use Rattle.floats.specs.Kinds.{is_number}
use Rattle.geometry.specs.Ring.{points_in}
use Rattle.geomops.specs.declared.pieces.Operation.{Operation}
use Rattle.geomops.specs.declared.pieces.Operation.TheVariants.{Minus, Intersection}
use Rattle.geomops.specs.Sorted.{sorted, merged}
use Rattle.geomops.specs.Crossings.{crossings_at, paired, intervals_at}
use Rattle.geomops.specs.Heights.{heights, thinned, neighbours, line_between}
use Rattle.geomops.specs.Pieces.{rect_over, pieces_of, covered_at, band_pieces, enough, pieces_between, minus_rects, intersection_rects}
use Rattle.geomops.proofs.Laws.Pairs.{paired_short}
use Rattle.geomops.proofs.Laws.Heights.{bands_merged}

-- ---- one band: flat, with no interval of the first ring, and with some

module _ (op : Operation) (a b : List Float) (y0 y1 : Float) where
  pub band_flat : le y1 y0 ≡ true → band_pieces op a b (y0, y1) ≡ []
  unfolding band_pieces
  band_flat t = rw t

  module _ (high : le y1 y0 ≡ false) {y : Float} (at : y ≡ line_between y0 y1) where
    pub band_missed : {xs : List Float} → xs ≡ sorted (crossings_at a y) → length xs < 2 → band_pieces op a b (y0, y1) ≡ []
    unfolding band_pieces intervals_at flat_map
    band_missed {xs} crossed few =
        let none : paired (sorted (crossings_at a (line_between y0 y1))) ≡ [] = rw (← at, ← crossed) (paired_short xs few) in
        rw (high, none)

    pub band_spans : {xs bs : List Float} → xs ≡ sorted (crossings_at a y) → bs ≡ covered_at b y →
        band_pieces op a b (y0, y1) ≡ flat_map (λ s. pieces_of op (paired bs) (rect_over y0 y1 s)) (paired xs)
    unfolding band_pieces intervals_at
    band_spans crossed covered = rw (high, crossed, covered, at)

-- ---- all bands

module _ (op : Operation) (a b : List Float) where
  pub pieces_none : (ys : List Float) → enough op (points_in a) (points_in b) ≡ false → pieces_between op a b ys ≡ []
  unfolding pieces_between
  pieces_none ys t = rw t

  pub pieces_bands : (ys : List Float) → enough op (points_in a) (points_in b) ≡ true → pieces_between op a b ys ≡ flat_map (band_pieces op a b) (neighbours ys)
  unfolding pieces_between
  pieces_bands ys t = rw t

-- ---- rings whose sorted heights are known, with no NaN among them

module _ (a b : List Float) (na : AllOf is_number (heights a)) (nb : AllOf is_number (heights b)) where
  pub minus_sorted : {ha hb : List Float} → ha ≡ sorted (heights a) → hb ≡ sorted (heights b) → pieces_between Minus a b (thinned (merged ha hb)) ≡ minus_rects a b
  unfolding minus_rects
  minus_sorted ea eb = rw (ea, eb) (ap (pieces_between Minus a b) (bands_merged a b na nb))

  pub intersection_sorted : {ha hb : List Float} → ha ≡ sorted (heights a) → hb ≡ sorted (heights b) → pieces_between Intersection a b (thinned (merged ha hb)) ≡ intersection_rects a b
  unfolding intersection_rects
  intersection_sorted ea eb = rw (ea, eb) (ap (pieces_between Intersection a b) (bands_merged a b na nb))
