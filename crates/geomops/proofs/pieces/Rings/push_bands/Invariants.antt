-- `geomops::pieces::Rings::push_bands` meets its contract. The invariant: the pieces of the bands so far are written. Assumes nothing.
use Rattle.std.proofs.Common.{◌≡◌}
use Rattle.std.specs.Slice.Iter.{windows_rest, windows_size}
use Rattle.std.specs.Slice.ArrayWindows.{array_windows_parts}
use Rattle.geomops.specs.Pieces.{band_pieces}
use Rattle.geomops.proofs.Laws.Pushing.{Bands}
use Rattle.geomops.proofs.pieces.Rings.push_bands.Given as goal

abbrev pub invariant-loop-y0 : goal.invariant-loop-y0
invariant-loop-y0 l =
    let was = l.fn.self in
    record {
      op : l.self.op ≡ was.op;
      a : l.self.a.now ≡ was.a.now;
      b : l.self.b.now ≡ was.b.now;
      pairs : windows_size (array_windows_parts l.y0-iterator) ≡ 2;
      bands : Bands (band_pieces was.op was.a.now was.b.now) l.ys (windows_rest (array_windows_parts l.y0-iterator)) l.initial.out l.out l.next;
    }
