-- `geometry::area::polygon_signed_area` meets its contract: the loop is that of `proofs/Laws/Area.antt`. Assumes nothing.
use Rattle.geometry.proofs.Laws.Area.{Summing}
use Rattle.geometry.proofs.area.polygon_signed_area.Given as goal

abbrev pub invariant-loop-i : goal.invariant-loop-i
invariant-loop-i l = Summing l.ring l.here l.sum l.i
