-- `geomops::rects::rects_area` meets its contract. The invariant: the areas of the first i rectangles are summed. Assumes nothing.
use Rattle.std.proofs.Common.{◌≡◌}
use Rattle.geomops.specs.Rects.{area_sum}
use Rattle.geomops.proofs.rects.rects_area.Given as goal

abbrev pub invariant-loop-i : goal.invariant-loop-i
invariant-loop-i l = l.sum ≡ area_sum l.rects l.i
