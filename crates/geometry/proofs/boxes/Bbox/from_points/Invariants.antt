-- `geometry::boxes::Bbox::from_points` meets its contract. The invariant: the box is that around the first i points. Assumes nothing.
use Rattle.std.proofs.Common.{◌≡◌}
use Rattle.geometry.specs.Boxes.{box_of_first}
use Rattle.geometry.proofs.boxes.Bbox.from_points.Given as goal

abbrev pub invariant-loop-i : goal.invariant-loop-i
invariant-loop-i l = l.bounds ≡ box_of_first l.ring l.i
