-- `geometry::boxes::Bbox::empty` meets its contract. Assumes nothing.
use Rattle.std.proofs.Common.{refl}
use lib.Ieee.{of_bits}
use Rattle.geometry.specs.Boxes.{empty_box}
use Rattle.geometry.proofs.boxes.Bbox.empty.Goals as goal

pub returns : goal.returns
unfolding empty_box of_bits
returns c = refl
