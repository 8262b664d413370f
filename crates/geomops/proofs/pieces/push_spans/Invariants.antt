-- `geomops::pieces::push_spans` meets its contract. The invariant: the pieces of the intervals so far are written. Assumes nothing.
use Rattle.std.proofs.Common.{Ok, take}
use mathlib.Core.List.{flat_map}
use Rattle.geomops.specs.Crossings.{paired}
use Rattle.geomops.specs.Rects.{Pushed}
use Rattle.geomops.specs.Pieces.{rect_over, pieces_of}
use Rattle.geomops.proofs.pieces.push_spans.Given as goal

abbrev pub invariant-loop-x0 : goal.invariant-loop-x0
invariant-loop-x0 l = Pushed (flat_map (λ s. pieces_of l.op (paired l.bs) (rect_over l.y0 l.y1 s)) (take l.x0-index (paired l.xs))) l.initial.out l.out l.place (Ok l.next)
