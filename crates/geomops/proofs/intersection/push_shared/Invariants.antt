-- `geomops::intersection::push_shared` meets its contract. The invariant: the parts of the intervals so far are written. Assumes nothing.
use Rattle.std.proofs.Common.{Ok, take}
use mathlib.Core.List.{flat_map}
use Rattle.geomops.specs.Crossings.{paired}
use Rattle.geomops.specs.Rects.{wide, Pushed}
use Rattle.geomops.specs.Pieces.{shared_part}
use Rattle.geomops.proofs.intersection.push_shared.Given as goal

abbrev pub invariant-loop-b0 : goal.invariant-loop-b0
invariant-loop-b0 l = Pushed (flat_map (λ b. wide (shared_part l.r b)) (take l.b0-index (paired l.bs))) l.initial.out l.out l.place (Ok l.next)
