-- `layout::rings::ring` meets its contract: the part between two neighbouring starts is the ring. Assumes nothing.
use mathlib.Core.Path.{sym}
use Prim.Native.Nat.{◌+◌}
use native.Mathlib.Omega.{arith}
use Rattle.layout.proofs.Laws.Rings.{ring_none, ring_between, starts_ordered, starts_inside}
use Rattle.layout.proofs.rings.ring.Goals as goal

pub returns-then-lengths-i : goal.returns-then-lengths-i
returns-then-lengths-i c = sym (ring_none _ _ _ c.if-lengths-i.true)

pub offset_bounds-points-starts : goal.offset_bounds-points-starts
offset_bounds-points-starts c =
    omega (arith, starts_ordered c.requires c.args.i c.if-lengths-i.false, starts_inside c.requires c.args.i c.if-lengths-i.false)

pub slice_bounds-result-count : goal.slice_bounds-result-count
slice_bounds-result-count c = starts_ordered c.requires _ c.if-lengths-i.false

pub slice_bounds-result-start : goal.slice_bounds-result-start
slice_bounds-result-start c = starts_ordered c.requires _ c.if-lengths-i.false

pub slice_bounds-result-end-2 : goal.slice_bounds-result-end-2
slice_bounds-result-end-2 c = starts_inside c.requires _ c.if-lengths-i.false

pub returns : goal.returns
returns c =
    let i = c.args.i in
    ring_between _ _ i c.if-lengths-i.false (c.requires.starting.each i (omega arith)) (c.requires.starting.each (i + 1) (omega arith))
