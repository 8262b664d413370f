use Prim.Native.Nat.{◌<◌}
use native.Mathlib.Omega.{arith}
use lib.ListN.{length}
use Rattle.union_find.specs.Forest.{root_of}
use Rattle.union_find.specs.Numbering.{conducts_in}
use Rattle.union_find.proofs.Laws.NewRoots.{new_below_at_most}
use Rattle.union_find.proofs.Laws.Numbers.{numbering_none, numbering_marks, numbering_knows, numbering_adds}
use Rattle.union_find.proofs.number.number_components.Goals as goal
use Rattle.union_find.proofs.number.number_components.Goals.{in-Some, in_default}

pub loop-i-init : goal.loop-i-init
loop-i-init c = numbering_none _ _ _

pub loop-i-preserved-then-not-conducts-i : goal.loop-i-preserved-then-not-conducts-i
loop-i-preserved-then-not-conducts-i c =
    numbering_marks _ _ _ _ _ _ _ c.loop-i.invariant (omega (arith, c.requires.n_in_bounds.1)) c.if-not-conducts-i.true

pub overflow_add-next : goal.overflow_add-next
overflow_add-next c =
    let at = c.loop-i in
    omega (arith, at.invariant.counted, new_below_at_most (root_of c.args.table.table.parent) (conducts_in c.args.conducts.now) at.i)

pub loop-i-preserved : goal.loop-i-preserved
loop-i-preserved c =
    let room : c.loop-i.i < length c.args.components.now = omega (arith, c.requires.n_in_bounds.1) in
    let root = c.root_above-root.ensures.root in
    let inside = rw root at c.root_above-root.ensures.inside in
    elim c.match-numbers-root.branch [
      | in-Some w ↦
          rw (w.components-is, w.numbers-is, w.next-is)
          (numbering_knows _ _ _ _ _ _ _ c.loop-i.invariant room c.if-not-conducts-i.false inside _ (rw root at w.in-Some.is))
      | in_default w ↦
          rw (w.components-is, w.numbers-is, w.next-is, root)
          (numbering_adds _ _ _ _ _ _ _ c.loop-i.invariant room c.if-not-conducts-i.false inside (rw root at w.in_default.is))
    ]
