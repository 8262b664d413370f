use Rattle.std.proofs.Common.{lt-ltb, le-ltb, arith}
use Rattle.geometry.specs.Area.{signed_area_of}
use Rattle.geometry.proofs.Laws.Area.{sum_first, sum_next, sum_last}
use Rattle.geometry.proofs.area.polygon_signed_area.Goals as goal

pub returns-then-n-lt3 : goal.returns-then-n-lt3
unfolding signed_area_of
returns-then-n-lt3 c = rw (lt-ltb _ 3 c.if-n-lt3.true)

pub loop-i-init : goal.loop-i-init
loop-i-init c = sum_first _ (omega arith) c.point_at-first.ensures

pub loop-i-preserved : goal.loop-i-preserved
loop-i-preserved c = sum_next c.loop-i.invariant c.cross-sum.ensures c.loop-i-test.true c.point_at-next.ensures

pub returns : goal.returns
unfolding signed_area_of
returns c =
    rw (le-ltb _ 3 c.if-n-lt3.false, sum_last c.loop-i.invariant c.cross.ensures c.loop-i-test.false c.point_at-first.ensures)
