use Rattle.std.proofs.Common.{arith}
use Rattle.lists.proofs.Laws.Fills.{filling_step, filling_end}
use Rattle.lists.proofs.fill.Goals as goal

pub loop-i-preserved : goal.loop-i-preserved
loop-i-preserved g c = rw (c.MARK.ensures) (filling_step g.T.Marked.MARK c.loop-i.invariant (omega arith))

pub returns : goal.returns
returns g c = filling_end g.T.Marked.MARK c.loop-i.invariant (omega arith)
