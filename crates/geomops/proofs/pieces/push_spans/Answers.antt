use Rattle.geomops.proofs.Laws.Pushing.{pushed_back, pairs_none, pairs_more, pairs_stop, pairs_all}
use Rattle.geomops.proofs.pieces.push_spans.Goals as goal

pub loop-x0-init : goal.loop-x0-init
loop-x0-init c = pairs_none _ c.args.xs.now _ _

pub loop-x0-preserved : goal.loop-x0-preserved
loop-x0-preserved c = pairs_more _ _ c.as_chunks.ensures.front c.loop-x0.invariant c.loop-x0-test.true c.in_ok-next.ensures

pub returns : goal.returns
returns c = pairs_all _ _ c.as_chunks.ensures.front c.loop-x0.invariant c.loop-x0-test.false

pub returns-in_err-next : goal.returns-in_err-next
returns-in_err-next c =
    pushed_back c.from_residual.ensures.0 (pairs_stop _ _ c.as_chunks.ensures.front c.loop-x0.invariant c.loop-x0-test.true c.in_err-next.ensures)
