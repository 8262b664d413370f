use Rattle.geomops.specs.Pieces.{pieces_of}
use Rattle.geomops.proofs.Laws.Pushing.{pushed_back, pairs_none, pairs_more, pairs_stop, pairs_all}
use Rattle.geomops.proofs.intersection.push_shared.Goals as goal

pub loop-b0-init : goal.loop-b0-init
loop-b0-init c = pairs_none _ c.args.bs.now _ _

pub loop-b0-preserved : goal.loop-b0-preserved
loop-b0-preserved c =
    pairs_more _ _ c.as_chunks.ensures.front c.loop-b0.invariant c.loop-b0-test.true (rw c.shared_part.ensures at c.in_ok-next.ensures)

pub returns : goal.returns
unfolding pieces_of
returns c = pairs_all _ _ c.as_chunks.ensures.front c.loop-b0.invariant c.loop-b0-test.false

pub returns-in_err-next : goal.returns-in_err-next
unfolding pieces_of
returns-in_err-next c =
    pushed_back c.from_residual.ensures.0 (pairs_stop _ _ c.as_chunks.ensures.front c.loop-b0.invariant c.loop-b0-test.true (rw c.shared_part.ensures at c.in_err-next.ensures))
