-- `jobs::words::Words::reals` meets its contract. Assumes nothing.
use Rattle.std.proofs.Common.{◌≡◌, ◌+◌, ◌*◌, arith}
use Rattle.std.proofs.lemmas.List.{drop-drop}
use Rattle.jobs.proofs.words.Words.reals.Goals as goal

pub loop-x-preserved : goal.loop-x-preserved
loop-x-preserved c =
    let more : 17 * c.loop-x.x-index + 17 ≡ 17 * (c.loop-x.x-index + 1) = omega arith in
    rw (c.real.ensures, c.loop-x.invariant, drop-drop, more)
