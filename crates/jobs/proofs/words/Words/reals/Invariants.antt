-- `jobs::words::Words::reals` meets its contract. Assumes nothing.
use Rattle.std.proofs.Common.{◌≡◌, ◌*◌, drop}
use Rattle.jobs.proofs.words.Words.reals.Given as goal

abbrev pub invariant-loop-x : goal.invariant-loop-x
invariant-loop-x l = l.self ≡ drop (17 * l.x-index) l.initial.self
