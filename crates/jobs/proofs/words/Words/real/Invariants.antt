-- `jobs::words::Words::real` meets its contract. Assumes nothing.
use Rattle.std.proofs.Common.{◌≡◌, drop}
use Rattle.jobs.proofs.words.Words.real.Given as goal

abbrev pub invariant-loop : goal.invariant-loop
invariant-loop l = l.self ≡ drop l.counter l.initial.self
