-- `jobs::words::Words::number` meets its contract. Assumes nothing.
use Rattle.std.proofs.Common.{◌≡◌, ◌<◌, length}
use Rattle.jobs.specs.Number.{number_of, behind_number}
use Rattle.jobs.proofs.Digits.{worth}
use Rattle.jobs.proofs.words.Words.number.Given as goal

abbrev pub invariant-loop-d : goal.invariant-loop-d
invariant-loop-d l = (l.value < 1000000000) × (worth l.value l.self ≡ number_of l.initial.self) × (behind_number l.self ≡ behind_number l.initial.self)

abbrev pub decreases-loop-d : goal.decreases-loop-d
decreases-loop-d l = length l.self
