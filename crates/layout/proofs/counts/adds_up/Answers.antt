use mathlib.Core.Path.{sym}
use native.Mathlib.Omega.{arith}
use borrow.Author.Tests.{ne_eqb}
use Rattle.layout.proofs.Laws.Counting.{adding_start, adding_stops, adding_on, adding_ends}
use Rattle.layout.proofs.counts.adds_up.Goals as goal

pub loop-ring-init : goal.loop-ring-init
loop-ring-init c = adding_start _ _

pub returns-in_default : goal.returns-in_default
returns-in_default c = sym (ne_eqb _ _ (adding_stops c.loop-ring.invariant c.loop-ring-test.true (omega (arith, c.in_default.ensures))))

pub loop-ring-preserved : goal.loop-ring-preserved
loop-ring-preserved c = adding_on c.loop-ring.invariant c.loop-ring-test.true (omega (arith, c.in-Some.ensures))

pub returns : goal.returns
returns c = adding_ends c.loop-ring.invariant (omega arith)
