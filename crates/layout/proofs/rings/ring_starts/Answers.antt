use mathlib.Core.Path.{refl}
use native.Mathlib.Omega.{arith}
use Rattle.layout.proofs.Laws.Rings.{starting_none, starting_on, starting_ends, start_within}
use Rattle.layout.proofs.rings.ring_starts.Goals as goal

pub loop-i-init : goal.loop-i-init
loop-i-init c = starting_none _ _

pub overflow_mul-at : goal.overflow_mul-at
overflow_mul-at c = omega (arith, start_within c.args.lengths.now c.loop-i.i, c.requires.1)

pub overflow_add-at : goal.overflow_add-at
overflow_add-at c = omega (arith, start_within c.args.lengths.now c.loop-i.i, c.requires.1)

pub loop-i-preserved : goal.loop-i-preserved
loop-i-preserved c = starting_on c.loop-i.invariant c.requires.0 c.loop-i-test.true refl

pub returns : goal.returns
returns c = starting_ends c.loop-i.invariant c.requires.0 (omega arith)
