use mathlib.Core.Path.{sym}
use Rattle.names.proofs.Laws.Patterns.{matching_start, begins_too_long, begins_goes_on, begins_stops, begins_ends}
use Rattle.names.proofs.markers.begins_with.Goals as goal

pub returns-then-name-pattern : goal.returns-then-name-pattern
returns-then-name-pattern c = sym (begins_too_long _ _ c.if-name-pattern.true)

pub loop-i-init : goal.loop-i-init
loop-i-init c = matching_start _ _ c.if-name-pattern.false

pub returns-then-pattern-i : goal.returns-then-pattern-i
returns-then-pattern-i c = sym (begins_stops c.loop-i.invariant c.loop-i-test.true c.if-pattern-i.true)

pub loop-i-preserved : goal.loop-i-preserved
loop-i-preserved c = begins_goes_on c.loop-i.invariant c.loop-i-test.true c.if-pattern-i.false

pub returns : goal.returns
returns c = sym (begins_ends c.loop-i.invariant c.loop-i-test.false)
