use mathlib.Core.Path.{sym, ◌∙◌}
use Rattle.names.proofs.Laws.Patterns.{looking_start, contains_here, contains_goes_on, contains_ends}
use Rattle.names.proofs.markers.contains_pattern.Goals as goal

pub loop-at-init : goal.loop-at-init
loop-at-init c = looking_start _ _

pub returns-then-begins_with : goal.returns-then-begins_with
returns-then-begins_with c =
    sym (contains_here c.loop-at.invariant c.loop-at-test.true (sym c.begins_with.ensures ∙ c.if-begins_with.true))

pub loop-at-preserved : goal.loop-at-preserved
loop-at-preserved c =
    contains_goes_on c.loop-at.invariant c.loop-at-test.true (sym c.begins_with.ensures ∙ c.if-begins_with.false)

pub returns : goal.returns
returns c = c.is_empty.ensures ∙ sym (contains_ends c.loop-at.invariant c.loop-at-test.false)
