-- `jobs::words::Words::number` meets its contract. Assumes nothing.
use Rattle.std.proofs.Common.{◌≤◌, ◌∙◌, sym, arith, slice_index_or}
use Rattle.std.specs.Char.{digit_value}
use Rattle.jobs.proofs.Digits.{worth_digit, behind_digit, digit_there, worth_stops, behind_stops}
use Rattle.jobs.proofs.words.Words.number.Goals as goal

pub loop-d-smaller : goal.loop-d-smaller
loop-d-smaller c = rw (c.byte.ensures.rest) (digit_there c.loop-d.self (rw (c.from.ensures, c.byte.ensures.value) at c.in-Some.ensures.value.0))

pub loop-d-preserved : goal.loop-d-preserved
loop-d-preserved c =
    let digit = rw (c.from.ensures, c.byte.ensures.value) at c.in-Some.ensures.value in
    rw (c.byte.ensures.rest, digit.1)
    (omega (arith, digit.0), worth_digit c.loop-d.value c.loop-d.self digit.0 ∙ c.loop-d.invariant.1, behind_digit c.loop-d.self digit.0 ∙ c.loop-d.invariant.2)

pub returns-clause-value : goal.returns-clause-value
returns-clause-value c =
    let none : 10 ≤ digit_value (slice_index_or c.loop-d.self 0 32) = rw (← c.byte.ensures.value, ← c.from.ensures) (omega (arith, c.in_default.ensures.value)) in
    sym (worth_stops c.loop-d.value c.loop-d.self c.loop-d.invariant.0 none) ∙ c.loop-d.invariant.1

pub returns-clause-rest : goal.returns-clause-rest
returns-clause-rest c =
    let none : 10 ≤ digit_value (slice_index_or c.loop-d.self 0 32) = rw (← c.byte.ensures.value, ← c.from.ensures) (omega (arith, c.in_default.ensures.value)) in
    c.byte.ensures.rest ∙ sym (behind_stops c.loop-d.self none) ∙ c.loop-d.invariant.2
