use Rattle.std.proofs.Common.{rules}
use Rattle.std.specs.Prelude.{not}
use borrow.Author.Tests.{tests}
use Rattle.lists.proofs.Laws.Scans.{range_searched}
use Rattle.layout.specs.Records.{bad_stack, stack_allowed}
use Rattle.layout.proofs.records.bad_stack.Goals as goal

pub returns : goal.returns
unfolding bad_stack
returns c =
    rw (← c.record_count.ensures) (range_searched (λ k. not (stack_allowed c.args.table.now k)) c.record_count.result _ _ c.find.result c.find.ensures.ran (λ x b q k. search (rules, tests)))
