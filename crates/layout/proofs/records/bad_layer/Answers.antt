use Rattle.std.proofs.Common.{rules}
use Rattle.std.specs.Prelude.{not}
use borrow.Author.Tests.{tests}
use Rattle.lists.proofs.Laws.Scans.{range_searched}
use Rattle.layout.specs.Records.{bad_layer, layer_allowed}
use Rattle.layout.proofs.records.bad_layer.Goals as goal

pub returns : goal.returns
unfolding bad_layer
returns c =
    rw (← c.count.ensures) (range_searched (λ k. not (layer_allowed c.args.table.numbers.now c.args.table.names.now k)) c.count.result _ _ c.find.result c.find.ensures.ran (λ x b q k. search (rules, tests)))
