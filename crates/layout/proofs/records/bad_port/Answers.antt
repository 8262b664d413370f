use Rattle.std.proofs.Common.{rules}
use Rattle.std.specs.Prelude.{not}
use borrow.Author.Tests.{tests}
use Rattle.lists.proofs.Laws.Scans.{range_searched}
use Rattle.layout.specs.Records.{bad_port, port_allowed}
use Rattle.layout.proofs.records.bad_port.Goals as goal

pub returns : goal.returns
unfolding bad_port
returns c =
    rw (← c.port_count.ensures) (range_searched (λ k. not (port_allowed c.args.names.now c.args.coordinates k)) c.port_count.result _ _ c.find.result c.find.ensures.ran (λ x b q k. search (rules, tests)))
