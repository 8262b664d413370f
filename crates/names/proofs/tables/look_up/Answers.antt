use Rattle.std.proofs.Common.{rules, sym, ◌≡◌, ◌∙◌, ◌*◌, arith}
use borrow.Author.Tests.{tests}
use Rattle.lists.proofs.Laws.Scans.{range_searched}
use Rattle.names.specs.Fields.{same_field}
use Rattle.names.specs.Tables.{look_up}
use Rattle.names.proofs.Laws.Tables.{no_records}
use Rattle.names.proofs.tables.look_up.Goals as goal

pub returns-in_err-records : goal.returns-in_err-records
returns-in_err-records c =
    let none : c.args.width ≡ 0 = omega (arith, c.in_err-records.ensures) in
    c.from_residual.ensures ∙ sym (no_records c.args.table.now c.args.key.table.now c.args.key.at none)

pub returns : goal.returns
unfolding look_up
returns c =
    rw (← (c.in_ok-records.ensures).1)
    (range_searched (λ k. same_field c.args.table.now (k * c.args.width) c.args.key.table.now c.args.key.at) c.in_ok-records.records _ _ c.find.result c.find.ensures.ran (λ x b q k. search (rules, tests)))
