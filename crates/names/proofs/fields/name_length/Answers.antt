use Rattle.std.proofs.Common.{rules, length, ap, ◌∙◌}
use borrow.Author.Tests.{tests}
use Rattle.std.specs.Option.{unwrap_or}
use Rattle.std.proofs.lemmas.Iterator.{YieldsList-from_slice}
use Rattle.std.proofs.lemmas.Iterator.Search.{position_from_yields_List}
use Rattle.names.specs.Fields.{is_zero}
use Rattle.names.proofs.Laws.Library.{name_ends}
use Rattle.names.proofs.fields.name_length.Goals as goal

pub returns : goal.returns
returns c =
    let found = position_from_yields_List is_zero _ _ c.position.result c.position.ensures.ran (YieldsList-from_slice c.args.field.now cc) (λ x b q k. search (rules, tests)) in
    c.unwrap_or.ensures ∙ ap (λ o. unwrap_or o (length c.args.field.now)) found ∙ name_ends c.args.field.now
