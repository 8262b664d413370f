use Rattle.std.proofs.Common.{rules, ◌∙◌}
use borrow.Author.Tests.{tests}
use Rattle.std.proofs.lemmas.Iterator.{YieldsList-from_slice}
use Rattle.std.proofs.lemmas.Iterator.Search.{all_from_yields_List}
use Rattle.names.specs.Fields.{visible}
use Rattle.names.proofs.Laws.Library.{all_is}
use Rattle.names.proofs.fields.all_visible.Goals as goal

pub returns : goal.returns
returns c =
    all_from_yields_List visible _ _ _ c.all.ensures.ran (YieldsList-from_slice c.args.bytes.now cc) (λ x b q k. search (rules, tests)) ∙ all_is visible c.args.bytes.now
