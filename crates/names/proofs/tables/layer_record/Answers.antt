use Rattle.std.proofs.Common.{rules, sym, length, get_or}
use Rattle.std.specs.Prelude.{pos}
use Rattle.std.proofs.iter.runs.Made.{chains}
use Rattle.lists.proofs.Laws.Scans.{first_by}
use Rattle.names.specs.Tables.{layer_record, int_same}
use Rattle.names.proofs.tables.layer_record.Goals as goal

pub returns : goal.returns
unfolding layer_record
returns c = sym (first_by (λ k. int_same (get_or c.args.numbers.now k (pos 0)) c.args.number) (length c.args.numbers.now) c.position.result (search (rules, chains)))
