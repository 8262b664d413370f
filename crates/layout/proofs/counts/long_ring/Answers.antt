use Rattle.std.proofs.Common.{rules, sym, length, get_or}
use Rattle.std.specs.Prelude.{ltb}
use Rattle.std.proofs.iter.runs.Made.{chains}
use Rattle.lists.proofs.Laws.Scans.{first_by}
use Rattle.layout.specs.Bounds.{max_ring}
use Rattle.layout.specs.Counts.{long_ring}
use Rattle.layout.proofs.counts.long_ring.Goals as goal

pub returns : goal.returns
unfolding long_ring
returns c = sym (first_by (λ i. ltb max_ring (get_or c.args.lengths.now i 0)) (length c.args.lengths.now) c.position.result (search (rules, chains)))
