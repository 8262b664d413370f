-- `own_parents` meets its contract: `from_fn` puts each number at its own place.
use Rattle.std.proofs.Common.{rules}
use Rattle.union_find.specs.Forest.{max_polygons}
use Rattle.union_find.proofs.Laws.Forest.{count_up_only}
use Rattle.union_find.proofs.forest.own_parents.Goals as goal

pub returns : goal.returns
returns c =
    let made = c.from_fn.ensures.items in
    count_up_only c.from_fn.result max_polygons made.long (λ k h. let (f, g, called) = made.at k 0 h in search rules)
