use mathlib.Core.Path.{sym, ◌∙◌}
use Rattle.union_find.proofs.Laws.Operations.{polygons_rest, joins_first, joins_none}
use Rattle.union_find.proofs.UnionFind.union_pairs.Goals as goal

pub loop-pair-preserved : goal.loop-pair-preserved
loop-pair-preserved c =
    let at = c.loop-pair.invariant in
    let (size, (cut, long), rem) = c.in-Some.ensures.steps in
    let two = long ∙ at.two in
    record {
      two = size ∙ at.two;
      inside = polygons_rest c.in-Some.pair.now _ two (rw cut at at.inside);
      left = rw c.join.ensures (sym (joins_first c.in-Some.pair.now _ _ two) ∙ (rw cut at at.left));
    }

pub returns : goal.returns
returns c =
    let at = c.loop-pair.invariant in
    let (size, (few, same), rem) = c.in-None.ensures.steps in
    sym (joins_none _ _ (rw at.two at few)) ∙ at.left
