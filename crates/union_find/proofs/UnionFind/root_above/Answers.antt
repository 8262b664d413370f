use mathlib.Core.Path.{sym, ◌∙◌}
use Rattle.union_find.proofs.Laws.Forest.{root_step, root_at_root, steps_less}
use Rattle.union_find.proofs.Laws.Ranks.{well_rooted}
use Rattle.union_find.proofs.UnionFind.root_above.Goals as goal

pub loop-r-smaller : goal.loop-r-smaller
loop-r-smaller c =
    rw c.parent_of-r.ensures.parent
    (steps_less _ (well_rooted _ c.args.self.now.well_formed) c.loop-r.r (λ e. c.loop-r-test.true (c.parent_of.ensures.parent ∙ e)))

pub loop-r-preserved : goal.loop-r-preserved
loop-r-preserved c =
    let at = c.loop-r in
    let up = c.parent_of-r.ensures in
    (up.inside, rw up.parent (root_step _ (well_rooted _ c.args.self.now.well_formed) at.r ∙ at.invariant.1))

pub returns : goal.returns
returns c =
    let at = c.loop-r in
    record {
      root = sym (root_at_root _ at.r (sym c.parent_of.ensures.parent ∙ c.loop-r-test.false)) ∙ at.invariant.1;
      inside = at.invariant.0;
    }
