use mathlib.Core.Logic.{◌≢◌}
use mathlib.Core.Path.{refl, sym, ◌∙◌}
use native.Mathlib.Omega.{arith}
use Rattle.union_find.proofs.Laws.Forest.{root_inside}
use Rattle.union_find.proofs.Laws.Compression.{pointing_none, pointing_less, pointing_more, pointing_done}
use Rattle.union_find.proofs.Laws.Ranks.{well_rooted, pointed_well}
use Rattle.union_find.proofs.UnionFind.point_at.Goals as goal
use Rattle.union_find.proofs.UnionFind.point_at.Goals.{After-parent_of-next}

-- in a turn c is no root
no_root : (c : After-parent_of-next) → c.parent_of-next.result ≢ c.loop-c.c
no_root c e = c.loop-c-test.true (c.parent_of.ensures.parent ∙ sym c.parent_of-next.ensures.parent ∙ e)

pub loop-c-init : goal.loop-c-init
loop-c-init c =
    record {
      pointing = pointing_none _ _ _ (well_rooted _ c.args.self.now.well_formed) c.requires.0 c.requires.1;
      ranks = refl;
    }

pub overflow_cast-self : goal.overflow_cast-self
overflow_cast-self c =
    let at = c.loop-c.invariant.pointing in
    omega (arith, at.root, root_inside _ at.rooted c.loop-c.c at.inside)

pub invariant_of-self : goal.invariant_of-self
invariant_of-self c =
    let at = c.loop-c.invariant.pointing in
    record { well_formed = rw at.root (pointed_well _ c.loop-c.self.well_formed c.loop-c.c at.inside) }

pub loop-c-smaller : goal.loop-c-smaller
loop-c-smaller c =
    pointing_less _ _ _ _ _ c.loop-c.invariant.pointing _ c.parent_of-next.ensures.parent (no_root (goal.at.loop-c-smaller c).After-parent_of-next)

pub loop-c-preserved : goal.loop-c-preserved
loop-c-preserved c =
    let at = c.loop-c.invariant in
    record {
      pointing = pointing_more _ _ _ _ _ at.pointing _ c.parent_of-next.ensures.parent (no_root (goal.at.loop-c-preserved c).After-parent_of-next);
      ranks = at.ranks;
    }

pub returns : goal.returns
returns c =
    let at = c.loop-c.invariant in
    rw (← at.ranks, ← pointing_done _ _ _ _ _ at.pointing (sym c.parent_of.ensures.parent ∙ c.loop-c-test.false)) refl
