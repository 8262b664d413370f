use Rattle.std.proofs.Common.{refl, ◌∙◌}
use Rattle.geomops.proofs.Laws.Pushing.{pushed_back, bands_none, bands_more, bands_stop, bands_all}
use Rattle.geomops.proofs.pieces.Rings.push_bands.Goals as goal

pub loop-y0-init : goal.loop-y0-init
loop-y0-init c =
    let from = c.array_windows-y0-items.ensures in
    let given = c.into_iter-y0-iterator.ensures.into_iter_gives in
    record { op = refl; a = refl; b = refl; pairs = rw given from.size; bands = rw (given, from.rest) (bands_none _ _ _) }

pub loop-y0-preserved : goal.loop-y0-preserved
loop-y0-preserved c =
    let inv = c.loop-y0.invariant in
    let same = c.push_band.ensures.same in
    let step = c.in-Some.ensures.steps in
    record {
      op = same.0 ∙ inv.op;
      a = same.1 ∙ inv.a;
      b = same.2 ∙ inv.b;
      pairs = step.0 ∙ inv.pairs;
      bands = bands_more inv.bands inv.pairs step.1.0 step.1.1 step.1.2 (rw (inv.op, inv.a, inv.b) at c.in_ok-next.ensures.pushed);
    }

pub returns-in_err-next : goal.returns-in_err-next
returns-in_err-next c =
    let inv = c.loop-y0.invariant in
    let step = c.in-Some.ensures.steps in
    pushed_back c.from_residual.ensures.0 (bands_stop inv.bands inv.pairs step.1.0 step.1.1 (rw (inv.op, inv.a, inv.b) at c.in_err-next.ensures.pushed))

pub returns : goal.returns
returns c = bands_all c.loop-y0.invariant.bands (rw c.loop-y0.invariant.pairs at c.in-None.ensures.steps.1.0)
