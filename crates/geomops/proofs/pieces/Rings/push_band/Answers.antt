-- `geomops::pieces::Rings::push_band` meets its contract, by those of the functions that it calls. Assumes nothing.
use Rattle.std.proofs.Common.{arith}
use Rattle.lists.proofs.Laws.Front.{front_count, front_read}
use Rattle.geomops.proofs.Laws.Pieces.{band_flat, band_missed, band_spans}
use Rattle.geomops.proofs.Laws.Pushing.{pushed_none}
use Rattle.geomops.proofs.pieces.Rings.push_band.Goals as goal

pub returns-then-y1-y0-clause-pushed : goal.returns-then-y1-y0-clause-pushed
returns-then-y1-y0-clause-pushed c = rw (band_flat _ _ _ _ _ c.if-y1-y0.true) (pushed_none _ _)

pub returns-then-na-lt2-clause-pushed : goal.returns-then-na-lt2-clause-pushed
returns-then-na-lt2-clause-pushed c =
    let few = front_count c.x_intervals_at-na.ensures in
    rw (band_missed _ _ _ _ _ c.if-y1-y0.false c.line_between-y.ensures (front_read c.x_intervals_at-na.ensures) (omega arith)) (pushed_none _ _)

pub returns-clause-pushed : goal.returns-clause-pushed
returns-clause-pushed c =
    rw (band_spans _ _ _ _ _ c.if-y1-y0.false c.line_between-y.ensures (front_read c.x_intervals_at-na.ensures) (front_read c.covered_at-nb.ensures))
    c.push_spans.ensures
