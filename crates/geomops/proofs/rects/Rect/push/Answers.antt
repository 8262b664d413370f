-- `geomops::rects::Rect::push` meets its contract. Assumes nothing.
use Rattle.std.proofs.Common.{◌≡◌, ◌+◌, ◌*◌, ◌-◌, arith}
use Rattle.geomops.specs.Rects.{numbers_of}
use Rattle.geomops.proofs.Laws.Pushing.{pushed_full, pushed_one}
use Rattle.geomops.proofs.rects.Rect.push.Goals as goal

pub returns-then-out-place : goal.returns-then-out-place
returns-then-out-place c = pushed_full _ _ _ c.if-out-place.true

pub returns : goal.returns
unfolding numbers_of
returns c =
    let four : 4 * c.args.place + 4 - 4 * c.args.place ≡ 4 = omega arith in
    pushed_one _ _ _ (omega arith) (rw (c.copy_from_slice.ensures.after, four))
