-- `geomops::rects::Rect::push_wide` meets its contract, by that of `push`. Assumes nothing.
use Rattle.geomops.proofs.Laws.Pushing.{pushed_none, wide_one, wide_none}
use Rattle.geomops.proofs.rects.Rect.push_wide.Goals as goal

pub returns-then-self : goal.returns-then-self
returns-then-self c = rw (wide_one c.args.self c.if-self.true) c.push.ensures

pub returns : goal.returns
returns c = rw (wide_none c.args.self c.if-self.false) (pushed_none _ _)
