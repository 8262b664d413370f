-- Of each way out one law says which sides of the rectangle there are. Assumes nothing.
use mathlib.Core.Path.{sym}
use Rattle.geomops.proofs.Laws.Pushing.{pushed_none, pushed_more, pushed_stop, pushed_back}
use Rattle.geomops.proofs.Laws.Taking.{left_short, left_apart, left_first, left_both, left_below, left_above, left_nothing}
use Rattle.geomops.proofs.minus.+push_left.Goals as goal

pub returns-in_default : goal.returns-in_default
returns-in_default t c = rw (left_short c.args.bs.now c.args.r c.in_default.len_below) c.push_wide.ensures

pub returns-then-apart : goal.returns-then-apart
returns-then-apart t c =
    rw (left_apart c.args.bs.now c.args.r c.in-len2-up.len_at_least (sym c.if-apart.ensures)) c.push_left.ensures

pub returns-then-b1-r : goal.returns-then-b1-r
returns-then-b1-r t c =
    rw (left_both c.args.bs.now c.args.r c.in-len2-up.len_at_least (sym c.if-apart.ensures) c.if-b0-r.true c.if-b1-r.true) (pushed_more c.in_ok-next.ensures _ c.push_left-then-b1-r.ensures)

pub returns-then-b0-r : goal.returns-then-b0-r
returns-then-b0-r t c =
    rw (left_below c.args.bs.now c.args.r c.in-len2-up.len_at_least (sym c.if-apart.ensures) c.if-b0-r.true c.if-b1-r.false) c.in_ok-next.ensures

pub returns-then-b1-r-2 : goal.returns-then-b1-r-2
returns-then-b1-r-2 t c =
    rw (left_above c.args.bs.now c.args.r c.in-len2-up.len_at_least (sym c.if-apart.ensures) c.if-b0-r.false c.if-b1-r-2.true) c.push_left-then-b1-r-2.ensures

pub returns : goal.returns
returns t c =
    rw (left_nothing c.args.bs.now c.args.r c.in-len2-up.len_at_least (sym c.if-apart.ensures) c.if-b0-r.false c.if-b1-r-2.false) (pushed_none _ _)

pub returns-in_err-next : goal.returns-in_err-next
returns-in_err-next t c =
    rw (left_first c.args.bs.now c.args.r c.in-len2-up.len_at_least (sym c.if-apart.ensures) c.if-b0-r.true) (pushed_back c.from_residual.ensures.0 (pushed_stop c.in_err-next.ensures _))
