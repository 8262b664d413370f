-- `geomops::pieces::pieces_between` meets its contract, by that of `push_bands`. Assumes nothing.
use Rattle.std.proofs.Common.{sym}
use Rattle.geomops.proofs.Laws.Pieces.{pieces_none, pieces_bands}
use Rattle.geomops.proofs.Laws.Pushing.{pieced_none, pieced_pushed}
use Rattle.geomops.proofs.pieces.pieces_between.Goals as goal

pub returns-then-not-has_pieces : goal.returns-then-not-has_pieces
returns-then-not-has_pieces c = rw (pieces_none _ _ _ c.args.ys.now (sym c.if-not-has_pieces.ensures)) (pieced_none _)

pub returns : goal.returns
returns c = rw (pieces_bands _ _ _ c.args.ys.now (sym c.if-not-has_pieces.ensures)) (pieced_pushed c.push_bands.ensures)
