use Rattle.std.proofs.Common.{rules, sym, length, get_or}
use Rattle.std.specs.Prelude.{not}
use Rattle.std.specs.Float.{nan}
use Rattle.std.proofs.iter.runs.Made.{chains}
use Rattle.lists.proofs.Laws.Scans.{first_by}
use Rattle.geometry.specs.Coordinates.{coordinate}
use Rattle.layout.specs.Coordinates.{bad_coordinate}
use Rattle.layout.proofs.coordinates.bad_coordinate.Goals as goal

pub returns : goal.returns
unfolding bad_coordinate
returns c = sym (first_by (λ i. not (coordinate (get_or c.args.list.now i nan))) (length c.args.list.now) c.position.result (search (rules, chains)))
