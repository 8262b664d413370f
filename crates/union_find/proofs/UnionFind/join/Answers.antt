-- `join` meets its contract: it is `joined` by its steps.
use mathlib.Core.Path.{◌≡◌}
use Rattle.union_find.specs.Table.{joined}
use Rattle.union_find.proofs.Laws.Joins.{joined_unites, joined_by_steps}
use Rattle.union_find.proofs.UnionFind.join.Goals as goal
use Rattle.union_find.proofs.UnionFind.join.Goals.{After-link}

made : (c : After-link) → c.link.new.self ≡ joined c.args.self.now.table c.args.a c.args.b
made c =
    let first = c.look_up-a.ensures in
    let second = c.look_up-b.ensures in
    joined_by_steps _ c.args.self.now.well_formed _ _ c.requires.0 c.requires.1 _ _ _ _ _ first.root first.table second.root second.table
    c.link.ensures

pub link-requires : goal.link-requires
link-requires c = (c.look_up-a.ensures.inside, (c.look_up-b.ensures.inside, c.look_up-b.new.self.well_formed.low _))

pub invariant_of-self : goal.invariant_of-self
invariant_of-self c =
    record { well_formed = rw (made c) (joined_unites _ c.args.self.now.well_formed _ _ c.requires.0 c.requires.1).well }

pub returns : goal.returns
returns c = made (goal.at.returns c).After-link
