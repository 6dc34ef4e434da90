use Rattle.craq_versions.proofs.Placed.{none_placed, some_placed}
use Rattle.craq_versions.proofs.table.ObjectTable.place_of.Goals as goal

pub returns-clause-none : goal.returns-clause-none
returns-clause-none g c =
    let m = c.self.inside.lists in
    rw (← c.self.view_is) (none_placed m c.args.key.now c.find.result c.find.ensures.none)

pub returns-clause-some : goal.returns-clause-some
returns-clause-some g c =
    let m = c.self.inside.lists in
    rw (← c.self.view_is) (some_placed m c.args.key.now c.find.result c.find.ensures.some)
