use Rattle.craq_log.proofs.Stored.{row_after, rest_taken}
use Rattle.craq_log.proofs.suffix.Suffix.from.Goals as goal

pub returns-clause-in_row : goal.returns-clause-in_row
returns-clause-in_row c =
    let held = rw (← c.self.view_is) at c.requires.held in
    rw (c.as_slice.ensures.value, c.get.ensures, rest_taken)
    (row_after c.self.inside.start c.self.inside.settled c.args.position c.self.inside.entries.items c.self.invariant.0 held)
