use Rattle.craq_log.proofs.Stored.{stored_more, trimmed_more}
use Rattle.craq_log.proofs.suffix.Suffix.append_all.Goals as goal

pub invariant_of-self-2 : goal.invariant_of-self-2
invariant_of-self-2 c =
    let fits = rw (← c.self.view_is) at c.requires.fits in
    let in_row = rw (← c.self.view_is) at c.requires.in_row in
    let more = c.in_ok-append.ensures.items in
    rw (more, c.into_vec-more.ensures)
    (stored_more c.self.inside.start c.self.inside.settled c.self.inside.entries.items c.args.entries c.self.invariant.0 fits in_row, trimmed_more c.self.inside.settled c.self.inside.entries.items c.args.entries c.self.invariant.1)
