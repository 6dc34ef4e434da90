use Rattle.craq_log.proofs.Stored.{stored_until}
use Rattle.craq_log.proofs.suffix.Suffix.acknowledge.Goals as goal

pub trim-requires : goal.trim-requires
trim-requires c =
    let held = rw (← c.self.view_is) at c.requires.held in
    let known = rw (← c.self.view_is) at c.requires.known in
    rw (c.get.ensures)
    (stored_until c.self.inside.start c.self.inside.settled c.args.position c.self.inside.entries.items c.self.invariant.0 held known)
