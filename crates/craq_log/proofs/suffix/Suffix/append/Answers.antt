use Rattle.std.proofs.Common.{[], ◌∷◌, arith}
use Rattle.craq_log.proofs.Stored.{stored_one, trimmed_more}
use Rattle.craq_log.proofs.suffix.Suffix.append.Goals as goal

pub invariant_of-self-2 : goal.invariant_of-self-2
invariant_of-self-2 c =
    let next = rw (← c.self.view_is) at c.requires in
    rw (c.push_reserved.ensures.items, c.reserve.ensures.items)
    (stored_one c.self.inside.start c.self.inside.settled c.self.inside.entries.items c.args.entry c.self.invariant.0 next (omega arith), trimmed_more c.self.inside.settled c.self.inside.entries.items (c.args.entry ∷ []) c.self.invariant.1)
