use Rattle.craq_ghost_history.proofs.Prefixes.{comparable}
use Rattle.craq_ghost_history.proofs.token.Token.compare.Goals as goal

pub returns-clause-comparable : goal.returns-clause-comparable
returns-clause-comparable g c =
    comparable c.args.self.now c.args.other.now _ (rw c.again-all.ensures.copy at c.learn.ensures.this) (rw c.again-seen.ensures.copy at c.learn.ensures.that)
