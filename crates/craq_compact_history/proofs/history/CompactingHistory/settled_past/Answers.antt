use Rattle.std.proofs.Common.{◌∙◌}
use Rattle.craq_compact_history.specs.Stored.{stored}
use Rattle.craq_compact_history.proofs.Observed.{clean_reported}
use Rattle.craq_compact_history.proofs.history.CompactingHistory.settled_past.Goals as goal

pub returns-clause-object : goal.returns-clause-object
returns-clause-object c =
    c.object_past.ensures.object ∙ clean_reported (stored c.args.self.now.held.base c.args.self.now.held.state c.args.self.now.held.entries c.args.self.now.acknowledged) c.args.key.now _ _ c.requires.found c.settled.ensures
