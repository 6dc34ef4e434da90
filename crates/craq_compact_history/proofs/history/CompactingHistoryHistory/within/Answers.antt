use Rattle.std.proofs.Common.{◌+◌, ◌∙◌}
use Rattle.craq_compact_history.specs.Stored.{stored}
use Rattle.craq_compact_history.proofs.Observed.{within_reported}
use Rattle.craq_compact_history.proofs.history.CompactingHistoryHistory.within.Goals as goal

pub returns-clause-object : goal.returns-clause-object
returns-clause-object c = c.object_up_to.ensures.object ∙ within_reported (stored c.args.self.now.held.base c.args.self.now.held.state c.args.self.now.held.entries c.args.self.now.acknowledged) c.args.key.now (c.args.version + c.args.above) _ _ c.clean-clean.ensures.object c.unsettled.ensures.entries
