use Rattle.craq_compact_history.specs.Stored.{stored}
use Rattle.craq_compact_history.proofs.Observed.{newest_reported}
use Rattle.craq_compact_history.proofs.history.CompactingHistoryHistory.versions.Goals as goal

pub returns-clause-newest : goal.returns-clause-newest
returns-clause-newest c = newest_reported (stored c.args.self.now.held.base c.args.self.now.held.state c.args.self.now.held.entries c.args.self.now.acknowledged) c.args.key.now _ c.seen-settled.ensures.newest
