use Rattle.std.proofs.Common.{◌∙◌}
use Rattle.craq_model.specs.Past.{values_after}
use Rattle.craq_compact_history.specs.Stored.{stored}
use Rattle.craq_compact_history.proofs.Observed.{version_reported}
use Rattle.craq_compact_history.proofs.Versions.{version_of_last}
use Rattle.craq_compact_history.proofs.history.CompactingHistory.version_later.Goals as goal

pub returns : goal.returns
returns c = c.version_past.ensures ∙ version_of_last _ (values_after c.args.later.now c.args.key.now) ∙ version_reported (stored c.args.self.now.held.base c.args.self.now.held.state c.args.self.now.held.entries c.args.self.now.acknowledged) c.args.later.now c.args.key.now _ c.newest-newest.ensures.object
