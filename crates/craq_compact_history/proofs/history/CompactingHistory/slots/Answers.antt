use Rattle.std.proofs.Common.{◌-◌, refl}
use Rattle.craq_compact_history.proofs.Observed.{slots_reported}
use Rattle.craq_compact_history.proofs.history.CompactingHistory.slots.Goals as goal

pub returns-clause-slots : goal.returns-clause-slots
returns-clause-slots c =
    slots_reported c.args.self.now.held.state (c.args.self.now.acknowledged - c.args.self.now.held.base) c.args.client _ _ c.args.self.now.held.entries _ _ _ _ c.requires.window c.settled-settled.ensures c.unsettled.ensures.entries refl c.slots_after-slots.ensures.slots c.keep_replies.ensures.slots
