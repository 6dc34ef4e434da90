use Rattle.std.proofs.Common.{◌∙◌}
use Rattle.craq_compact_history.specs.Stored.{stored}
use Rattle.craq_compact_history.proofs.Observed.{said_reported}
use Rattle.craq_compact_history.proofs.Others.{said_in_window}
use Rattle.craq_compact_history.proofs.history.CompactingHistoryHistory.said.Goals as goal

pub returns : goal.returns
returns c = c.said_in.ensures ∙ said_reported (stored c.args.self.now.held.base c.args.self.now.held.state c.args.self.now.held.entries c.args.self.now.acknowledged) c.args.client c.args.number _ _ _ c.window-window.ensures.window c.entries.ensures (c.as_slice.ensures.value ∙ c.slots-slots.ensures.slots)

pub returns-then-has_no_entry_of : goal.returns-then-has_no_entry_of
returns-then-has_no_entry_of c = c.look_in.ensures.reply ∙ said_in_window (stored c.args.self.now.held.base c.args.self.now.held.state c.args.self.now.held.entries c.args.self.now.acknowledged) c.args.client c.args.number c.window-window.result.now c.window-window.ensures.window (c.has_no_entry_of.ensures c.if-has_no_entry_of.true)
