use Rattle.std.proofs.Common.{refl, sym, ◌∙◌}
use Rattle.craq_compact_history.specs.Stored.{stored}
use Rattle.craq_compact_history.proofs.Observed.{new_reported}
use Rattle.craq_compact_history.proofs.Others.{new_in_window}
use Rattle.craq_compact_history.proofs.history.CompactingHistory.is_new_later.Goals as goal

pub returns : goal.returns
returns c =
    c.is_new.ensures
    ∙ new_reported (stored c.args.self.now.held.base c.args.self.now.held.state c.args.self.now.held.entries c.args.self.now.acknowledged) c.args.later.now c.args.client c.args.number _ _ _ _ _ c.window-window.ensures.window c.entries.ensures refl c.slots-slots.ensures.slots (c.as_slice.ensures.value ∙ c.add_entries.ensures.slots)

pub returns-then-not-has_entry_of : goal.returns-then-not-has_entry_of
returns-then-not-has_entry_of c =
    c.is_new_to_window.ensures
    ∙ new_in_window (stored c.args.self.now.held.base c.args.self.now.held.state c.args.self.now.held.entries c.args.self.now.acknowledged) c.args.later.now c.args.client c.args.number c.window-window.result.now c.window-window.ensures.window (c.has_no_entry_of.ensures c.if-has_no_entry_of.true) (sym c.has_entry_of.ensures ∙ c.if-not-has_entry_of.true)
