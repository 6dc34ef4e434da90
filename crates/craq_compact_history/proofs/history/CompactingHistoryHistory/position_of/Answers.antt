use Rattle.std.proofs.Common.{ℕ, ◌+◌, List, sym, ap, subst, ◌∙◌}
use Rattle.craq_commands.specs.declared.entry.Entry.{Entry}
use Rattle.craq_model.specs.Past.{last_position}
use Rattle.craq_node_invariant.specs.Sound.{AreInRow}
use Rattle.craq_client_index.specs.Indexed.{Tells}
use Rattle.craq_compact_history.proofs.history.CompactingHistoryHistory.position_of.Goals as goal

pub newest_of-requires-clause-tells : goal.newest_of-requires-clause-tells
newest_of-requires-clause-tells c = subst (λ (l : List Entry). Tells c.args.self.now.clients l) (sym c.unsettled.ensures.entries) c.args.self.now.reported

pub newest_of-requires-clause-in_row : goal.newest_of-requires-clause-in_row
newest_of-requires-clause-in_row c = subst (λ (n : ℕ). AreInRow (n + 1) c.unsettled.result.now) (sym c.args.self.now.reported_from) c.unsettled.ensures.in_row

pub returns : goal.returns
returns c =
    c.newest_of.ensures
    ∙ ap (λ (n : ℕ). last_position c.args.client n c.unsettled.result.now) c.args.self.now.reported_from
    ∙ ap (λ (l : List Entry). last_position c.args.client c.args.self.now.acknowledged l) c.unsettled.ensures.entries
