use Rattle.std.proofs.Common.{◌-◌, ◌^◌, length, min, sym, ap, ◌∙◌}
use Rattle.craq_commands.specs.declared.state.State.{State}
use Rattle.craq_node_invariant.proofs.CompactedPasts.{compacted_newest}
use Rattle.craq_compact_history.specs.Stored.{stored}
use Rattle.craq_compact_history.proofs.history.CompactingHistory.objects.Goals as goal

pub returns : goal.returns
returns c =
    c.args.self.now.counted
    ∙ ap (λ (s : State). min (length s.objects) (2 ^ 64 - 1)) (sym (compacted_newest (stored c.args.self.now.held.base c.args.self.now.held.state c.args.self.now.held.entries c.args.self.now.acknowledged)))
