use Rattle.std.proofs.Common.{List, subst}
use Rattle.craq_seat.specs.declared.queue_state.Completion.{Completion}
use Rattle.craq_event_loop.specs.Belonging.{DeliversAll}
use Rattle.craq_event_loop.proofs.event_loop.LoopConnections.take_completions.Goals as goal

pub returns-clause-delivered : goal.returns-clause-delivered
returns-clause-delivered g c = (
  c.take_completions.new.into.items,
  c.take_completions.ensures,
  subst (λ (x : List (Completion g.row.P.Denot)). DeliversAll (g.H.AsyncBackend.finishes c.args.backend.now) x c.args.self.now.connections c.deliver_all.new.self.connections)
      c.reverse.ensures.items c.deliver_all.ensures.delivered,
)

pub returns-clause-kept : goal.returns-clause-kept
returns-clause-kept g c k = c.deliver_all.ensures.kept (record { listed = k.listed; behind = k.behind })
