use Rattle.std.proofs.Common.{◌≡◌}
use Rattle.craq_event_loop.specs.Busy.{NoneForgotten}
use Rattle.craq_event_loop.proofs.Coming.{LookedBefore}
use Rattle.craq_event_loop.proofs.event_loop.LoopConnections.look_for_idle.Given as goal

abbrev pub invariant-loop-key : goal.invariant-loop-key
invariant-loop-key g l =
    (NoneForgotten l.fn.self → NoneForgotten l.self)
    × LookedBefore l.now l.fn.self.idle l.fn.self.connections l.self.connections l.key
    × (l.self.idle ≡ l.fn.self.idle)
    × (l.self.behind ≡ l.fn.self.behind)
