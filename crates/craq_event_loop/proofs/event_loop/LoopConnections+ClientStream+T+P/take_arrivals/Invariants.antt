use Rattle.std.proofs.Common.{◌≡◌}
use Rattle.craq_event_loop.specs.SubmittedCalls.{called_by}
use Rattle.craq_event_loop.specs.Busy.{NoneForgotten}
use Rattle.craq_event_loop.specs.Coming.{PresentStay}
use Rattle.craq_event_loop.specs.Reaching.{StayReachable}
use Rattle.craq_event_loop.proofs.event_loop.LoopConnections+ClientStream+T+P.take_arrivals.Given as goal

abbrev pub invariant-loop : goal.invariant-loop
invariant-loop g l =
    NoneForgotten l.fn.self
    → NoneForgotten l.self × PresentStay l.fn.self.connections l.self.connections
    × StayReachable g.H.LoopBackend.is_new (g.H.Backend.tells l.fn.backend) (g.H.Backend.refuses l.fn.backend) (called_by (g.H.AsyncBackend.submits l.fn.backend) (g.H.AsyncBackend.finishes l.fn.backend)) (g.H.AsyncBackend.finishes l.fn.backend) l.fn.self.connections l.self.connections
    × (l.self.behind.items ≡ l.fn.self.behind.items)
