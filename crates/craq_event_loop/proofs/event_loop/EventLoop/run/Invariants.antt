use Rattle.craq_event_loop.specs.SubmittedCalls.{called_by}
use Rattle.craq_event_loop.specs.Busy.{NoneForgotten}
use Rattle.craq_event_loop.specs.Reaching.{AreReachable}
use Rattle.craq_event_loop.proofs.event_loop.EventLoop.run.Given as goal

abbrev pub invariant-loop : goal.invariant-loop
invariant-loop g l =
    NoneForgotten l.members × AreReachable g.H.LoopBackend.is_new (g.H.Backend.tells l.fn.backend) (g.H.Backend.refuses l.fn.backend) (called_by (g.H.AsyncBackend.submits l.fn.backend) (g.H.AsyncBackend.finishes l.fn.backend)) (g.H.AsyncBackend.finishes l.fn.backend) l.members.connections
