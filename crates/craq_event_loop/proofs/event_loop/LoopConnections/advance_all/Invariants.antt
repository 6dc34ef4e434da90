use Rattle.std.proofs.Common.{take}
use Rattle.craq_event_loop.specs.SubmittedCalls.{called_by}
use Rattle.craq_event_loop.specs.Advancing.{TakeRounds}
use Rattle.craq_event_loop.proofs.event_loop.LoopConnections.advance_all.Given as goal

abbrev pub invariant-loop-key : goal.invariant-loop-key
invariant-loop-key g l =
    TakeRounds (g.H.Backend.tells l.fn.backend) (g.H.Backend.refuses l.fn.backend) (called_by (g.H.AsyncBackend.submits l.fn.backend) (g.H.AsyncBackend.finishes l.fn.backend)) (take l.key-index l.key-items) l.fn.self.connections l.self.1.1.0
