use Rattle.craq_event_loop.specs.SubmittedCalls.{called_by}
use Rattle.craq_event_loop.specs.Reaching.{ReachesOn}
use Rattle.craq_event_loop.proofs.connection.Connection.serve.Given as goal

abbrev pub invariant-loop : goal.invariant-loop
invariant-loop g l =
    ReachesOn g.S.Socket.remaining g.S.Socket.contents (g.B.Backend.tells l.fn.backend) (g.B.Backend.refuses l.fn.backend) (called_by (g.B.AsyncBackend.submits l.fn.backend) (g.B.AsyncBackend.finishes l.fn.backend)) (g.B.AsyncBackend.finishes l.fn.backend) l.fn.self l.self
