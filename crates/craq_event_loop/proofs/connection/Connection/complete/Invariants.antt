use Rattle.craq_event_loop.specs.Belonging.{ChangesState, GetsCompletions}
use Rattle.craq_event_loop.proofs.connection.Connection.complete.Given as goal

abbrev pub invariant-loop : goal.invariant-loop
invariant-loop g l = GetsCompletions (g.B.AsyncBackend.finishes l.fn.backend) l.fn.self.state l.self.state × ChangesState l.fn.self l.self
