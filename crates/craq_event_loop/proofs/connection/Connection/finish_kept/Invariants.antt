use Rattle.craq_event_loop.specs.Belonging.{ChangesState, GetsCompletions}
use Rattle.craq_event_loop.proofs.connection.Connection.finish_kept.Given as goal

abbrev pub invariant-loop-kept : goal.invariant-loop-kept
invariant-loop-kept g l = GetsCompletions (g.H.AsyncBackend.finishes l.fn.backend) l.fn.self.state l.self.state × ChangesState l.fn.self l.self
