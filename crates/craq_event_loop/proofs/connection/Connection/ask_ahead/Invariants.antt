use Rattle.craq_event_loop.specs.SubmittedCalls.{called_by}
use Rattle.craq_event_loop.specs.Belonging.{ChangesState}
use Rattle.craq_event_loop.specs.Advancing.{AsksMore, under_key}
use Rattle.craq_event_loop.proofs.connection.Connection.ask_ahead.Given as goal

abbrev pub invariant-loop-ahead : goal.invariant-loop-ahead
invariant-loop-ahead g l =
    ChangesState (record l.fn.self { calls = l.self.calls }) l.self
    × AsksMore (g.H.Backend.refuses l.fn.backend) (under_key (called_by (g.H.AsyncBackend.submits l.fn.backend) (g.H.AsyncBackend.finishes l.fn.backend)) l.fn.origin.key) l.fn.self.state l.fn.self.calls l.self.state l.self.calls
