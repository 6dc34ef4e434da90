use Rattle.std.proofs.Common.{◌≡◌, ◌≤◌, false}
use Rattle.craq_event_loop.specs.SubmittedCalls.{called_by}
use Rattle.craq_event_loop.specs.Belonging.{ChangesState}
use Rattle.craq_event_loop.specs.Advancing.{TakesSteps, under_key}
use Rattle.craq_event_loop.proofs.connection.Connection.advance.Given as goal

abbrev pub invariant-loop-step : goal.invariant-loop-step
invariant-loop-step g l =
    (l.fn.self.over ≡ false)
    × ChangesState (record l.fn.self { calls = l.self.calls }) l.self
    × (l._step ≤ l.fn.share.steps)
    × TakesSteps (g.H.Backend.tells l.fn.backend) (g.H.Backend.refuses l.fn.backend) (under_key (called_by (g.H.AsyncBackend.submits l.fn.backend) (g.H.AsyncBackend.finishes l.fn.backend)) l.fn.key) l.fn.self.state l.fn.self.calls l._step l.self.state l.self.calls
