use Rattle.std.proofs.Common.{◌∙◌, ℕ, ap, subst}
use Rattle.craq_event_loop.specs.SubmittedCalls.{called_by}
use Rattle.craq_event_loop.specs.Advancing.{AsksMore, under_key}
use Rattle.craq_event_loop.proofs.connection.Connection.call.Goals as goal

pub returns-clause-asked : goal.returns-clause-asked
returns-clause-asked g c = (
  c.submit.new.self.state,
  c.submit.ensures.asked,
  subst (λ (k : ℕ). AsksMore (g.H.Backend.refuses c.args.backend.now) (under_key (called_by (g.H.AsyncBackend.submits c.args.backend.now) (g.H.AsyncBackend.finishes c.args.backend.now)) c.args.origin.key) c.submit.new.self.state k c.ask_ahead.new.self.state c.ask_ahead.new.self.calls)
      (ap (λ x. x.calls) c.submit.ensures.rest) c.ask_ahead.ensures.asked,
)

pub returns-clause-rest : goal.returns-clause-rest
returns-clause-rest g c =
    c.ask_ahead.ensures.rest
    ∙ ap (λ x. record (record x { calls = c.ask_ahead.new.self.calls }) { state = c.ask_ahead.new.self.state; more = c.ask_ahead.new.self.more; unread = c.ask_ahead.new.self.unread }) c.submit.ensures.rest
