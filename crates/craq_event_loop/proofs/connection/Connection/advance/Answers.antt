use Rattle.std.proofs.Common.{rules, arith, ◌≤◌, ◌+◌, ◌∙◌, ap, refl}
use Rattle.craq_event_loop.specs.SubmittedCalls.{called_by}
use Rattle.craq_event_loop.specs.Advancing.{none, under_key}
use Rattle.craq_event_loop.proofs.Advancing.{called_all, calls_then, went}
use Rattle.craq_event_loop.proofs.connection.Connection.advance.Goals.{in-Goes, in-Calls}
use Rattle.craq_event_loop.proofs.connection.Connection.advance.Goals as goal

pub loop-step-init : goal.loop-step-init
loop-step-init g c = (c.if-self.false, refl, omega arith, none)

pub loop-step-preserved : goal.loop-step-preserved
loop-step-preserved g c = elim c.match-step.branch [
  | in-Goes w ↦ (
      let bound : c.loop-step._step + 1 ≤ c.args.share.steps = search rules in (
        c.loop-step.invariant.0,
        calls_then c.args.self.now c.loop-step.self c.match-step.self c.loop-step.invariant.1 (rw w.self-is refl),
        bound,
        rw w.self-is
            (went (g.H.Backend.tells c.args.backend.now) (g.H.Backend.refuses c.args.backend.now) (under_key (called_by (g.H.AsyncBackend.submits c.args.backend.now) (g.H.AsyncBackend.finishes c.args.backend.now)) c.args.key)
            c.args.self.now.state c.args.self.now.calls c.loop-step._step c.loop-step.self.state c.step.new.self c.loop-step.self.calls c.loop-step.invariant.3 (rw w.in-Goes.is at c.step.ensures.took) c.step.ensures.session),
      )
      )
  | in-Calls w ↦ (
      let bound : c.loop-step._step + 1 ≤ c.args.share.steps = search rules in
      rw w.self-is (
        c.loop-step.invariant.0,
        w.call.ensures.rest
            ∙ ap (λ x. record (record x { calls = w.call.new.self.calls }) { state = w.call.new.self.state; more = w.call.new.self.more; unread = w.call.new.self.unread }) c.loop-step.invariant.1,
        bound,
        called_all (g.H.Backend.tells c.args.backend.now) (g.H.Backend.refuses c.args.backend.now) (under_key (called_by (g.H.AsyncBackend.submits c.args.backend.now) (g.H.AsyncBackend.finishes c.args.backend.now)) c.args.key)
            c.args.self.now.state c.args.self.now.calls c.loop-step._step c.loop-step.self.state c.step.new.self w.call.new.self.state c.loop-step.self.calls w.call.new.self.calls _ c.loop-step.invariant.3
            (rw w.in-Calls.is at c.step.ensures.took) c.step.ensures.session w.call.ensures.asked,
      )
      )
]
