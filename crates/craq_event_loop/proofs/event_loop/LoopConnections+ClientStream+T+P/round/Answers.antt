use Rattle.std.proofs.Common.{None, ◌∙◌, ap, take}
use Rattle.std.specs.Prelude.{⊤}
use Rattle.craq_event_loop.specs.SubmittedCalls.{called_by}
use Rattle.craq_event_loop.proofs.Reaching.{brought_reachable, served_reachable}
use Rattle.craq_event_loop.proofs.Rounds.{moved_up}
use Rattle.craq_event_loop.proofs.event_loop.LoopConnections+ClientStream+T+P.round.Goals as goal

pub step_all-requires : goal.step_all-requires
step_all-requires g c =
    c.take_arrivals.ensures.reachable (c.take_completions.ensures.kept c.requires.kept)
    (brought_reachable g.H.LoopBackend.is_new (g.H.Backend.tells c.args.backend.now) (g.H.Backend.refuses c.args.backend.now) (called_by (g.H.AsyncBackend.submits c.args.backend.now) (g.H.AsyncBackend.finishes c.args.backend.now)) (g.H.AsyncBackend.finishes c.args.backend.now)
    (g.H.LoopBackend.brings c.args.backend.now c.args.self.now.completions.items) c.args.self.now.connections c.take_completions.new.self.connections c.take_completions.ensures.delivered
    c.requires.reachable)

pub go_on-requires-clause-kept : goal.go_on-requires-clause-kept
go_on-requires-clause-kept g c = c.step_all.ensures.kept (c.take_arrivals.ensures.kept (c.take_completions.ensures.kept c.requires.kept))

pub go_on-requires-clause-reachable : goal.go_on-requires-clause-reachable
go_on-requires-clause-reachable g c =
    served_reachable g.H.LoopBackend.is_new (g.H.Backend.tells c.args.backend.now) (g.H.Backend.refuses c.args.backend.now) (called_by (g.H.AsyncBackend.submits c.args.backend.now) (g.H.AsyncBackend.finishes c.args.backend.now)) (g.H.AsyncBackend.finishes c.args.backend.now)
    (λ _. None) (λ _. None) (λ _. ⊤) (λ _. ⊤) (λ _. ⊤) c.take_arrivals.new.self.busy.items c.take_arrivals.new.self.connections c.step_all.new.self.connections c.step_all.ensures.serves
    (c.take_arrivals.ensures.reachable (c.take_completions.ensures.kept c.requires.kept)
    (brought_reachable g.H.LoopBackend.is_new (g.H.Backend.tells c.args.backend.now) (g.H.Backend.refuses c.args.backend.now) (called_by (g.H.AsyncBackend.submits c.args.backend.now) (g.H.AsyncBackend.finishes c.args.backend.now)) (g.H.AsyncBackend.finishes c.args.backend.now)
    (g.H.LoopBackend.brings c.args.backend.now c.args.self.now.completions.items) c.args.self.now.connections c.take_completions.new.self.connections c.take_completions.ensures.delivered
    c.requires.reachable))

pub returns-clause-reachable : goal.returns-clause-reachable
returns-clause-reachable g c =
    let before =
    served_reachable g.H.LoopBackend.is_new (g.H.Backend.tells c.args.backend.now) (g.H.Backend.refuses c.args.backend.now) (called_by (g.H.AsyncBackend.submits c.args.backend.now) (g.H.AsyncBackend.finishes c.args.backend.now)) (g.H.AsyncBackend.finishes c.args.backend.now)
    (λ _. None) (λ _. None) (λ _. ⊤) (λ _. ⊤) (λ _. ⊤) c.take_arrivals.new.self.busy.items c.take_arrivals.new.self.connections c.step_all.new.self.connections c.step_all.ensures.serves
    (c.take_arrivals.ensures.reachable (c.take_completions.ensures.kept c.requires.kept)
    (brought_reachable g.H.LoopBackend.is_new (g.H.Backend.tells c.args.backend.now) (g.H.Backend.refuses c.args.backend.now) (called_by (g.H.AsyncBackend.submits c.args.backend.now) (g.H.AsyncBackend.finishes c.args.backend.now)) (g.H.AsyncBackend.finishes c.args.backend.now)
    (g.H.LoopBackend.brings c.args.backend.now c.args.self.now.completions.items) c.args.self.now.connections c.take_completions.new.self.connections c.take_completions.ensures.delivered
    c.requires.reachable)) in
    served_reachable g.H.LoopBackend.is_new (g.H.Backend.tells c.args.backend.now) (g.H.Backend.refuses c.args.backend.now) (called_by (g.H.AsyncBackend.submits c.args.backend.now) (g.H.AsyncBackend.finishes c.args.backend.now)) (g.H.AsyncBackend.finishes c.args.backend.now)
    (λ _. None) (λ _. None) (λ _. ⊤) (λ _. ⊤) (λ _. ⊤) (take c.args.shares c.step_all.new.self.behind.items) c.step_all.new.self.connections c.go_on.new.self.connections c.go_on.ensures.serves
    before

pub returns-clause-behind : goal.returns-clause-behind
returns-clause-behind g c =
    moved_up c.args.shares c.args.self.now.behind.items c.take_arrivals.new.self.behind.items c.step_all.new.self.behind.items c.go_on.new.self.behind.items _ _
    (c.take_arrivals.ensures.behind (c.take_completions.ensures.kept c.requires.kept) ∙ ap (λ v. v.items) c.take_completions.ensures.behind)
    (c.step_all.ensures.behind (c.take_arrivals.ensures.kept (c.take_completions.ensures.kept c.requires.kept))) c.go_on.ensures.behind
