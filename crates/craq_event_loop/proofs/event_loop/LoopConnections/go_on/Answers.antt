use Rattle.std.proofs.Common.{◌≡◌, ◌++◌, ◌∙◌, ℕ, List, ap, drop, filter, subst, sym, take}
use Rattle.slab.specs.Slab.{get}
use Rattle.craq_event_loop.specs.SubmittedCalls.{called_by}
use Rattle.craq_event_loop.specs.Busy.{MarksJustBehind, is_marked}
use Rattle.craq_event_loop.specs.Reaching.{AreReachable}
use Rattle.craq_event_loop.specs.Serving.{Serves}
use Rattle.craq_event_loop.proofs.event_loop.LoopConnections.go_on.Goals as goal

pub step_all-requires : goal.step_all-requires
step_all-requires g c =
    subst (λ x. AreReachable g.H.LoopBackend.is_new (g.H.Backend.tells c.args.backend.now) (g.H.Backend.refuses c.args.backend.now) (called_by (g.H.AsyncBackend.submits c.args.backend.now) (g.H.AsyncBackend.finishes c.args.backend.now)) (g.H.AsyncBackend.finishes c.args.backend.now) x)
    (sym c.resume.ensures.connections) c.requires.reachable

pub returns-clause-kept : goal.returns-clause-kept
returns-clause-kept g c = c.step_all.ensures.kept (c.resume.ensures.kept c.requires.kept)

pub returns-clause-marks : goal.returns-clause-marks
returns-clause-marks g c =
    let keys : c.resume.new.self.busy.items ≡ take c.args.shares c.args.self.now.behind.items =
    c.resume.ensures.busy c.requires.kept ∙ ap (λ (x : List ℕ). x ++ take c.args.shares c.args.self.now.behind.items) c.requires.idle in
    subst (λ (x : List ℕ). MarksJustBehind c.step_all.new.self.connections x) keys c.step_all.ensures.marks

pub returns-clause-behind : goal.returns-clause-behind
returns-clause-behind g c =
    let keys : c.resume.new.self.busy.items ≡ take c.args.shares c.args.self.now.behind.items =
    c.resume.ensures.busy c.requires.kept ∙ ap (λ (x : List ℕ). x ++ take c.args.shares c.args.self.now.behind.items) c.requires.idle in
    c.step_all.ensures.behind (c.resume.ensures.kept c.requires.kept)
    ∙ ap (λ (x : List ℕ). x ++ filter (λ key. is_marked (get c.step_all.new.self.connections key)) c.resume.new.self.busy.items) c.resume.ensures.behind
    ∙ ap (λ (x : List ℕ). drop c.args.shares c.args.self.now.behind.items ++ filter (λ key. is_marked (get c.step_all.new.self.connections key)) x) keys

pub returns-clause-serves : goal.returns-clause-serves
returns-clause-serves g c =
    let keys : c.resume.new.self.busy.items ≡ take c.args.shares c.args.self.now.behind.items =
    c.resume.ensures.busy c.requires.kept ∙ ap (λ (x : List ℕ). x ++ take c.args.shares c.args.self.now.behind.items) c.requires.idle in
    subst (λ (x : List ℕ). Serves g.S.Socket.remaining g.S.Socket.contents g.S.Socket.is_over g.S.Socket.is_dry g.S.Socket.is_full (g.H.Backend.tells c.args.backend.now) (g.H.Backend.refuses c.args.backend.now) (called_by (g.H.AsyncBackend.submits c.args.backend.now) (g.H.AsyncBackend.finishes c.args.backend.now)) x c.args.self.now.connections c.step_all.new.self.connections)
    keys
    (subst (λ x. Serves g.S.Socket.remaining g.S.Socket.contents g.S.Socket.is_over g.S.Socket.is_dry g.S.Socket.is_full (g.H.Backend.tells c.args.backend.now) (g.H.Backend.refuses c.args.backend.now) (called_by (g.H.AsyncBackend.submits c.args.backend.now) (g.H.AsyncBackend.finishes c.args.backend.now)) c.resume.new.self.busy.items x c.step_all.new.self.connections)
    c.resume.ensures.connections c.step_all.ensures.serves)
