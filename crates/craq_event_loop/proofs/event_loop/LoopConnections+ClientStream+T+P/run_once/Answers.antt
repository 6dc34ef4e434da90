use Rattle.std.proofs.Common.{◌≡◌, ◌⊎◌, List, ℕ, [], ap, inl, inr, subst, sym}
use Rattle.craq_event_loop.specs.SubmittedCalls.{called_by}
use Rattle.craq_event_loop.specs.Busy.{NoneForgotten}
use Rattle.craq_event_loop.specs.Reaching.{AreReachable}
use Rattle.craq_event_loop.specs.Rounds.{MoveUp}
use Rattle.craq_event_loop.proofs.Reaching.{looked_reachable}
use Rattle.craq_event_loop.proofs.Rounds.{moved_again}
use Rattle.craq_event_loop.proofs.event_loop.LoopConnections+ClientStream+T+P.run_once.Goals as goal
use Rattle.craq_event_loop.proofs.event_loop.LoopConnections+ClientStream+T+P.run_once.Goals.{then-self-gt0, else-self-gt0}

pub round-requires-clause-kept : goal.round-requires-clause-kept
round-requires-clause-kept g c =
    let k = c.requires.kept in
    elim c.if-self-gt0.branch [
      | then-self-gt0 w ↦ subst NoneForgotten (sym w.self-is) (w.look_for_idle.ensures.kept (record { listed = k.listed; behind = k.behind }))
      | else-self-gt0 w ↦ subst NoneForgotten (sym w.self-is) (record { listed = k.listed; behind = k.behind })
    ]

pub round-requires-clause-reachable : goal.round-requires-clause-reachable
round-requires-clause-reachable g c =
    elim c.if-self-gt0.branch [
      | then-self-gt0 w ↦ subst (λ m. AreReachable g.H.LoopBackend.is_new (g.H.Backend.tells c.args.backend.now) (g.H.Backend.refuses c.args.backend.now) (called_by (g.H.AsyncBackend.submits c.args.backend.now) (g.H.AsyncBackend.finishes c.args.backend.now)) (g.H.AsyncBackend.finishes c.args.backend.now) m.connections) (sym w.self-is)
          (looked_reachable g.H.LoopBackend.is_new (g.H.Backend.tells c.args.backend.now) (g.H.Backend.refuses c.args.backend.now) (called_by (g.H.AsyncBackend.submits c.args.backend.now) (g.H.AsyncBackend.finishes c.args.backend.now)) (g.H.AsyncBackend.finishes c.args.backend.now)
          (record (c.args.self.now) { looks = c.saturating_add-self.result }) w.look_for_idle.new.self w.seconds.result w.look_for_idle.ensures.ends w.look_for_idle.ensures.else_stays c.requires.reachable)
      | else-self-gt0 w ↦ subst (λ m. AreReachable g.H.LoopBackend.is_new (g.H.Backend.tells c.args.backend.now) (g.H.Backend.refuses c.args.backend.now) (called_by (g.H.AsyncBackend.submits c.args.backend.now) (g.H.AsyncBackend.finishes c.args.backend.now)) (g.H.AsyncBackend.finishes c.args.backend.now) m.connections) (sym w.self-is) c.requires.reachable
    ]

pub round_again-requires-clause-kept : goal.round_again-requires-clause-kept
round_again-requires-clause-kept g c = c.round.ensures.kept

pub round_again-requires-clause-reachable : goal.round_again-requires-clause-reachable
round_again-requires-clause-reachable g c = c.round.ensures.reachable

pub returns-clause-none_busy : goal.returns-clause-none_busy
returns-clause-none_busy g c = c.round_again.ensures.none_busy c.round.ensures.none_busy

pub returns-clause-behind : goal.returns-clause-behind
returns-clause-behind g c =
    let none_again : (c.round_again.new.self.behind.items ≡ c.round.new.self.behind.items) ⊎ (c.round.new.self.behind.items ≡ []) =
    elim c.round_again.ensures.behind [
      | inl same ↦ inl (ap (λ m. m.behind.items) same)
      | inr none ↦ inr none
    ] in
    let up : MoveUp c.args.shares c.args.self.now.behind.items c.round.new.self.behind.items =
    elim c.if-self-gt0.branch [
      | then-self-gt0 w ↦ subst (λ (x : List ℕ). MoveUp c.args.shares x c.round.new.self.behind.items) (ap (λ v. v.items) w.look_for_idle.ensures.behind)
          (subst (λ m. MoveUp c.args.shares m.behind.items c.round.new.self.behind.items) w.self-is c.round.ensures.behind)
      | else-self-gt0 w ↦ subst (λ m. MoveUp c.args.shares m.behind.items c.round.new.self.behind.items) w.self-is c.round.ensures.behind
    ] in
    moved_again c.args.shares c.args.self.now.behind.items c.round.new.self.behind.items c.round_again.new.self.behind.items up none_again
