use Rattle.std.proofs.Common.{◌≡◌, ◌≤◌, ◌<◌, [], ◌∷◌, ◌++◌, ◌∙◌, ap, arith, get_or, if◌then◌else◌, is_ok, refl}
use Rattle.std.specs.VecDeque.{deque_capacity}
use Rattle.craq_event_loop.specs.Serving.{WritesAt}
use Rattle.craq_event_loop.specs.SubmittedCalls.{called_by}
use Rattle.craq_event_loop.proofs.Belonging.{one_more_at}
use Rattle.craq_event_loop.proofs.Marks.{all_listed, kept_all, kept_if, kept_next, left_out_if, none_kept, pushed}
use Rattle.craq_event_loop.proofs.Reaching.{one_written_reachable}
use Rattle.craq_event_loop.proofs.event_loop.LoopConnections.give_all.Goals as goal
use Rattle.craq_event_loop.proofs.event_loop.LoopConnections.give_all.Goals.{else-give_at, then-give_at}

pub loop-key-init : goal.loop-key-init
loop-key-init g c = (refl, λ l. none_kept c.args.self.now.connections c.args.self.now.behind c.deref-key-items.result.now, c.requires)

pub loop-key-preserved : goal.loop-key-preserved
loop-key-preserved g c =
    let key = get_or c.deref-key-items.result.now c.loop-key.key-index 0 in
    let before = c.loop-key.self.1.1.1.1.0 in
    let after = c.if-give_at.self.1.1.1.1.0 in
    let items : before.len < deque_capacity before → after.items ≡ (if c.give_at.result then before.items ++ key ∷ [] else before.items) =
    elim c.if-give_at.branch [
      | then-give_at w ↦ λ room. kept_if c.give_at.result before.items (before.items ++ key ∷ []) after.items w.if-give_at.true
          (ap (λ s. s.1.1.1.1.0.items) w.self-is
          ∙ pushed (is_ok w.push_back.result) before.items (before.items ++ key ∷ []) w.push_back.new.self.items w.push_back.ensures.items (w.push_back.ensures.succeeds room))
      | else-give_at w ↦ λ room. left_out_if c.give_at.result before.items (before.items ++ key ∷ []) after.items w.if-give_at.false (ap (λ s. s.1.1.1.1.0.items) w.self-is)
    ] in
    let grows : deque_capacity before ≤ deque_capacity after =
    elim c.if-give_at.branch [
      | then-give_at w ↦ omega (arith, w.push_back.ensures.capacity, ap (λ s. deque_capacity s.1.1.1.1.0) w.self-is)
      | else-give_at w ↦ omega (arith, ap (λ s. deque_capacity s.1.1.1.1.0) w.self-is)
    ] in (
      one_more_at (WritesAt g.S.Socket.remaining g.S.Socket.contents g.S.Socket.is_over g.S.Socket.is_dry g.S.Socket.is_full) c.deref-key-items.result.now c.loop-key.key-index
          c.args.self.now.connections c.loop-key.self.1.1.0 c.give_at.new.connections
          c.loop-key-test.true c.loop-key.invariant.0 c.give_at.ensures.writes c.give_at.ensures.vacant c.give_at.ensures.others,
      λ l. kept_next c.args.self.now.connections c.loop-key.self.1.1.0 c.give_at.new.connections c.args.self.now.busy c.args.self.now.behind
          before after c.deref-key-items.result.now c.loop-key.key-index c.give_at.result l
          c.deref-key-items.ensures.value c.loop-key-test.true (c.loop-key.invariant.1 l) c.give_at.ensures.others c.give_at.ensures.tells items grows,
      one_written_reachable g.H.LoopBackend.is_new (g.H.Backend.tells c.args.backend.now) (g.H.Backend.refuses c.args.backend.now) (called_by (g.H.AsyncBackend.submits c.args.backend.now) (g.H.AsyncBackend.finishes c.args.backend.now)) (g.H.AsyncBackend.finishes c.args.backend.now)
          g.S.Socket.remaining g.S.Socket.contents g.S.Socket.is_over g.S.Socket.is_dry g.S.Socket.is_full c.loop-key.self.1.1.0 c.give_at.new.connections _
          c.give_at.ensures.writes c.give_at.ensures.vacant c.give_at.ensures.others c.loop-key.invariant.2,
    )

pub give_at-requires : goal.give_at-requires
give_at-requires g c = c.loop-key.invariant.2

pub returns-clause-listed : goal.returns-clause-listed
returns-clause-listed g c l =
    all_listed (WritesAt g.S.Socket.remaining g.S.Socket.contents g.S.Socket.is_over g.S.Socket.is_dry g.S.Socket.is_full) c.args.self.now.connections c.loop-key.self.1.1.0
    c.args.self.now.busy c.clear.new.self c.args.self.now.behind c.loop-key.self.1.1.1.1.0
    c.deref-key-items.result.now c.loop-key.key-index l c.deref-key-items.ensures.value c.loop-key-test.false c.loop-key.invariant.0
    (c.loop-key.invariant.1 l) c.clear.ensures.items c.clear.ensures.capacity

pub returns-clause-behind : goal.returns-clause-behind
returns-clause-behind g c l =
    kept_all c.loop-key.self.1.1.0 c.args.self.now.busy c.args.self.now.behind c.loop-key.self.1.1.1.1.0
    c.deref-key-items.result.now c.loop-key.key-index c.deref-key-items.ensures.value c.loop-key-test.false (c.loop-key.invariant.1 l)
