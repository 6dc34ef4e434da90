use Rattle.std.proofs.Common.{◌≡◌, ℕ, get_or, subst}
use Rattle.craq_event_loop.specs.SubmittedCalls.{called_by}
use Rattle.craq_event_loop.specs.Advancing.{HasRoundAt, most_steps}
use Rattle.craq_event_loop.proofs.Belonging.{one_more_at}
use Rattle.craq_event_loop.proofs.event_loop.LoopConnections.advance_all.Goals as goal

pub loop-key-preserved : goal.loop-key-preserved
loop-key-preserved g c =
    let is : c.share_of-share.result.steps ≡ most_steps = c.share_of-share.ensures in
    one_more_at (λ mid next key. HasRoundAt most_steps (g.H.Backend.tells c.args.backend.now) (g.H.Backend.refuses c.args.backend.now) (called_by (g.H.AsyncBackend.submits c.args.backend.now) (g.H.AsyncBackend.finishes c.args.backend.now)) mid next key)
    c.deref-key-items.result.now c.loop-key.key-index
    c.args.self.now.connections c.loop-key.self.1.1.0 c.advance_at.new.connections
    c.loop-key-test.true c.loop-key.invariant
    (subst (λ (steps : ℕ). HasRoundAt steps (g.H.Backend.tells c.args.backend.now) (g.H.Backend.refuses c.args.backend.now) (called_by (g.H.AsyncBackend.submits c.args.backend.now) (g.H.AsyncBackend.finishes c.args.backend.now)) c.loop-key.self.1.1.0 c.advance_at.new.connections (get_or c.deref-key-items.result.now c.loop-key.key-index 0)) is c.advance_at.ensures.run_once)
    c.advance_at.ensures.vacant c.advance_at.ensures.others
