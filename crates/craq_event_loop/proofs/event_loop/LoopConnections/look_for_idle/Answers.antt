use Rattle.std.proofs.Common.{ℕ, ◌≤◌, ◌∙◌, length, refl, subst, arith}
use Rattle.slab.specs.Slab.{get}
use Rattle.craq_event_loop.specs.Coming.{ClosesIfIdle}
use Rattle.craq_event_loop.proofs.Coming.{all_looked, looked_on, none_looked}
use Rattle.craq_event_loop.proofs.event_loop.LoopConnections.look_for_idle.Goals as goal

pub loop-key-init : goal.loop-key-init
loop-key-init g c = (λ k. record { listed = k.listed; behind = k.behind }, none_looked c.args.now c.args.self.now.idle c.args.self.now.connections, refl, refl)

pub loop-key-preserved : goal.loop-key-preserved
loop-key-preserved g c = (
  λ k. c.end_idle.ensures.kept (c.loop-key.invariant.0 k),
  looked_on c.args.now c.args.self.now.idle c.args.self.now.connections c.loop-key.self.connections c.end_idle.new.self.connections c.loop-key.key
      c.loop-key.invariant.1
      (subst (λ (idle : ℕ). ClosesIfIdle c.args.now idle (get c.loop-key.self.connections c.loop-key.key) (get c.end_idle.new.self.connections c.loop-key.key))
      c.loop-key.invariant.2 c.end_idle.ensures.ends)
      c.end_idle.ensures.others,
  c.end_idle.ensures.idle ∙ c.loop-key.invariant.2,
  c.end_idle.ensures.behind ∙ c.loop-key.invariant.3,
)

pub returns-clause-kept : goal.returns-clause-kept
returns-clause-kept g c k = c.loop-key.invariant.0 k

pub returns-clause-ends : goal.returns-clause-ends
returns-clause-ends g c differs =
    let past : length c.args.self.now.connections.slots ≤ c.loop-key.key = omega (arith, c.capacity-key-end.ensures.slots, c.loop-key-test.false) in
    all_looked c.args.now c.args.self.now.idle c.args.self.now.connections c.loop-key.self.connections c.loop-key.key c.loop-key.invariant.1 past

pub returns-clause-behind : goal.returns-clause-behind
returns-clause-behind g c = c.loop-key.invariant.3
