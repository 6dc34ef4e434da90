use Rattle.std.proofs.Common.{inl, inr, sym}
use Rattle.craq_running_chain.proofs.Reacting.{taken_or_refused}
use Rattle.craq_running_chain.proofs.batch.NodeBatch.tick.Goals as goal

-- a tick needs no cause
pub take_event-requires-clause-may : goal.take_event-requires-clause-may
take_event-requires-clause-may g c = record { sent = tt; called = tt }

-- the token leaves the node as it is
pub returns-clause-reacts : goal.returns-clause-reacts
returns-clause-reacts g c =
    let same = rw c.token-token.ensures.same at c.deref_mut-2.ensures.value in
    rw (sym c.deref_mut.ensures.value, sym same)
    (taken_or_refused c.take_event.result (λ is. inl (c.take_event.ensures.taken is)) (λ is. let refused = c.take_event.ensures.refused is in let kept = c.take_event.ensures.same is in inr (refused.0, refused.1, kept.0, kept.1)))
