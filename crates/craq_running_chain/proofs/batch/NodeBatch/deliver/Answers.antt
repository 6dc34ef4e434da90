use Rattle.std.proofs.Common.{inl, inr, sym}
use Rattle.craq_running_chain.proofs.batch.NodeBatch.deliver.Goals as goal

pub returns-then-take_event : goal.returns-then-take_event
returns-then-take_event g c =
    rw (c.post_step.ensures.seated, c.post_step.ensures.replies, sym c.deref_mut.ensures.value) (inl (c.take_event.ensures.taken c.if-take_event.true))

pub returns-else-take_event : goal.returns-else-take_event
returns-else-take_event g c =
    let refused = c.take_event.ensures.refused c.if-take_event.false in
    let same = c.take_event.ensures.same c.if-take_event.false in
    rw (sym c.deref_mut.ensures.value) (inr (refused.0, refused.1, same.0, same.1))
