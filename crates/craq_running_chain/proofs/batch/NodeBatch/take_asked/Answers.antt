use Rattle.std.proofs.Common.{inl, inr, sym}
use Rattle.craq_running_chain.proofs.batch.NodeBatch.take_asked.Goals as goal

pub returns-then-take_queued_ask : goal.returns-then-take_queued_ask
returns-then-take_queued_ask g c =
    rw (c.post_step.ensures.seated, c.post_step.ensures.replies, sym c.deref_mut.ensures.value) (inl (c.take_queued_ask.ensures.taken c.if-take_queued_ask.true))

pub returns-else-take_queued_ask : goal.returns-else-take_queued_ask
returns-else-take_queued_ask g c = rw (sym c.deref_mut.ensures.value) (inr (inl (c.take_queued_ask.ensures.refused c.if-take_queued_ask.false)))
