use Rattle.std.proofs.Common.{inl, inr, sym}
use Rattle.craq_running_chain.proofs.batch.NodeBatch.take_own.Goals as goal

pub returns-in-Ok : goal.returns-in-Ok
returns-in-Ok g c =
    rw (c.post_step.ensures.seated, c.post_step.ensures.replies, sym c.deref_mut.ensures.value) (inl c.in-Ok.ensures.taken)

pub returns-in-Err : goal.returns-in-Err
returns-in-Err g c = rw (sym c.deref_mut.ensures.value) (inr (inl c.in-Err.ensures.refused))
