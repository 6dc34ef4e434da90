use Rattle.craq_running_chain.proofs.batch.NodeBatch.take_brought.Goals as goal

pub returns-then-tick : goal.returns-then-tick
returns-then-tick g c = rw (c.in-Tick.is, c.post_step.ensures.seated, c.post_step.ensures.replies) c.tick.ensures.reacts
