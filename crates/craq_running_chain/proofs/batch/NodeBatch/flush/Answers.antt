use Rattle.craq_running_chain.proofs.batch.NodeBatch.flush.Goals as goal

pub returns-then-tick-clause-several : goal.returns-then-tick-clause-several
returns-then-tick-clause-several g c = λ first several. rw (c.send_entries.ensures.seated, c.send_entries.ensures.replies) c.tick.ensures.reacts
