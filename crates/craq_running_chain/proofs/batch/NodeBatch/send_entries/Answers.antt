use Rattle.craq_running_chain.proofs.batch.NodeBatch.send_entries.Goals as goal

pub returns-clause-seated : goal.returns-clause-seated
returns-clause-seated g c = rw (c.entries_of-messages.ensures.same, c.deref_mut.ensures.value)
