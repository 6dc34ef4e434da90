use Rattle.craq_running_chain.proofs.batch.NodeBatch.post_step.Goals as goal
use Rattle.craq_running_chain.proofs.batch.NodeBatch.post_step.Goals.{in-None, in-Some-owed_by}

pub returns-clause-seated : goal.returns-clause-seated
returns-clause-seated g c = elim c.match-owed_by.branch [
  | in-Some-owed_by w ↦ rw (w.self-is, w.owe.ensures.seated, c.owed_by.ensures.same, c.deref_mut.ensures.value)
  | in-None w ↦ rw (w.self-is, w.send_step.ensures.seated, c.owed_by.ensures.same, c.deref_mut.ensures.value)
]
