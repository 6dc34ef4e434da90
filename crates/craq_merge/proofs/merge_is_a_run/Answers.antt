use Rattle.craq_merge.proofs.Seated.{seated_causal, seated_run, typed_run}
use Rattle.craq_merge.proofs.merge_is_a_run.Goals as goal

pub returns-clause-causal : goal.returns-clause-causal
returns-clause-causal c = λ s. seated_causal _

pub returns-clause-run : goal.returns-clause-run
returns-clause-run c = λ s. seated_run _

pub returns-clause-typed : goal.returns-clause-typed
returns-clause-typed c = λ s. typed_run _
