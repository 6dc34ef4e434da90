use Rattle.craq_merge.proofs.Calls.{calls_within}
use Rattle.craq_merge.proofs.calls_are_in_the_run.Goals as goal

pub returns : goal.returns
returns c = λ s. calls_within _
