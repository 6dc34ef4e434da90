use Rattle.craq_refinement.proofs.EachStep.{every_run}
use Rattle.craq_refinement.proofs.runs.every_run_follows.Goals as goal

pub returns : goal.returns
returns c = every_run
