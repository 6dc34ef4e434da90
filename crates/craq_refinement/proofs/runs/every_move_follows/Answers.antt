use Rattle.craq_refinement.proofs.EachStep.{every_step}
use Rattle.craq_refinement.proofs.runs.every_move_follows.Goals as goal

pub returns : goal.returns
returns c = every_step
