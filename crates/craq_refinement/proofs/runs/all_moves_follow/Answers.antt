use Rattle.craq_refinement.proofs.EachStep.{every_moves}
use Rattle.craq_refinement.proofs.runs.all_moves_follow.Goals as goal

pub returns : goal.returns
returns c = every_moves
