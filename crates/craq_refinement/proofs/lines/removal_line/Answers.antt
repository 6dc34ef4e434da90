use Rattle.craq_refinement.proofs.EachStep.{removal_line}
use Rattle.craq_refinement.proofs.lines.removal_line.Goals as goal

pub returns : goal.returns
returns c = removal_line
