use Rattle.craq_refinement.proofs.EachStep.{copy_line}
use Rattle.craq_refinement.proofs.lines.copy_line.Goals as goal

pub returns : goal.returns
returns c = copy_line
