use Rattle.craq_refinement.proofs.EachStep.{join_line}
use Rattle.craq_refinement.proofs.lines.join_line.Goals as goal

pub returns : goal.returns
returns c = join_line
