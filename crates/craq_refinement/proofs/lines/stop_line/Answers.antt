use Rattle.craq_refinement.proofs.EachStep.{stop_line}
use Rattle.craq_refinement.proofs.lines.stop_line.Goals as goal

pub returns : goal.returns
returns c = stop_line
