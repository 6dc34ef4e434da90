use Rattle.craq_refinement.proofs.EachStep.{floor_line}
use Rattle.craq_refinement.proofs.lines.floor_line.Goals as goal

pub returns : goal.returns
returns c = floor_line
