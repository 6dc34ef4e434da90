use Rattle.craq_refinement.proofs.EachStep.{part_line}
use Rattle.craq_refinement.proofs.lines.part_line.Goals as goal

pub returns : goal.returns
returns c = part_line
