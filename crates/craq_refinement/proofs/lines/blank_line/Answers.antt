use Rattle.craq_refinement.proofs.EachStep.{blank_line}
use Rattle.craq_refinement.proofs.lines.blank_line.Goals as goal

pub returns : goal.returns
returns c = blank_line
