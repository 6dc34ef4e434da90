use Rattle.craq_refinement.proofs.EachStep.{tick_line}
use Rattle.craq_refinement.proofs.lines.tick_line.Goals as goal

pub returns : goal.returns
returns c = tick_line
