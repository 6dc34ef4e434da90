use Rattle.craq_refinement.proofs.EachLine.{update_line}
use Rattle.craq_refinement.proofs.lines.update_line.Goals as goal

pub returns : goal.returns
returns c = update_line
