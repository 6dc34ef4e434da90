use Rattle.craq_refinement.proofs.EachLine.{batch_line}
use Rattle.craq_refinement.proofs.lines.batch_line.Goals as goal

pub returns : goal.returns
returns c = batch_line
