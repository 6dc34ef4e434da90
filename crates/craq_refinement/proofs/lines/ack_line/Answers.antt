use Rattle.craq_refinement.proofs.EachLine.{ack_line}
use Rattle.craq_refinement.proofs.lines.ack_line.Goals as goal

pub returns : goal.returns
returns c = ack_line
