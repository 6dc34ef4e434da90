use Rattle.craq_refinement.proofs.EachLine.{config_line}
use Rattle.craq_refinement.proofs.lines.config_line.Goals as goal

pub returns : goal.returns
returns c = config_line
