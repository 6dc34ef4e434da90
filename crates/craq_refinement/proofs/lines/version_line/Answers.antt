use Rattle.craq_refinement.proofs.EachStep.{version_line}
use Rattle.craq_refinement.proofs.lines.version_line.Goals as goal

pub returns : goal.returns
returns c = version_line
