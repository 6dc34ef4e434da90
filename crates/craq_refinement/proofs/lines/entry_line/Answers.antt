use Rattle.craq_refinement.proofs.EachLine.{entry_line}
use Rattle.craq_refinement.proofs.lines.entry_line.Goals as goal

pub returns : goal.returns
returns c = entry_line
