use Rattle.craq_merge.proofs.Sorted.{sorted_merge}
use Rattle.craq_merge.proofs.sorted_lines_are_the_merge.Goals as goal

pub returns : goal.returns
returns c = λ s. sorted_merge _
