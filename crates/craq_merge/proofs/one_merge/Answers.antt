use Rattle.craq_merge.proofs.Journals.{one_merge}
use Rattle.craq_merge.proofs.one_merge.Goals as goal

pub returns : goal.returns
returns c = one_merge
