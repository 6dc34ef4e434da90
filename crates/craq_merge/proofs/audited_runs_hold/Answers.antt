use Rattle.craq_merge.proofs.Audited.{audited}
use Rattle.craq_merge.proofs.audited_runs_hold.Goals as goal

pub returns : goal.returns
returns c = λ s. audited _
