use Rattle.craq_merge.proofs.Senders.{have_senders}
use Rattle.craq_merge.proofs.causal_journals_have_senders.Goals as goal

pub returns : goal.returns
returns c = λ s. have_senders _
