use Rattle.craq_recovery.proofs.Entries.{entries_flow_on}
use Rattle.craq_recovery.proofs.entries_flow.Goals as goal

pub returns : goal.returns
returns c = λ chain run count p q typed neighbours rp rq numbers. entries_flow_on chain run count p q typed neighbours rp rq numbers
