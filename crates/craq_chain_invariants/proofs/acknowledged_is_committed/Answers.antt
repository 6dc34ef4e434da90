use Rattle.craq_chain_invariants.proofs.Invariants.{acknowledged_is_committed}
use Rattle.craq_chain_invariants.proofs.acknowledged_is_committed.Goals as goal

pub returns : goal.returns
returns c = acknowledged_is_committed
