use Rattle.craq_chain_invariants.proofs.Invariants.{reported_versions_were_committed}
use Rattle.craq_chain_invariants.proofs.reported_versions_were_committed.Goals as goal

pub returns : goal.returns
returns c = reported_versions_were_committed
