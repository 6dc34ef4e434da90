use Rattle.craq_chain_invariants.proofs.Invariants.{waiting_updates_are_owed}
use Rattle.craq_chain_invariants.proofs.waiting_updates_are_owed.Goals as goal

pub returns : goal.returns
returns c = waiting_updates_are_owed
