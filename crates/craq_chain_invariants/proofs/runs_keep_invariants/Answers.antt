use Rattle.craq_chain_invariants.proofs.Invariants.{runs_keep_invariants}
use Rattle.craq_chain_invariants.proofs.runs_keep_invariants.Goals as goal

pub returns : goal.returns
returns c = runs_keep_invariants
