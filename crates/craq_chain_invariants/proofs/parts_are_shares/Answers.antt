use Rattle.craq_chain_invariants.proofs.Invariants.{parts_are_shares}
use Rattle.craq_chain_invariants.proofs.parts_are_shares.Goals as goal

pub returns : goal.returns
returns c = parts_are_shares
