use Rattle.craq_chain_invariants.proofs.Invariants.{ready_members_hold_the_list}
use Rattle.craq_chain_invariants.proofs.ready_members_hold_the_list.Goals as goal

pub returns : goal.returns
returns c = ready_members_hold_the_list
