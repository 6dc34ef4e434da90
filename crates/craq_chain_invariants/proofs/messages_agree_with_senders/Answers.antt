use Rattle.craq_chain_invariants.proofs.Invariants.{messages_agree_with_senders}
use Rattle.craq_chain_invariants.proofs.messages_agree_with_senders.Goals as goal

pub returns : goal.returns
returns c = messages_agree_with_senders
