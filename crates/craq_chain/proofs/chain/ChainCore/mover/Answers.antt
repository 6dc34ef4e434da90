use Rattle.std.proofs.Common.{sym, ◌∙◌}
use Rattle.craq_chain.specs.Chained.{chain_of_run}
use Rattle.craq_chain.proofs.Received.{sent_to, sent_to_none}
use Rattle.craq_chain.proofs.chain.ChainCore.mover.Goals as goal

pub returns-in-None : goal.returns-in-None
returns-in-None g c = rw c.in-Deliver.is (c.new.ensures ∙ sym (sent_to_none (chain_of_run c.args.self.now).messages c.in-Deliver.number (sym c.in-None.ensures)))

pub returns-in-Some : goal.returns-in-Some
returns-in-Some g c = rw c.in-Deliver.is (sym (sent_to (chain_of_run c.args.self.now).messages c.in-Deliver.number c.in-Some.message.now (sym c.in-Some.ensures)))
