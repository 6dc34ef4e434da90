use Rattle.craq_model.specs.declared.ask.Ask.TheVariants as asks
use Rattle.craq_history.specs.Nodes.{plain_of}
use Rattle.craq_node.proofs.Kept.{ask_leads}
use Rattle.craq_node.proofs.node_core.take_request.Goals as goal

pub take_update-requires-clause-sound : goal.take_update-requires-clause-sound
take_update-requires-clause-sound g c =
    ask_leads (plain_of g.H.History.past c.args.node.now) (asks.Update c.in-Update.update) _ c.requires.sound (rw c.in-Update.is at c.requires.spelled) (rw c.in-Update.is at c.requires.admitted.ruled)

pub take_read-requires-clause-sound : goal.take_read-requires-clause-sound
take_read-requires-clause-sound g c =
    ask_leads (plain_of g.H.History.past c.args.node.now) (asks.Read c.in-Read.mode c.in-Read.object) _ c.requires.sound (rw c.in-Read.is at c.requires.spelled) (rw c.in-Read.is at c.requires.admitted.ruled)
