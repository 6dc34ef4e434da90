use Rattle.std.proofs.Common.{refl, ap}
use Rattle.craq_model.specs.Past.{Past}
use Rattle.craq_history.specs.Nodes.{plain_of}
use Rattle.craq_node.proofs.Remembered.{ignored_gives}
use Rattle.craq_node.proofs.node_core.deliver.Goals as goal

pub returns-then-not-is_heeded-clause-gives : goal.returns-then-not-is_heeded-clause-gives
returns-then-not-is_heeded-clause-gives g c =
    ignored_gives g.H.History.forgets (plain_of g.H.History.past c.args.node.now) c.args.message c.ignoring.result (ap (λ (h : Past). record (plain_of g.H.History.past c.args.node.now) { past = h }) (g.met.H.History.is_remembered c.args.node.now.history)) c.requires.here (c.if-not-is_heeded.ensures.ignored refl) c.ignoring.ensures
