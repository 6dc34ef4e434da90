use Rattle.std.proofs.Common.{◌∙◌}
use Rattle.craq_place.proofs.Places.{is_named}
use Rattle.craq_place.proofs.plan.has_chain.Goals as goal

pub returns : goal.returns
returns c = c.contains_key.ensures ∙ is_named c.args.name.now c.args.chains.now.entries
