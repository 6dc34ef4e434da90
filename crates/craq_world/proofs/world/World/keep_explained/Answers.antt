use Rattle.std.proofs.Common.{subst}
use Rattle.craq_world.specs.Promise.{AreExplained}
use Rattle.craq_world.proofs.Chains.{all_explained, nothing_changes}
use Rattle.craq_world.proofs.world.World.keep_explained.Goals as goal

pub returns-clause-explained : goal.returns-clause-explained
returns-clause-explained g c = subst (AreExplained 0) c.self.view_is (all_explained 0 c.self.inside.chains.items c.self.invariant)

pub returns-clause-stays : goal.returns-clause-stays
returns-clause-stays g c = nothing_changes c.args.self.now
