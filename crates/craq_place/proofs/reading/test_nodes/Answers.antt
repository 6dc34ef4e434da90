use Rattle.std.proofs.lemmas.Bool.Decides.{same_from_decides}
use Rattle.craq_place.specs.Reading.{is_membership}
use Rattle.craq_place.proofs.Plans.{decides_membership}
use Rattle.craq_place.proofs.reading.test_nodes.Goals as goal

pub returns : goal.returns
returns c = same_from_decides c.is_membership.result (is_membership c.args.nodes.now) c.is_membership.ensures (decides_membership c.args.nodes.now)
