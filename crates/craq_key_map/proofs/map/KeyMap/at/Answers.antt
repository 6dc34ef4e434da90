use Rattle.craq_key_map.proofs.Writes.{at_place}
use Rattle.craq_key_map.proofs.map.KeyMap.at.Goals as goal

pub returns : goal.returns
returns g c = rw (← c.self.view_is) (λ key is. at_place c.self.inside.items c.self.invariant.distinct c.args.place c.get.result.now c.get.ensures key is)
