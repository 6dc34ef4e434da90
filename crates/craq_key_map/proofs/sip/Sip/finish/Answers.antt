use Rattle.craq_key_map.specs.Hashed.{finished}
use Rattle.craq_key_map.proofs.sip.Sip.finish.Goals as goal

pub returns : goal.returns
unfolding finished
returns c = simp (c.round-3.ensures, c.round-2.ensures, c.round.ensures)
