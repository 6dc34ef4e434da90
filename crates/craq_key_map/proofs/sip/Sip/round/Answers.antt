use Rattle.craq_key_map.specs.Hashed.{rounded}
use Rattle.craq_key_map.proofs.sip.Sip.round.Goals as goal

pub returns : goal.returns
unfolding rounded
returns c = simp (c.rotate_left-self-2.ensures, c.rotate_left-4.ensures, c.rotate_left-3.ensures, c.rotate_left-self.ensures, c.rotate_left-2.ensures, c.rotate_left.ensures)
