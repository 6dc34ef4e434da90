use Rattle.craq_key_map.specs.Hashed.{with_word}
use Rattle.craq_key_map.proofs.sip.Sip.add.Goals as goal

pub returns : goal.returns
unfolding with_word
returns c = simp c.round.ensures
