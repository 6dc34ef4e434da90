use Rattle.std.proofs.Common.{refl}
use Rattle.craq_key_map.specs.Hashed.{opened}
use Rattle.craq_key_map.proofs.sip.Sip.with_keys.Goals as goal

pub returns : goal.returns
unfolding opened
returns c = refl
