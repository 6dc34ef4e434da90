use Rattle.craq_key_map.specs.Mapped.{entries_of}
use Rattle.craq_key_map.proofs.Next.{all_above}
use Rattle.craq_key_map.proofs.rising.Rising.of.Goals as goal

pub returns : goal.returns
returns g c = all_above (entries_of c.args.map.now)
