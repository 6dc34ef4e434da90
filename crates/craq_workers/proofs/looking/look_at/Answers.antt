use Rattle.std.proofs.Common.{refl}
use Rattle.craq_workers.proofs.looking.look_at.Goals as goal

pub returns : goal.returns
returns g c = (c.core.result.now, (c.core.result, c.tell.ensures, refl))
