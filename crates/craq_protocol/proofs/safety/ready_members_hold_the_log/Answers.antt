use Rattle.craq_protocol.proofs.Reached.{reached_safe}
use Rattle.craq_protocol.proofs.safety.ready_members_hold_the_log.Goals as goal

pub returns : goal.returns
returns g c = λ w node r. let s : _ = reached_safe r in s.committed node
