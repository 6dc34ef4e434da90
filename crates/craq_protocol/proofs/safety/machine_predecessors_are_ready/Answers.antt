use Rattle.craq_protocol.proofs.Reached.{reached_safe}
use Rattle.craq_protocol.proofs.safety.machine_predecessors_are_ready.Goals as goal

pub returns : goal.returns
returns g c = λ w node other r. let s : _ = reached_safe r in s.predecessors_ready node other
