use Rattle.craq_protocol.proofs.Reached.{reached_safe}
use Rattle.craq_protocol.proofs.safety.machine_predecessors_hold_more.Goals as goal

pub returns : goal.returns
returns g c = record {
  known = λ w node other r. let s : _ = reached_safe r in s.predecessors_hold node other;
  current = λ w node other r. let s : _ = reached_safe r in s.predecessors_hold_now node other;
}
