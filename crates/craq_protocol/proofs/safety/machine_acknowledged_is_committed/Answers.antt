use Rattle.craq_protocol.proofs.Reached.{reached_safe}
use Rattle.craq_protocol.proofs.safety.machine_acknowledged_is_committed.Goals as goal

pub returns : goal.returns
returns g c = record {
  held = λ w node r. let s : _ = reached_safe r in (s.acknowledged node).0;
  committed = λ w node r. let s : _ = reached_safe r in (s.acknowledged node).1;
  same = λ w node r. let s : _ = reached_safe r in (s.acknowledged node).2;
}
