use Rattle.craq_protocol.proofs.Reached.{reached_safe}
use Rattle.craq_protocol.proofs.safety.memberships_are_sound.Goals as goal

pub returns : goal.returns
returns g c = record {
  distinct = λ w epoch r. let s : _ = reached_safe r in s.distinct epoch;
  made = λ w node r. let s : _ = reached_safe r in s.epoch node;
  member = λ w node r. let s : _ = reached_safe r in s.member node;
  running = λ w node r. let s : _ = reached_safe r in s.alive node;
}
