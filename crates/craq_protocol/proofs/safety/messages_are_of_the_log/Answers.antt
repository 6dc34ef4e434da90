use Rattle.craq_protocol.proofs.Reached.{reached_safe}
use Rattle.craq_protocol.proofs.safety.messages_are_of_the_log.Goals as goal

pub returns : goal.returns
returns g c = record {
  ack = λ w message count r. let s : _ = reached_safe r in s.ack message count;
  copy = λ w message entries r. let s : _ = reached_safe r in s.copy message entries;
}
