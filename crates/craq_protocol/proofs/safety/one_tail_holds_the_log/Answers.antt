use Rattle.craq_protocol.proofs.Reached.{reached_safe}
use Rattle.craq_protocol.proofs.safety.one_tail_holds_the_log.Goals as goal

pub returns : goal.returns
returns g c = record {
  one = λ w node other r. let s : _ = reached_safe r in s.one_tail node other;
  log = λ w node r. let s : _ = reached_safe r in s.tail node;
  known = λ w node r. let s : _ = reached_safe r in s.tail_knows node;
}
