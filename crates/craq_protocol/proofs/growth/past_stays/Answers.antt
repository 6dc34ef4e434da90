use Rattle.craq_protocol.proofs.Reached.{reached_later}
use Rattle.craq_protocol.proofs.growth.past_stays.Goals as goal

pub returns : goal.returns
returns g c = record {
  sent = λ w moves message r. let l : _ = reached_later r moves in l.sent message;
  joined = λ w moves node r. let l : _ = reached_later r moves in l.joined node;
  epochs = λ w moves r. let l : _ = reached_later r moves in l.epochs;
  memberships = λ w moves epoch r. let l : _ = reached_later r moves in l.members epoch;
}
