use Rattle.craq_protocol.proofs.Reached.{reached_later}
use Rattle.craq_protocol.proofs.growth.nodes_only_gain.Goals as goal

pub returns : goal.returns
returns g c = record {
  history = λ w moves node r. let l : _ = reached_later r moves in l.history node;
  acknowledged = λ w moves node r. let l : _ = reached_later r moves in l.acknowledged node;
  epoch = λ w moves node r. let l : _ = reached_later r moves in l.epoch node;
  ready = λ w moves node r. let l : _ = reached_later r moves in l.ready node;
  stopped = λ w moves node r. let l : _ = reached_later r moves in l.stopped node;
}
