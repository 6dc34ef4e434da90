use Rattle.std.proofs.Common.{[], ◌∷◌}
use Rattle.craq_protocol.proofs.Reached.{reached_later}
use Rattle.craq_protocol.proofs.growth.log_only_grows.Goals as goal

pub returns : goal.returns
returns g c = record {
  move_by_move = λ w next r. let l : _ = reached_later r (next ∷ []) in l.log;
  over_a_run = λ w moves r. let l : _ = reached_later r moves in l.log;
}
