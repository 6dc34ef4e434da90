use Rattle.craq_updates.proofs.Replay.{state_replayed, made_of, as_many}
use Rattle.craq_updates.proofs.replay_is_the_single_copy.Goals as goal

pub returns : goal.returns
returns c = record { state = λ chain run count i. state_replayed chain run count i; updates = made_of; count = as_many }
