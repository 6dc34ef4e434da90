use Rattle.std.proofs.Common.{suc}
use Rattle.craq_recovery.specs.Recovered.{chain_after_moves, rounds_to_recover}
use Rattle.craq_recovery.proofs.Accounts.{have_numbers}
use Rattle.craq_recovery.proofs.AllAnswered.{asks_answered}
use Rattle.craq_recovery.proofs.waiting_asks_are_answered.Goals as goal

pub returns : goal.returns
returns c = λ chain run count id ticket typed all some room member waits. asks_answered chain run count id ticket typed all some (have_numbers chain run (suc (suc count)) (rounds_to_recover (chain_after_moves chain run)) typed.run_of room) member waits
