use Rattle.std.proofs.Common.{suc}
use Rattle.craq_recovery.specs.Recovered.{chain_after_moves, rounds_to_recover}
use Rattle.craq_recovery.proofs.Accounts.{have_numbers}
use Rattle.craq_recovery.proofs.Whole.{recover_in_rounds}
use Rattle.craq_recovery.proofs.chains_recover.Goals as goal

pub returns : goal.returns
returns c = λ chain run count typed all some room. recover_in_rounds chain run count typed all some (have_numbers chain run (suc (suc count)) (rounds_to_recover (chain_after_moves chain run)) typed.run_of room)
