use Rattle.craq_recovery.proofs.Tails.{entries_reach_all}
use Rattle.craq_recovery.proofs.entries_reach_the_tail.Goals as goal

pub returns : goal.returns
returns c = λ chain run count least typed ready holds numbers. entries_reach_all chain run count least typed ready holds numbers
