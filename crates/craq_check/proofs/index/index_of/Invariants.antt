use Rattle.std.proofs.Common.{◌≡◌, ℕ, take}
use Rattle.craq_runs.specs.Seen.{ask_with}
use Rattle.craq_check.specs.Tests.{found_in}
use Rattle.craq_check.proofs.index.index_of.Given as goal

-- the index has the first request of each name so far
abbrev pub invariant-loop-ask : goal.invariant-loop-ask
invariant-loop-ask l = (node ticket : ℕ) → found_in l.index node ticket ≡ ask_with (take l.ask-index l.asks) node ticket
