use Rattle.std.proofs.Common.{◌≡◌, ◌++◌, drop}
use Rattle.craq_runs.specs.Seen.{receivers_in}
use Rattle.craq_check.proofs.seen.push_receivers.Given as goal

-- the receivers so far, and then those of the rest
abbrev pub invariant-loop-out : goal.invariant-loop-out
invariant-loop-out l = l.receivers.items ++ receivers_in (drop l.out-index l.outs) ≡ l.fn.receivers.items ++ receivers_in l.outs
