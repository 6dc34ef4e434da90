use Rattle.std.proofs.Common.{◌≡◌, ◌++◌, drop}
use Rattle.craq_runs.specs.Seen.{answers_in}
use Rattle.craq_check.proofs.seen.push_answers.Given as goal

-- the replies so far, and then those of the rest
abbrev pub invariant-loop-out : goal.invariant-loop-out
invariant-loop-out l = l.answers.items ++ answers_in l.number l.node (drop l.out-index l.outs) ≡ l.fn.answers.items ++ answers_in l.number l.node l.outs
