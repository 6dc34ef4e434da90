use Rattle.std.proofs.Common.{◌≡◌, ◌+◌, ◌++◌, [], drop}
use Rattle.craq_runs.specs.Seen.{answers_from}
use Rattle.craq_check.proofs.seen.answers_of.Given as goal

-- the replies so far, and then those of the rest
abbrev pub invariant-loop-taken : goal.invariant-loop-taken
invariant-loop-taken l = record {
  count : l.number ≡ l.taken-index;
  goes_on : l.answers.items ++ answers_from (l.number + 1) l.receivers.items (drop l.taken-index l.moves) ≡ answers_from 1 [] l.moves;
}
