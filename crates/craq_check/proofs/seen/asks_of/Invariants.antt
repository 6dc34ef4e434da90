use Rattle.std.proofs.Common.{◌≡◌, ◌+◌, ◌++◌, drop}
use Rattle.craq_runs.specs.Seen.{asks_from}
use Rattle.craq_check.proofs.seen.asks_of.Given as goal

-- the requests so far, and then those of the rest
abbrev pub invariant-loop-taken : goal.invariant-loop-taken
invariant-loop-taken l = record {
  count : l.number ≡ l.taken-index;
  goes_on : l.asks.items ++ asks_from (l.number + 1) (drop l.taken-index l.moves) ≡ asks_from 1 l.moves;
}
