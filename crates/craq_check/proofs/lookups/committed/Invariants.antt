use Rattle.std.proofs.Common.{◌≡◌, ◌++◌, drop}
use Rattle.std.specs.Prelude.{filter_map}
use Rattle.craq_runs.specs.Seen.{asks_from, update_at}
use Rattle.craq_check.proofs.lookups.committed.Given as goal

-- the updates so far, and then those of the rest
abbrev pub invariant-loop-number : goal.invariant-loop-number
invariant-loop-number l = l.updates.items ++ filter_map (update_at (asks_from 1 l.moves)) (drop l.number-index l.numbers) ≡ filter_map (update_at (asks_from 1 l.moves)) l.numbers
