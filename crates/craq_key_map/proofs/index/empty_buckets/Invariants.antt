use Rattle.std.proofs.Common.{◌≡◌, length}
use Rattle.craq_key_map.proofs.index.empty_buckets.Given as goal

-- a bucket was made in each round
abbrev pub invariant-loop : goal.invariant-loop
invariant-loop l = length l.buckets ≡ l.counter
