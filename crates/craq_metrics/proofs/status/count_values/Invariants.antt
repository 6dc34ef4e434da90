use Rattle.std.proofs.Common.{◌≡◌, ◌++◌, map, drop}
use Rattle.serde_json.specs.View.{view}
use Rattle.craq_metrics.specs.Status.{number_of}
use Rattle.craq_metrics.proofs.status.count_values.Given as goal

-- the items are the counts so far
abbrev pub invariant-loop-count : goal.invariant-loop-count
invariant-loop-count l = map view l.items.items ++ map number_of (drop l.count-index l.counts) ≡ map number_of l.counts
