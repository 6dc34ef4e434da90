use Rattle.std.proofs.Common.{◌≡◌, ◌++◌, map, drop}
use Rattle.serde_json.specs.View.{view}
use Rattle.craq_play.specs.Explained.{count_data}
use Rattle.craq_play.proofs.explanation.counts_value.Given as goal

-- the items are the counts so far
abbrev pub invariant-loop-count : goal.invariant-loop-count
invariant-loop-count l = map view l.items.items ++ map count_data (drop l.count-index l.counts) ≡ map count_data l.counts
