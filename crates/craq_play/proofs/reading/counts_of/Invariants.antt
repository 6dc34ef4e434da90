use Rattle.std.proofs.Common.{◌≡◌, ◌++◌, map, drop}
use Rattle.serde_json.specs.View.{view}
use Rattle.craq_play.specs.Explained.{count_data}
use Rattle.craq_play.proofs.reading.counts_of.Given as goal

-- the counts are the items so far
abbrev pub invariant-loop-index : goal.invariant-loop-index
invariant-loop-index l = map count_data l.counts ++ map view (drop l.index l.items) ≡ map view l.items
