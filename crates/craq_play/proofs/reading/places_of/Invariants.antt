use Rattle.std.proofs.Common.{◌≡◌, ◌++◌, map, drop}
use Rattle.serde_json.specs.View.{view}
use Rattle.craq_play.specs.Explained.{place_data}
use Rattle.craq_play.proofs.reading.places_of.Given as goal

-- the linearization points are the items so far
abbrev pub invariant-loop-index : goal.invariant-loop-index
invariant-loop-index l = map place_data l.places ++ map view (drop l.index l.items) ≡ map view l.items
