use Rattle.std.proofs.Common.{◌≡◌, ◌++◌, map, drop}
use Rattle.serde_json.specs.View.{view}
use Rattle.craq_play.specs.Explained.{place_data}
use Rattle.craq_play.proofs.explanation.places_value.Given as goal

-- the items are the linearization points so far
abbrev pub invariant-loop-place : goal.invariant-loop-place
invariant-loop-place l = map view l.items.items ++ map place_data (drop l.place-index l.places) ≡ map place_data l.places
