-- The JSON of a linearization witness has no floating-point number.
use Rattle.std.proofs.Common.{◌≡◌, ℕ, false, List, [], ◌∷◌, map, refl}
use Rattle.serde_json.specs.View.{items_of}
use Rattle.serde_json.specs.Written.{has_float, items_have_float}
use Rattle.craq_runs.specs.declared.explanation.Explanation.{Explanation}
use Rattle.craq_runs.specs.declared.explanation.Place.{Place}
use Rattle.craq_play.specs.Explained.{count_data, place_data, explanation_data}

counts : (ns : List ℕ) → items_have_float (items_of (map count_data ns)) ≡ false
counts [] = refl
counts (n ∷ ns) = counts ns

places : (ps : List Place) → items_have_float (items_of (map place_data ps)) ≡ false
places [] = refl
places (p ∷ ps) = places ps

pub none_in : (e : Explanation) → has_float (explanation_data e) ≡ false
unfolding explanation_data
none_in e = rw (counts e.asks, counts e.lens, places e.places) refl
