-- Encodes a linearization witness as JSON.
use Rattle.std.specs.Prelude.{ℕ, List, [], ◌∷◌, map, codes}
use Rattle.serde_json.specs.Data.{Data, number, unsigned, array, object, member, no_members}
use Rattle.serde_json.specs.View.{items_of}
use Rattle.serde_json.specs.Written.{compact_text}
use Rattle.craq_runs.specs.declared.explanation.Explanation.{Explanation}
use Rattle.craq_runs.specs.declared.explanation.Place.{Place}

abbrev pub count_data : ℕ → Data
count_data n = number (unsigned n)

abbrev pub counts_data : List ℕ → Data
counts_data ns = array (items_of (map count_data ns))

-- a linearization point is an array of its node, ticket and position
abbrev pub place_data : Place → Data
place_data p = counts_data (p.node ∷ p.ticket ∷ p.position ∷ [])

abbrev pub places_data : List Place → Data
places_data ps = array (items_of (map place_data ps))

unfoldable pub explanation_data : Explanation → Data
explanation_data e =
    object (member (codes "asks") (counts_data e.asks) (member (codes "lens") (counts_data e.lens) (member (codes "places") (places_data e.places) no_members)))

-- the compact JSON of a linearization witness
unfoldable pub explanation_text : Explanation → List ℕ
explanation_text e = compact_text (explanation_data e)
