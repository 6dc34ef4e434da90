-- Defines the linearization witness that a JSON value encodes.
use Rattle.std.specs.Prelude.{◌≡◌, codes, Some}
use Rattle.serde_json.specs.Data.{Data}
use Rattle.serde_json.specs.Find.{get}
use Rattle.craq_runs.specs.declared.explanation.Explanation.{Explanation}
use Rattle.craq_play.specs.Explained.{counts_data, places_data}

-- the value's three members are those of the witness, as `explain` prints them
pub record IsReported (d : Data) (e : Explanation) : Type 0 where
  pub asks : get (codes "asks") d ≡ Some (counts_data e.asks)
  pub lens : get (codes "lens") d ≡ Some (counts_data e.lens)
  pub places : get (codes "places") d ≡ Some (places_data e.places)
