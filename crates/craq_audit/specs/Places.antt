-- The place of a call in an explanation of an audited run.
use Rattle.std.specs.Prelude.{◌≡◌, Contains}
use Rattle.craq_runs.specs.declared.explanation.Explanation.{Explanation}
use Rattle.craq_runs.specs.declared.explanation.Place.{Place}
use Rattle.craq_seat.specs.Calls.{Called}

-- the place of the reply to a call
pub record IsPlaceOf (e : Explanation) (c : Called) (p : Place) : Type 0 where
  pub there : Contains e.places p
  pub node : p.node ≡ c.call.asked.node
  pub ticket : p.ticket ≡ c.call.ticket
