use Rattle.std.proofs.Common.{ℕ, List, None, ap, ◌∙◌}
use Rattle.std.specs.Prelude.{unwrap_or}
use Rattle.std.specs.List.{last_or}
use Rattle.craq_client_index.proofs.Placing.{none_there, positions_there}
use Rattle.craq_client_index.proofs.places.newest_position.Goals as goal

pub returns-in-Some : goal.returns-in-Some
returns-in-Some c = c.newest_or.ensures ∙ ap (λ (l : List ℕ). unwrap_or (last_or None l) c.args.none) (positions_there c.args.places.now.entries c.args.client c.in-Some.positions.now (rw c.get.ensures at c.in-Some.ensures.value))

pub returns-in-None : goal.returns-in-None
returns-in-None c = ap (λ (l : List ℕ). unwrap_or (last_or None l) c.args.none) (none_there c.args.places.now.entries c.args.client (rw c.get.ensures at c.in-None.ensures.value))
