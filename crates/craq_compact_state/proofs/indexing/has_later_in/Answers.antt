use Rattle.std.proofs.Common.{ℕ, List, ap, ◌∙◌}
use Rattle.craq_compact_state.specs.declared.value_locations.ValueLocation.{ValueLocation}
use Rattle.craq_compact_state.specs.Placed.{has_some, later_in}
use Rattle.craq_compact_state.proofs.Placing.{found_here, none_here}
use Rattle.craq_compact_state.proofs.indexing.has_later_in.Goals as goal

pub returns-in-None : goal.returns-in-None
returns-in-None c = ap (λ (vs : List (ℕ × ValueLocation)). has_some (later_in vs)) (none_here c.args.table.now c.args.key.now c.in-None.ensures)

pub returns-in-Some : goal.returns-in-Some
returns-in-Some c = c.has_later.ensures ∙ ap (λ (vs : List (ℕ × ValueLocation)). has_some (later_in vs)) (found_here c.args.table.now c.args.key.now c.in-Some.list.now c.in-Some.ensures)
