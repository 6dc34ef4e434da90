use Rattle.std.proofs.Common.{refl, sym, ap, ◌∙◌}
use Rattle.craq_compact_state.specs.Bytes.{bytes_of_entries}
use Rattle.craq_compact_state.specs.Placed.{objects_of, state_at}
use Rattle.craq_compact_state.proofs.Bytes.{counted_same}
use Rattle.craq_compact_state.proofs.Entered.{none_indexed}
use Rattle.craq_compact_state.proofs.Following.{next_none}
use Rattle.craq_compact_state.proofs.Placing.{new_is_empty}
use Rattle.craq_compact_state.proofs.held.HeldPast.new.Goals as goal

pub invariant_of-result : goal.invariant_of-result
invariant_of-result c =
    let empty = new_is_empty c.new.result.table c.new.ensures.objects in
    (empty.2, none_indexed c.new.result.table c.new-4.result c.new-5.result (c.new-4.ensures.base ∙ c.new-3.ensures ∙ sym c.new-5.ensures) c.new-4.ensures.entries empty.1, next_none (state_at (objects_of c.new.result.table) c.new-2.result.kept) c.new-4.result.entries c.new-4.ensures.entries, counted_same c.new.result.bytes (objects_of c.new.result.table) (objects_of c.new.result.table) 0 (bytes_of_entries c.new-4.result.entries) refl (ap bytes_of_entries c.new-4.ensures.entries) c.new.ensures.counted)
