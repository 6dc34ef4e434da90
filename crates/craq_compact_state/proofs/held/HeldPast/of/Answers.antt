use Rattle.std.proofs.Common.{refl, ap}
use Rattle.craq_compact_state.specs.Bytes.{bytes_of_entries}
use Rattle.craq_compact_state.specs.Placed.{objects_of, state_at}
use Rattle.craq_compact_state.proofs.Bytes.{counted_same}
use Rattle.craq_compact_state.proofs.Entered.{none_indexed}
use Rattle.craq_compact_state.proofs.Following.{next_none}
use Rattle.craq_compact_state.proofs.held.HeldPast.of.Goals as goal

pub invariant_of-result : goal.invariant_of-result
invariant_of-result c =
    (c.in_ok-of.ensures.placed, none_indexed c.in_ok-of.field-0.table c.new.result c.args.base c.new.ensures.base c.new.ensures.entries c.in_ok-of.ensures.later, next_none (state_at (objects_of c.in_ok-of.field-0.table) c.in_ok-replies_placed.field-0.kept) c.new.result.entries c.new.ensures.entries, counted_same c.in_ok-of.field-0.bytes (objects_of c.in_ok-of.field-0.table) (objects_of c.in_ok-of.field-0.table) 0 (bytes_of_entries c.new.result.entries) refl (ap bytes_of_entries c.new.ensures.entries) c.in_ok-of.ensures.counted)
