use Rattle.std.proofs.Common.{◌-◌, ◌∙◌, ℕ, arith}
use Rattle.craq_compact_state.specs.Placed.{objects_of}
use Rattle.craq_compact_state.proofs.Following.{next_of_same}
use Rattle.craq_compact_state.proofs.Results.{not_ok}
use Rattle.craq_compact_state.proofs.Rooms.{room_of_first, room_of_rest}
use Rattle.craq_compact_state.proofs.indexing.list_entries.Goals as goal

pub list_next-requires-clause-next : goal.list_next-requires-clause-next
list_next-requires-clause-next c = next_of_same (objects_of c.args.table.now) (objects_of c.loop-table.table) c.args.entries.now.entries c.loop-table.invariant.objects c.requires.next

pub loop-table-preserved : goal.loop-table-preserved
loop-table-preserved c =
    let before = c.loop-table.invariant in
    let next = c.in_ok-list_next.ensures.ok in
    let below = c.loop-table-test.true in
    let most = before.most in
    let more = before.more in
    let from = before.indexed.from in
    let n : ℕ = c.loop-table.indexed - c.args.entries.now.base in
    record {
      objects = c.list_next.ensures.objects ∙ before.objects;
      indexed = c.list_next.ensures.indexed;
      more = omega (arith, next, more);
      most = omega (arith, next, most, below, c.get.ensures);
      placed = c.list_next.ensures.placed;
      room = λ has. room_of_rest c.loop-table.table c.list_next.new.table n (c.list_next.new.indexed - c.args.entries.now.base) c.args.entries.now.entries (omega (arith, next, from)) (before.room has) c.in_ok-list_next.ensures.room;
    }

pub returns-in_err-list_next-clause-succeeds : goal.returns-in_err-list_next-clause-succeeds
returns-in_err-list_next-clause-succeeds c = λ has.
    let s = c.args.entries.now in
    absurd (not_ok (c.in_err-list_next.ensures.succeeds (room_of_first c.loop-table.table (c.loop-table.indexed - s.base) s.entries (c.loop-table.invariant.room has))))
