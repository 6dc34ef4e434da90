use Rattle.std.proofs.Common.{◌-◌, ◌++◌, ◌∙◌, List, ap, drop}
use Rattle.craq_commands.specs.declared.entry.Write.{Write}
use Rattle.craq_compact_state.specs.Indexed.{written_in}
use Rattle.craq_compact_state.specs.Placed.{later_of}
use Rattle.craq_compact_state.specs.Room.{HasRoomForWrites}
use Rattle.craq_compact_state.proofs.Entered.{front_some, indexed_later, indexed_next, indexed_still}
use Rattle.craq_compact_state.proofs.Following.{next_indexed}
use Rattle.craq_compact_state.proofs.Results.{not_ok}
use Rattle.craq_compact_state.proofs.Rooms.{room_entry, room_first}
use Rattle.craq_compact_state.proofs.indexing.list_next.Goals as goal

pub list_writes-requires-clause-next : goal.list_writes-requires-clause-next
list_writes-requires-clause-next c =
    let e = c.index-from-0.result in
    let s = c.args.entries.now in
    let some = front_some s c.args.indexed.now c.from.result.now c.requires.indexed c.requires.more c.from.ensures.entries in
    rw c.as_slice.ensures (next_indexed c.args.table.now s c.args.indexed.now c.from.result.now e c.requires.placed.rising c.requires.indexed c.requires.next c.from.ensures.entries some c.index-from-0.is)

pub returns-in_err-list_writes-clause-indexed : goal.returns-in_err-list_writes-clause-indexed
returns-in_err-list_writes-clause-indexed c = indexed_still c.args.table.now c.list_writes.new.table c.args.entries.now c.args.indexed.now c.requires.indexed c.in_err-list_writes.ensures.err

pub returns-clause-ok : goal.returns-clause-ok
returns-clause-ok c =
    let indexed = c.requires.indexed in
    indexed_later c.args.entries.now c.args.indexed.now c.from.result.now c.index-from-0.result indexed.from c.requires.more c.from.ensures.entries c.from.ensures.in_row c.index-from-0.is

pub returns-clause-indexed : goal.returns-clause-indexed
returns-clause-indexed c =
    let e = c.index-from-0.result in
    let more = c.in_ok-list_writes.ensures.ok in
    indexed_next c.args.table.now c.list_writes.new.table c.args.entries.now c.args.indexed.now c.from.result.now e c.requires.indexed c.requires.more c.from.ensures.entries c.from.ensures.in_row c.index-from-0.is
    (λ q. more q ∙ ap (λ (ws : List Write). later_of c.args.table.now q ++ written_in e.position 0 ws q) c.as_slice.ensures)

pub returns-in_err-list_writes-clause-succeeds : goal.returns-in_err-list_writes-clause-succeeds
returns-in_err-list_writes-clause-succeeds c = λ has.
    let s = c.args.entries.now in
    let some = front_some s c.args.indexed.now c.from.result.now c.requires.indexed c.requires.more c.from.ensures.entries in
    let room : HasRoomForWrites c.args.table.now c.as_slice.result.now = rw c.as_slice.ensures (room_first c.args.table.now (drop (c.args.indexed.now - s.base) s.entries) c.from.result.now c.index-from-0.result c.from.ensures.entries some c.index-from-0.is has) in
    absurd (not_ok (c.in_err-list_writes.ensures.succeeds room))

pub returns-clause-room : goal.returns-clause-room
returns-clause-room c =
    let s = c.args.entries.now in
    let e = c.index-from-0.result in
    let some = front_some s c.args.indexed.now c.from.result.now c.requires.indexed c.requires.more c.from.ensures.entries in
    let kept = c.in_ok-list_writes.ensures.room in
    room_entry c.args.table.now c.list_writes.new.table (drop (c.args.indexed.now - s.base) s.entries) c.from.result.now e c.from.ensures.entries some c.index-from-0.is
    (λ q. rw (← c.as_slice.ensures) (kept q))
