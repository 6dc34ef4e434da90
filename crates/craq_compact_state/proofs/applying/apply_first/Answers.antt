use Rattle.std.proofs.Common.{◌≡◌, ◌≤◌, ◌-◌, List, take, ap, refl, arith}
use Rattle.craq_commands.specs.declared.entry.Entry.{Entry}
use Rattle.craq_log.specs.Suffixed.{length_of}
use Rattle.craq_compact_state.specs.Placed.{objects_of}
use Rattle.craq_compact_state.specs.Bytes.{bytes_of_entries}
use Rattle.craq_compact_state.proofs.Bytes.{counted_same, entry_counted}
use Rattle.craq_compact_state.proofs.Following.{next_applied, next_of_same}
use Rattle.craq_compact_state.proofs.Settling.{first_settled, left_is, indexed_left}
use Rattle.craq_compact_state.proofs.applying.apply_first.Goals as goal

pub apply_one-requires-clause-ready : goal.apply_one-requires-clause-ready
apply_one-requires-clause-ready c = c.in_ok-make_room.ensures.ready c.in-Some.entry (ap (λ (l : List Entry). take 1 l) c.in-Some.ensures.entries)

pub apply_one-requires-clause-room : goal.apply_one-requires-clause-room
apply_one-requires-clause-room c = c.in_ok-make_room.ensures.room c.in-Some.entry (ap (λ (l : List Entry). take 1 l) c.in-Some.ensures.entries)

pub returns-in-Some-clause-indexed : goal.returns-in-Some-clause-indexed
returns-in-Some-clause-indexed c =
    let old = c.args.entries.now in
    let new = c.take_first.new.self in
    let first = c.in-Some.ensures in
    let base = first.base in
    let indexed = c.make_room.new.indexed in
    let now = c.later.result in
    let before = c.make_room.ensures.indexed in
    let some = c.requires.some in
    let to = before.to in
    let is = c.later.ensures in
    let there = c.base.ensures in
    let low : old.base ≤ new.base = omega (arith, base) in
    let high : new.base ≤ length_of old = omega (arith, base, some) in
    let from : new.base ≤ now = omega (arith, is, there) in
    let end : now ≤ length_of old = omega (arith, is, there, to, high) in
    let same : now - new.base ≡ indexed - new.base = omega (arith, is, there) in
    indexed_left c.make_room.new.table c.apply_one.new.counted.table old new indexed now low high from end same (left_is old new c.in-Some.entry first) before (first_settled c.make_room.new.table c.apply_one.new.counted.table old new c.in-Some.entry first c.apply_one.ensures.later)

pub returns-in-Some-clause-next : goal.returns-in-Some-clause-next
returns-in-Some-clause-next c =
    next_applied (objects_of c.make_room.new.table) (objects_of c.apply_one.new.counted.table) c.make_room.new.replies.kept c.apply_one.new.replies.kept c.args.entries.now c.take_first.new.self c.in-Some.entry c.apply_one.ensures.state c.in-Some.ensures
    (next_of_same (objects_of c.args.counted.now.table) (objects_of c.make_room.new.table) c.args.entries.now.entries c.make_room.ensures.objects c.requires.next)

pub returns-in_err-make_room-clause-next : goal.returns-in_err-make_room-clause-next
returns-in_err-make_room-clause-next c = next_of_same (objects_of c.args.counted.now.table) (objects_of c.make_room.new.table) c.args.entries.now.entries c.make_room.ensures.objects c.requires.next

pub returns-in-Some-clause-counted : goal.returns-in-Some-clause-counted
returns-in-Some-clause-counted c =
    entry_counted c.args.counted.now.bytes c.apply_one.new.counted.bytes (objects_of c.args.counted.now.table) (objects_of c.make_room.new.table) (objects_of c.apply_one.new.counted.table) c.args.entries.now c.take_first.new.self c.in-Some.entry c.make_room.ensures.objects c.in-Some.ensures c.apply_one.ensures.counted c.requires.counted

pub returns-in_err-make_room-clause-counted : goal.returns-in_err-make_room-clause-counted
returns-in_err-make_room-clause-counted c =
    counted_same c.args.counted.now.bytes (objects_of c.args.counted.now.table) (objects_of c.make_room.new.table) (bytes_of_entries c.args.entries.now.entries) (bytes_of_entries c.args.entries.now.entries) c.make_room.ensures.objects refl c.requires.counted
