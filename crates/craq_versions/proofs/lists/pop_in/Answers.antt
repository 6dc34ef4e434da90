use Rattle.std.proofs.Common.{arith, refl}
use Rattle.craq_key_map.specs.Mapped.{entries_of}
use Rattle.craq_versions.proofs.Taken.{put_back, rise, was, was_none}
use Rattle.craq_versions.proofs.Written.{held_popped, none_popped, room_old, rooms_kept}
use Rattle.craq_versions.proofs.lists.pop_in.Goals as goal

pub returns-in-Some-clause-held : goal.returns-in-Some-clause-held
returns-in-Some-clause-held g c =
    let m = c.args.lists.now in
    let k = c.replace.new.self in
    let key = c.args.key.now in
    let old = was m key c.replace-list.result (c.replace-list.ensures.old key c.in-Some.ensures.some) in
    let written = put_back m c.replace-list.new.self k c.in-Some.place key c.new.result c.pop.new.self c.in-Some.ensures.some c.replace-list.ensures.new c.replace-list.ensures.place c.replace.ensures.new in
    held_popped (entries_of m) (entries_of k) key c.replace-list.result c.pop.new.self (rise m) (rise k) old written c.pop.ensures.were_versions c.pop.ensures.are_versions c.pop.ensures.versions c.pop.ensures.clean

pub returns-in-Some-clause-room : goal.returns-in-Some-clause-room
returns-in-Some-clause-room g c =
    let m = c.args.lists.now in
    let k = c.replace.new.self in
    let key = c.args.key.now in
    let old = was m key c.replace-list.result (c.replace-list.ensures.old key c.in-Some.ensures.some) in
    let written = put_back m c.replace-list.new.self k c.in-Some.place key c.new.result c.pop.new.self c.in-Some.ensures.some c.replace-list.ensures.new c.replace-list.ensures.place c.replace.ensures.new in
    let before = room_old (entries_of m) key c.replace-list.result old in
    rooms_kept (entries_of m) (entries_of k) key c.pop.new.self (omega (arith, before, c.pop.ensures.room)) written

pub returns-in_default-clause-held : goal.returns-in_default-clause-held
returns-in_default-clause-held g c =
    let m = c.args.lists.now in
    none_popped (entries_of m) (entries_of m) c.args.key.now (rise m) refl (was_none m c.args.key.now c.in_default.ensures.none)
