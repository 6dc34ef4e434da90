use Rattle.std.proofs.Common.{arith}
use Rattle.craq_key_map.specs.Mapped.{entries_of}
use Rattle.craq_versions.proofs.Taken.{put_back, rise, was, was_none}
use Rattle.craq_versions.proofs.Written.{settles_in, objects_settled, none_settles, rooms_kept, room_old}
use Rattle.craq_versions.proofs.lists.settle_in.Goals as goal

pub settle-requires : goal.settle-requires
settle-requires g c =
    let m = c.args.lists.now in
    let key = c.args.key.now in
    let old = was m key c.replace-list.result (c.replace-list.ensures.old key c.in-Some.ensures.some) in
    (settles_in (entries_of m) key c.replace-list.result c.args.version (rise m) old c.requires).1

pub returns-in-Some-clause-objects : goal.returns-in-Some-clause-objects
returns-in-Some-clause-objects g c =
    let m = c.args.lists.now in
    let k = c.replace.new.self in
    let key = c.args.key.now in
    let old = was m key c.replace-list.result (c.replace-list.ensures.old key c.in-Some.ensures.some) in
    let written = put_back m c.replace-list.new.self k c.in-Some.place key c.new.result c.settle.new.self c.in-Some.ensures.some c.replace-list.ensures.new c.replace-list.ensures.place c.replace.ensures.new in
    objects_settled (entries_of m) (entries_of k) key c.replace-list.result c.settle.new.self c.args.version (rise m) (rise k) (settles_in (entries_of m) key c.replace-list.result c.args.version (rise m) old c.requires).0 written c.settle.ensures.versions c.settle.ensures.some c.settle.ensures.clean

pub returns-in-Some-clause-room : goal.returns-in-Some-clause-room
returns-in-Some-clause-room g c =
    let m = c.args.lists.now in
    let k = c.replace.new.self in
    let key = c.args.key.now in
    let old = was m key c.replace-list.result (c.replace-list.ensures.old key c.in-Some.ensures.some) in
    let written = put_back m c.replace-list.new.self k c.in-Some.place key c.new.result c.settle.new.self c.in-Some.ensures.some c.replace-list.ensures.new c.replace-list.ensures.place c.replace.ensures.new in
    let before = room_old (entries_of m) key c.replace-list.result old in
    rooms_kept (entries_of m) (entries_of k) key c.settle.new.self (omega (arith, before, c.settle.ensures.room)) written

pub returns-in_default-clause-objects : goal.returns-in_default-clause-objects
returns-in_default-clause-objects g c =
    let m = c.args.lists.now in
    absurd (none_settles (entries_of m) c.args.key.now c.args.version (rise m) (was_none m c.args.key.now c.in_default.ensures.none) c.requires)
