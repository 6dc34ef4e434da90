use Rattle.std.proofs.Common.{arith}
use Rattle.std.proofs.lemmas.Result.{on_ok_weaker}
use Rattle.craq_key_map.specs.Mapped.{entries_of}
use Rattle.craq_versions.proofs.Taken.{put_back, rise, was}
use Rattle.craq_versions.proofs.Written.{objects_stay, rooms_kept, room_here, room_old}
use Rattle.craq_versions.proofs.lists.reserve_in.Goals as goal

pub returns-in-Some-clause-objects : goal.returns-in-Some-clause-objects
returns-in-Some-clause-objects g c =
    let m = c.args.lists.now in
    let k = c.replace.new.self in
    let key = c.args.key.now in
    let old = was m key c.replace-list.result (c.replace-list.ensures.old key c.in-Some.ensures.some) in
    let written = put_back m c.replace-list.new.self k c.in-Some.place key c.new.result c.reserve-reserved.new.self c.in-Some.ensures.some c.replace-list.ensures.new c.replace-list.ensures.place c.replace.ensures.new in
    objects_stay (entries_of m) (entries_of k) key c.replace-list.result c.reserve-reserved.new.self (rise m) (rise k) old written c.reserve-reserved.ensures.versions c.reserve-reserved.ensures.clean

pub returns-in-Some-clause-room : goal.returns-in-Some-clause-room
returns-in-Some-clause-room g c =
    let m = c.args.lists.now in
    let k = c.replace.new.self in
    let key = c.args.key.now in
    let old = was m key c.replace-list.result (c.replace-list.ensures.old key c.in-Some.ensures.some) in
    let written = put_back m c.replace-list.new.self k c.in-Some.place key c.new.result c.reserve-reserved.new.self c.in-Some.ensures.some c.replace-list.ensures.new c.replace-list.ensures.place c.replace.ensures.new in
    let before = room_old (entries_of m) key c.replace-list.result old in
    rooms_kept (entries_of m) (entries_of k) key c.reserve-reserved.new.self (omega (arith, before, c.reserve-reserved.ensures.room)) written

pub returns-in-Some-clause-ok : goal.returns-in-Some-clause-ok
returns-in-Some-clause-ok g c =
    let m = c.args.lists.now in
    let k = c.replace.new.self in
    let key = c.args.key.now in
    let old = was m key c.replace-list.result (c.replace-list.ensures.old key c.in-Some.ensures.some) in
    let written = put_back m c.replace-list.new.self k c.in-Some.place key c.new.result c.reserve-reserved.new.self c.in-Some.ensures.some c.replace-list.ensures.new c.replace-list.ensures.place c.replace.ensures.new in
    let here = room_here (entries_of m) (entries_of k) key c.reserve-reserved.new.self written in
    on_ok_weaker c.reserve-reserved.result (λ room. omega (arith, here, room)) c.reserve-reserved.ensures.ok

pub returns-in-Some-clause-succeeds : goal.returns-in-Some-clause-succeeds
returns-in-Some-clause-succeeds g c =
    let m = c.args.lists.now in
    let k = c.replace.new.self in
    let key = c.args.key.now in
    let old = was m key c.replace-list.result (c.replace-list.ensures.old key c.in-Some.ensures.some) in
    let written = put_back m c.replace-list.new.self k c.in-Some.place key c.new.result c.reserve-reserved.new.self c.in-Some.ensures.some c.replace-list.ensures.new c.replace-list.ensures.place c.replace.ensures.new in
    let before = room_old (entries_of m) key c.replace-list.result old in
    λ room. c.reserve-reserved.ensures.succeeds (omega (arith, before, room))
