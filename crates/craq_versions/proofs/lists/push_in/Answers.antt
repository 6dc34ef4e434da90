use Rattle.std.proofs.Common.{arith, refl, rules, sym}
use Rattle.std.proofs.lemmas.Result.{on_ok_weaker, on_err_weaker}
use Rattle.craq_key_map.specs.Mapped.{entries_of}
use Rattle.craq_versions.proofs.Taken.{put_back, rise, was, was_none}
use Rattle.craq_versions.proofs.Written.{first_pushed, held_versions, no_list_room, none_first, objects_pushed, objects_stay, others_kept, room_here, room_old}
use Rattle.craq_versions.proofs.lists.push_in.Goals as goal

pub push-pushed-requires : goal.push-pushed-requires
push-pushed-requires g c =
    let m = c.args.lists.now in
    let key = c.args.key.now in
    let old = was m key c.replace-list.result (c.replace-list.ensures.old key c.in-Some.ensures.some) in
    rw (← held_versions (entries_of m) key c.replace-list.result (rise m) old) c.requires.next

pub returns-in-Some-clause-ok : goal.returns-in-Some-clause-ok
returns-in-Some-clause-ok g c =
    let m = c.args.lists.now in
    let k = c.replace.new.self in
    let key = c.args.key.now in
    let es = entries_of m in
    let gs = entries_of k in
    let old = was m key c.replace-list.result (c.replace-list.ensures.old key c.in-Some.ensures.some) in
    let written = put_back m c.replace-list.new.self k c.in-Some.place key c.new.result c.push-pushed.new.self c.in-Some.ensures.some c.replace-list.ensures.new c.replace-list.ensures.place c.replace.ensures.new in
    on_ok_weaker c.push-pushed.result
    (λ versions. objects_pushed es gs key c.replace-list.result c.push-pushed.new.self c.args.version c.args.held (rise m) (rise k) old written c.push-pushed.ensures.were_versions versions c.push-pushed.ensures.clean)
    c.push-pushed.ensures.ok

pub returns-in-Some-clause-err : goal.returns-in-Some-clause-err
returns-in-Some-clause-err g c =
    let m = c.args.lists.now in
    let k = c.replace.new.self in
    let key = c.args.key.now in
    let es = entries_of m in
    let gs = entries_of k in
    let old = was m key c.replace-list.result (c.replace-list.ensures.old key c.in-Some.ensures.some) in
    let written = put_back m c.replace-list.new.self k c.in-Some.place key c.new.result c.push-pushed.new.self c.in-Some.ensures.some c.replace-list.ensures.new c.replace-list.ensures.place c.replace.ensures.new in
    on_err_weaker c.push-pushed.result
    (λ versions. objects_stay es gs key c.replace-list.result c.push-pushed.new.self (rise m) (rise k) old written versions c.push-pushed.ensures.clean)
    c.push-pushed.ensures.err

pub returns-in-Some-clause-room : goal.returns-in-Some-clause-room
returns-in-Some-clause-room g c =
    let m = c.args.lists.now in
    let k = c.replace.new.self in
    let key = c.args.key.now in
    let es = entries_of m in
    let gs = entries_of k in
    let old = was m key c.replace-list.result (c.replace-list.ensures.old key c.in-Some.ensures.some) in
    let written = put_back m c.replace-list.new.self k c.in-Some.place key c.new.result c.push-pushed.new.self c.in-Some.ensures.some c.replace-list.ensures.new c.replace-list.ensures.place c.replace.ensures.new in
    let before = room_old es key c.replace-list.result old in
    let here = room_here es gs key c.push-pushed.new.self written in
    omega (arith, before, here, c.push-pushed.ensures.room)

pub returns-in-Some-clause-rooms : goal.returns-in-Some-clause-rooms
returns-in-Some-clause-rooms g c =
    let m = c.args.lists.now in
    let k = c.replace.new.self in
    let key = c.args.key.now in
    let es = entries_of m in
    let gs = entries_of k in
    let old = was m key c.replace-list.result (c.replace-list.ensures.old key c.in-Some.ensures.some) in
    let written = put_back m c.replace-list.new.self k c.in-Some.place key c.new.result c.push-pushed.new.self c.in-Some.ensures.some c.replace-list.ensures.new c.replace-list.ensures.place c.replace.ensures.new in
    others_kept es gs key c.push-pushed.new.self written

pub returns-in-Some-clause-succeeds : goal.returns-in-Some-clause-succeeds
returns-in-Some-clause-succeeds g c =
    let m = c.args.lists.now in
    let k = c.replace.new.self in
    let key = c.args.key.now in
    let es = entries_of m in
    let gs = entries_of k in
    let old = was m key c.replace-list.result (c.replace-list.ensures.old key c.in-Some.ensures.some) in
    let written = put_back m c.replace-list.new.self k c.in-Some.place key c.new.result c.push-pushed.new.self c.in-Some.ensures.some c.replace-list.ensures.new c.replace-list.ensures.place c.replace.ensures.new in
    let before = room_old es key c.replace-list.result old in
    λ room. c.push-pushed.ensures.succeeds (omega (arith, before, room))

pub returns-in_err-list-in-None-clause-succeeds : goal.returns-in_err-list-in-None-clause-succeeds
returns-in_err-list-in-None-clause-succeeds g c =
    let m = c.args.lists.now in
    let key = c.args.key.now in
    let none = was_none m key c.in-None.ensures.none in
    λ room. absurd (none_first (entries_of m) key none room)

pub returns-in_err-key-in-None-clause-succeeds : goal.returns-in_err-key-in-None-clause-succeeds
returns-in_err-key-in-None-clause-succeeds g c =
    let m = c.args.lists.now in
    let key = c.args.key.now in
    let none = was_none m key c.in-None.ensures.none in
    λ room. absurd (none_first (entries_of m) key none room)

pub returns-in_ok-key-in-None-clause-ok : goal.returns-in_ok-key-in-None-clause-ok
returns-in_ok-key-in-None-clause-ok g c =
    let m = c.args.lists.now in
    let key = c.args.key.now in
    let none = was_none m key c.in-None.ensures.none in
    let es = entries_of m in
    on_ok_weaker c.put_list.result
    (λ put. first_pushed es es (entries_of c.put_list.new.lists) key c.in_ok-key-in-None.key c.args.version c.args.held c.in_ok-list-in-None.list (rise m) refl (search rules) none c.in_ok-list-in-None.ensures.versions c.in_ok-list-in-None.ensures.clean put)
    c.put_list.ensures.ok

pub returns-in_ok-key-in-None-clause-room : goal.returns-in_ok-key-in-None-clause-room
returns-in_ok-key-in-None-clause-room g c =
    let m = c.args.lists.now in
    let key = c.args.key.now in
    let none = was_none m key c.in-None.ensures.none in
    let empty = no_list_room (entries_of m) key 0 (sym none) in
    omega (arith, empty)

pub returns-in_ok-key-in-None-clause-succeeds : goal.returns-in_ok-key-in-None-clause-succeeds
returns-in_ok-key-in-None-clause-succeeds g c =
    let m = c.args.lists.now in
    let key = c.args.key.now in
    let none = was_none m key c.in-None.ensures.none in
    λ room. absurd (none_first (entries_of m) key none room)
