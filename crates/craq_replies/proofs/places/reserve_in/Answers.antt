use Rattle.std.proofs.Common.{ap, arith, rules}
use Rattle.std.proofs.lemmas.Result.{on_ok_weaker}
use Rattle.std.specs.Prelude.{is_some}
use Rattle.craq_replies.proofs.Tables.{no_room, kept_stays, rooms_kept, room_here, room_old}
use Rattle.craq_replies.proofs.places.reserve_in.Goals as goal

pub returns-in-Some-clause-kept : goal.returns-in-Some-clause-kept
returns-in-Some-clause-kept c =
    kept_stays c.args.places.now.entries _ c.args.client c.in-Some.held.now c.reserve.new.self c.get_mut.ensures.ordered (c.get_mut.follows.holds c.reserve.new.self).4 c.in-Some.ensures.value
    ((c.get_mut.follows.holds c.reserve.new.self).3 (search rules)).0 c.reserve.ensures.replies

pub returns-in-Some-clause-room : goal.returns-in-Some-clause-room
returns-in-Some-clause-room c =
    let old = room_old c.args.places.now.entries c.args.client c.in-Some.held.now c.in-Some.ensures.value in
    rooms_kept c.args.places.now.entries _ c.args.client c.reserve.new.self (omega (arith, old, c.reserve.ensures.room)) ((c.get_mut.follows.holds c.reserve.new.self).3 (search rules)).0

pub returns-in-Some-clause-ok : goal.returns-in-Some-clause-ok
returns-in-Some-clause-ok c =
    let here = room_here c.args.places.now.entries _ c.args.client c.reserve.new.self ((c.get_mut.follows.holds c.reserve.new.self).3 (search rules)).0 in
    on_ok_weaker c.reserve.result (λ room. omega (arith, here, room)) c.reserve.ensures.ok

pub returns-in-Some-clause-succeeds : goal.returns-in-Some-clause-succeeds
returns-in-Some-clause-succeeds c =
    let old = room_old c.args.places.now.entries c.args.client c.in-Some.held.now c.in-Some.ensures.value in
    λ room. c.reserve.ensures.succeeds (omega (arith, old, room))

pub returns-in-None-clause-succeeds : goal.returns-in-None-clause-succeeds
returns-in-None-clause-succeeds c = λ room. absurd (no_room c.args.places.now.entries c.args.client (ap is_some c.in-None.ensures.value) room)
