use Rattle.std.proofs.Common.{ap, arith, rules}
use Rattle.std.proofs.lemmas.Result.{on_ok_weaker, on_err_weaker}
use Rattle.std.specs.Prelude.{is_some}
use Rattle.craq_replies.proofs.Tables.{no_room, kept_more, kept_stays, others_kept, room_old}
use Rattle.craq_replies.proofs.places.keep_in_place.Goals as goal

pub returns-in-Some-clause-ok : goal.returns-in-Some-clause-ok
returns-in-Some-clause-ok c =
    on_ok_weaker c.keep.result
    (λ replies. kept_more c.args.places.now.entries _ c.args.client c.in-Some.held.now c.keep.new.self c.args.number c.args.reply c.get_mut.ensures.ordered (c.get_mut.follows.holds c.keep.new.self).4 c.in-Some.ensures.value
    ((c.get_mut.follows.holds c.keep.new.self).3 (search rules)).0 replies)
    c.keep.ensures.ok

pub returns-in-Some-clause-err : goal.returns-in-Some-clause-err
returns-in-Some-clause-err c =
    on_err_weaker c.keep.result
    (λ replies. kept_stays c.args.places.now.entries _ c.args.client c.in-Some.held.now c.keep.new.self c.get_mut.ensures.ordered (c.get_mut.follows.holds c.keep.new.self).4 c.in-Some.ensures.value
    ((c.get_mut.follows.holds c.keep.new.self).3 (search rules)).0 replies)
    c.keep.ensures.err

pub returns-in-Some-clause-rooms : goal.returns-in-Some-clause-rooms
returns-in-Some-clause-rooms c = others_kept c.args.places.now.entries _ c.args.client c.keep.new.self ((c.get_mut.follows.holds c.keep.new.self).3 (search rules)).0

pub returns-in-Some-clause-succeeds : goal.returns-in-Some-clause-succeeds
returns-in-Some-clause-succeeds c =
    let old = room_old c.args.places.now.entries c.args.client c.in-Some.held.now c.in-Some.ensures.value in
    λ room. c.keep.ensures.succeeds (omega (arith, old, room))

pub returns-in-None-clause-succeeds : goal.returns-in-None-clause-succeeds
returns-in-None-clause-succeeds c = λ room. absurd (no_room c.args.places.now.entries c.args.client (ap is_some c.in-None.ensures.value) room)
