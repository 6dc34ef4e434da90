use Rattle.std.proofs.Common.{◌∙◌, arith}
use Rattle.craq_replies.proofs.Tables.{kept_placed, rooms_kept, no_place_room, room_here}
use Rattle.craq_replies.proofs.places.put_room.Goals as goal

pub returns-clause-kept : goal.returns-clause-kept
returns-clause-kept c =
    kept_placed c.args.places.now.entries c.insert.new.self.entries c.args.client c.reserve.new.self c.insert.ensures.was_ordered c.insert.ensures.ordered c.requires.absent c.in_ok-insert.ensures.updates.0 (c.reserve.ensures.replies ∙ c.requires.empty)

pub returns-clause-room : goal.returns-clause-room
returns-clause-room c =
    rooms_kept c.args.places.now.entries c.insert.new.self.entries c.args.client c.reserve.new.self (no_place_room c.args.places.now.entries c.args.client c.reserve.new.self.room c.requires.absent) c.in_ok-insert.ensures.updates.0

pub returns-clause-ok : goal.returns-clause-ok
returns-clause-ok c =
    let here = room_here c.args.places.now.entries c.insert.new.self.entries c.args.client c.reserve.new.self c.in_ok-insert.ensures.updates.0 in
    omega (arith, here, c.in_ok-reserve.ensures.ok)
