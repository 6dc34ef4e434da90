use Rattle.craq_compact_state.proofs.Clean.{placed_pushed, placed_same}
use Rattle.craq_compact_state.proofs.Placing.{later_pushed, later_same, objects_pushed, objects_same, versions_pushed}
use Rattle.craq_compact_state.proofs.Rooms.{room_pushed}
use Rattle.craq_compact_state.proofs.Results.{either, err_then, ok_then}
use Rattle.craq_compact_state.proofs.indexing.push_version.Goals as goal

pub returns-clause-objects : goal.returns-clause-objects
returns-clause-objects c =
    either c.push.result (ok_then c.push.result (λ is. objects_pushed c.args.table.now c.push.new.self c.args.key.now c.args.version c.args.at c.requires.placed.rising is) c.push.ensures.ok)
    (err_then c.push.result (λ is. objects_same c.args.table.now c.push.new.self is) c.push.ensures.err)

pub returns-clause-ok : goal.returns-clause-ok
returns-clause-ok c = ok_then c.push.result (λ is. versions_pushed c.args.table.now c.push.new.self c.args.key.now c.args.version c.args.at is) c.push.ensures.ok

pub returns-clause-later : goal.returns-clause-later
returns-clause-later c = ok_then c.push.result (λ is. later_pushed c.args.table.now c.push.new.self c.args.key.now c.args.version c.args.at is) c.push.ensures.ok

pub returns-clause-err : goal.returns-clause-err
returns-clause-err c = err_then c.push.result (λ is. later_same c.args.table.now c.push.new.self is) c.push.ensures.err

pub returns-clause-placed : goal.returns-clause-placed
returns-clause-placed c =
    either c.push.result (ok_then c.push.result (λ is. placed_pushed c.args.table.now c.push.new.self c.args.key.now c.args.version c.args.at is c.requires.placed) c.push.ensures.ok)
    (err_then c.push.result (λ is. placed_same c.args.table.now c.push.new.self is c.requires.placed) c.push.ensures.err)

pub returns-clause-room : goal.returns-clause-room
returns-clause-room c = room_pushed c.args.table.now c.push.new.self c.args.key.now c.push.ensures.room c.push.ensures.rooms
