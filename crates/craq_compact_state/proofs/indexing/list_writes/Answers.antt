use Rattle.std.proofs.Common.{◌∙◌, take, refl}
use Rattle.craq_versions.specs.Tables.{room_at}
use Rattle.craq_compact_state.specs.Placed.{later_of, versions_of}
use Rattle.craq_compact_state.proofs.Following.{next_pushed, push_next}
use Rattle.craq_compact_state.proofs.Rooms.{room_all, room_left, room_next, room_none}
use Rattle.craq_compact_state.proofs.Written.{taken_back, written_next, written_none}
use Rattle.craq_compact_state.proofs.indexing.list_writes.Goals as goal

pub loop-index-init : goal.loop-index-init
loop-index-init c = record {
  objects = refl;
  later = λ q. written_none (later_of c.args.table.now q) c.args.position q;
  next = c.requires.next;
  placed = c.requires.placed;
  room = λ q. room_none (room_at c.args.table.now q) c.args.writes.now q;
}

pub push_version-requires-clause-next : goal.push_version-requires-clause-next
push_version-requires-clause-next c =
    let w = c.index-writes-index.result in
    push_next (versions_of c.loop-index.table w.key) c.args.writes.now c.loop-index.index w c.loop-index-test.true c.index-writes-index.is (c.loop-index.invariant.next w.key)

pub returns-in-Err-clause-err : goal.returns-in-Err-clause-err
returns-in-Err-clause-err c = λ q.
    taken_back (later_of c.args.table.now q) (later_of c.push_version.new.table q) (later_of c.unlist.new.table q) c.args.position (take c.loop-index.index c.args.writes.now) q
    (c.in-Err.ensures.err q ∙ c.loop-index.invariant.later q) (c.unlist.ensures.later q)

pub returns-in-Err-clause-succeeds : goal.returns-in-Err-clause-succeeds
returns-in-Err-clause-succeeds c = λ has.
    c.in-Err.ensures.succeeds (room_left c.args.table.now c.loop-index.table c.args.writes.now c.loop-index.index c.index-writes-index.result c.loop-index-test.true c.index-writes-index.is has c.loop-index.invariant.room)

pub returns-clause-room : goal.returns-clause-room
returns-clause-room c = λ q. room_all (room_at c.args.table.now q) (room_at c.loop-index.table q) c.args.writes.now c.loop-index.index q c.loop-index.auto.index-end c.loop-index-test.false (c.loop-index.invariant.room q)

pub loop-index-preserved : goal.loop-index-preserved
loop-index-preserved c =
    let w = c.index-writes-index.result in
    record {
      objects = c.push_version.ensures.objects ∙ c.loop-index.invariant.objects;
      later = λ q. written_next (later_of c.args.table.now q) (later_of c.loop-index.table q) (later_of c.push_version.new.table q) c.args.position c.args.writes.now c.loop-index.index w q
          c.loop-index-test.true c.index-writes-index.is (c.loop-index.invariant.later q) (c.in_default.ensures.later q);
      next = λ q. next_pushed (versions_of c.loop-index.table q) (versions_of c.push_version.new.table q) _ c.args.writes.now c.loop-index.index w q c.loop-index-test.true c.index-writes-index.is (c.in_default.ensures.ok q) (c.loop-index.invariant.next q);
      placed = c.push_version.ensures.placed;
      room = λ q. room_next (room_at c.args.table.now q) (room_at c.loop-index.table q) (room_at c.push_version.new.table q) c.args.writes.now c.loop-index.index w q c.loop-index-test.true c.index-writes-index.is (c.loop-index.invariant.room q) (c.push_version.ensures.room q);
    }
