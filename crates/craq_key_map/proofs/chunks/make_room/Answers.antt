use Rattle.std.proofs.Common.{◌∙◌, ap, arith, length, subst, sym}
use Rattle.craq_key_map.specs.Chunked.{AreChunks, HasRoom}
use Rattle.craq_key_map.proofs.Chunking.{chunks_new, full_last, room_added}
use Rattle.craq_key_map.proofs.chunks.make_room.Goals as goal

pub returns-clause-chunks : goal.returns-clause-chunks
returns-clause-chunks g c =
    subst AreChunks (sym c.in_ok-push.ensures.items)
    (chunks_new c.args.chunks.now.items c.new.result c.requires (full_last c.args.chunks.now.items (λ room. sym c.if-has_room.false ∙ (rw c.as_slice.ensures.value at c.has_room.ensures).1 room)) (omega (arith, ap length c.new.ensures.items)))

pub returns-clause-ok : goal.returns-clause-ok
returns-clause-ok g c = subst HasRoom (sym c.in_ok-push.ensures.items) (room_added c.args.chunks.now.items c.new.result c.new.ensures.items)
