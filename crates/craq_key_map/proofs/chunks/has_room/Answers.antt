use Rattle.std.proofs.Common.{◌∙◌, arith}
use Rattle.std.proofs.lemmas.Bool.{ltb-true}
use Rattle.craq_key_map.proofs.Chunking.{room_is, room_of}
use Rattle.craq_key_map.proofs.chunks.has_room.Goals as goal

pub returns-then-count-gt0 : goal.returns-then-count-gt0
returns-then-count-gt0 g c =
    let last = c.index-chunks-count.result in
    let count = c.len.ensures ∙ last.ok.0 in (
      λ low. room_of c.args.chunks.now last c.if-count-gt0.true c.index-chunks-count.is (omega (arith, count, ltb-true c.len.result 1024 low)),
      λ room. room_is c.args.chunks.now last c.len.result c.index-chunks-count.is count room,
    )
