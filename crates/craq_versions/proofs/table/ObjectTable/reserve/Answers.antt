use Rattle.std.proofs.Common.{ℕ, List, ◌<◌, arith, ◌∙◌}
use Rattle.craq_versions.specs.Tables.{room_at}
use Rattle.craq_versions.proofs.Written.{all_to_next}
use Rattle.craq_versions.proofs.table.ObjectTable.reserve.Goals as goal

pub loop-key-preserved : goal.loop-key-preserved
loop-key-preserved g c =
    let before : List ℕ → Type 0 = λ key. 0 < room_at c.loop-key.self key in
    let now : List ℕ → Type 0 = λ key. 0 < room_at c.reserve_key.new.self key in
    record {
      objects = c.reserve_key.ensures.objects ∙ c.loop-key.invariant.objects;
      room = λ q. omega (arith, c.loop-key.invariant.room q, c.reserve_key.ensures.room q);
      reserved = all_to_next before now c.args.keys.now c.loop-key.key-index c.key-item.result c.key-item.is (λ key room. omega (arith, room, c.reserve_key.ensures.room key)) c.in_ok-reserve_key.ensures.ok c.loop-key.invariant.reserved;
    }
