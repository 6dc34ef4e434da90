use Rattle.std.proofs.Common.{◌≡◌, ◌-◌, ap, arith, length}
use Rattle.craq_key_map.proofs.Chunking.{chunks_set, joined_same, last_at}
use Rattle.craq_key_map.proofs.chunks.reserve_last.Goals as goal

pub returns-clause-items : goal.returns-clause-items
returns-clause-items g c =
    let cs = c.args.chunks.now.items in
    let i = c.len-last.result - 1 in
    let place : i ≡ length cs - 1 = omega (arith, c.len-last.ensures, c.args.chunks.now.ok.0) in
    let at = last_at cs c.requires.room i c.index_mut.result.now place c.index_mut.ensures.value in
    joined_same cs i c.index_mut.result.now c.reserve.new.self at c.reserve.ensures.items

pub returns-clause-chunks : goal.returns-clause-chunks
returns-clause-chunks g c =
    let cs = c.args.chunks.now.items in
    let i = c.len-last.result - 1 in
    let place : i ≡ length cs - 1 = omega (arith, c.len-last.ensures, c.args.chunks.now.ok.0) in
    let at = last_at cs c.requires.room i c.index_mut.result.now place c.index_mut.ensures.value in
    chunks_set cs i c.index_mut.result.now c.reserve.new.self c.requires.chunks at (ap length c.reserve.ensures.items)
