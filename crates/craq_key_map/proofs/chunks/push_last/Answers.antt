use Rattle.std.proofs.Common.{Global, List, Vec, ◌≡◌, ◌-◌, ◌∙◌, ◌++◌, [], ◌∷◌, ap, arith, length, length-append, subst, sym}
use Rattle.craq_key_map.specs.Chunked.{joined, AreChunks}
use Rattle.craq_key_map.proofs.Chunking.{chunks_last, chunks_set, get_set, joined_last, joined_same, last_at, last_room, on_err, read_chunk, set_twice}
use Rattle.std.proofs.lemmas.Option.{slice_get_within}
use Rattle.craq_key_map.proofs.chunks.push_last.Goals as goal

pub returns-in_err-reserve-clause-err : goal.returns-in_err-reserve-clause-err
returns-in_err-reserve-clause-err g c =
    let cs = c.args.chunks.now.items in
    let i = c.len-last.result - 1 in
    let place : i ≡ length cs - 1 = omega (arith, c.len-last.ensures, c.args.chunks.now.ok.0) in
    let at = last_at cs c.requires.room i c.index_mut.result.now place c.index_mut.ensures.value in
    on_err c.from_residual.result (joined_same cs i c.index_mut.result.now c.reserve.new.self at c.in_err-reserve.ensures.items)

pub returns-in_err-reserve-clause-chunks : goal.returns-in_err-reserve-clause-chunks
returns-in_err-reserve-clause-chunks g c =
    let cs = c.args.chunks.now.items in
    let i = c.len-last.result - 1 in
    let place : i ≡ length cs - 1 = omega (arith, c.len-last.ensures, c.args.chunks.now.ok.0) in
    let at = last_at cs c.requires.room i c.index_mut.result.now place c.index_mut.ensures.value in
    chunks_set cs i c.index_mut.result.now c.reserve.new.self c.requires.chunks at (ap length c.in_err-reserve.ensures.items)

pub returns-clause-ok : goal.returns-clause-ok
returns-clause-ok g c =
    let cs = c.args.chunks.now.items in
    let i = c.len-last.result - 1 in
    let place : i ≡ length cs - 1 = omega (arith, c.len-last.ensures, c.args.chunks.now.ok.0) in
    let at = last_at cs c.requires.room i c.index_mut.result.now place c.index_mut.ensures.value in
    let inside = slice_get_within cs i c.index_mut.result.now at in
    let second = read_chunk _ i c.reserve.new.self c.index_mut-2.result.now (get_set cs i c.reserve.new.self inside) c.index_mut-2.ensures.value in
    let items = c.push_reserved.ensures.items ∙ ap (λ (v : Vec g.row.X.Denot Global). v.items ++ c.args.item ∷ []) second ∙ ap (λ (xs : List g.row.X.Denot). xs ++ c.args.item ∷ []) c.in_ok-reserve.ensures.items in
    ap joined (set_twice cs i c.reserve.new.self c.push_reserved.new.self) ∙ joined_last cs i c.index_mut.result.now c.push_reserved.new.self c.args.item (omega (arith, place, inside)) at items

pub returns-clause-chunks : goal.returns-clause-chunks
returns-clause-chunks g c =
    let cs = c.args.chunks.now.items in
    let i = c.len-last.result - 1 in
    let place : i ≡ length cs - 1 = omega (arith, c.len-last.ensures, c.args.chunks.now.ok.0) in
    let at = last_at cs c.requires.room i c.index_mut.result.now place c.index_mut.ensures.value in
    let inside = slice_get_within cs i c.index_mut.result.now at in
    let second = read_chunk _ i c.reserve.new.self c.index_mut-2.result.now (get_set cs i c.reserve.new.self inside) c.index_mut-2.ensures.value in
    let items = c.push_reserved.ensures.items ∙ ap (λ (v : Vec g.row.X.Denot Global). v.items ++ c.args.item ∷ []) second ∙ ap (λ (xs : List g.row.X.Denot). xs ++ c.args.item ∷ []) c.in_ok-reserve.ensures.items in
    subst AreChunks (sym (set_twice cs i c.reserve.new.self c.push_reserved.new.self))
    (chunks_last cs i c.index_mut.result.now c.push_reserved.new.self c.requires.chunks (omega (arith, place, inside)) at (last_room cs c.requires.room i c.index_mut.result.now place c.index_mut.ensures.value)
    (ap length items ∙ length-append c.index_mut.result.now.items (c.args.item ∷ [])))
