use Rattle.std.proofs.Common.{Global, Vec, ◌∙◌, ◌<◌, ◌%◌, ◌/◌, ap, sym, arith, length, refl, Some}
use Rattle.std.specs.Prelude.{slice_get}
use Rattle.std.proofs.lemmas.Option.{slice_get_read, slice_get_within}
use Rattle.craq_key_map.proofs.Chunking.{chunk_at, chunks_set, joined_set, read_chunk, set_items, set_length}
use Rattle.craq_key_map.proofs.chunks.Chunks.replace.Goals as goal

pub index_mut-requires : goal.index_mut-requires
index_mut-requires g c =
    let low = rw (← c.self.view_is) at c.requires in
    let at = chunk_at c.self.inside.chunks.items c.args.index c.self.invariant low in
    omega (arith, slice_get_within c.self.inside.chunks.items (c.args.index / 1024) at.0 at.1, c.self.inside.chunks.ok.0)

pub index_mut-requires-2 : goal.index_mut-requires-2
index_mut-requires-2 g c =
    let low = rw (← c.self.view_is) at c.requires in
    let at = chunk_at c.self.inside.chunks.items c.args.index c.self.invariant low in
    let same = read_chunk c.self.inside.chunks.items (c.args.index / 1024) at.0 c.index_mut.result.now at.1 c.index_mut.ensures.value in
    omega (arith, at.2, ap (λ (v : Vec g.row.X.Denot Global). length v.items) same, c.index_mut.result.now.ok.0)

pub invariant_of-self : goal.invariant_of-self
invariant_of-self g c =
    let low = rw (← c.self.view_is) at c.requires in
    let at = chunk_at c.self.inside.chunks.items c.args.index c.self.invariant low in
    let same = read_chunk c.self.inside.chunks.items (c.args.index / 1024) at.0 c.index_mut.result.now at.1 c.index_mut.ensures.value in
    chunks_set c.self.inside.chunks.items (c.args.index / 1024) at.0 _ c.self.invariant at.1 (set_length c.index_mut.result.now at.0 (c.args.index % 1024) c.replace.new.dest same)

pub returns-clause-old : goal.returns-clause-old
returns-clause-old g c =
    let low = rw (← c.self.view_is) at c.requires in
    let at = chunk_at c.self.inside.chunks.items c.args.index c.self.invariant low in
    let same = read_chunk c.self.inside.chunks.items (c.args.index / 1024) at.0 c.index_mut.result.now at.1 c.index_mut.ensures.value in
    let inside : c.args.index % 1024 < length c.index_mut.result.now.items = omega (arith, at.2, ap (λ (v : Vec g.row.X.Denot Global). length v.items) same) in
    rw (← c.self.view_is)
    (at.3 ∙ ap (λ (v : Vec g.row.X.Denot Global). slice_get v.items (c.args.index % 1024)) (sym same)
    ∙ slice_get_read c.index_mut.result.now.items (length c.index_mut.result.now.items) (c.args.index % 1024) c.index_mut-2.result.now refl inside c.index_mut-2.ensures.value
    ∙ ap Some (sym c.replace.ensures.value))

pub returns-clause-new : goal.returns-clause-new
returns-clause-new g c =
    let low = rw (← c.self.view_is) at c.requires in
    let at = chunk_at c.self.inside.chunks.items c.args.index c.self.invariant low in
    let same = read_chunk c.self.inside.chunks.items (c.args.index / 1024) at.0 c.index_mut.result.now at.1 c.index_mut.ensures.value in
    rw (← c.self.view_is)
    (joined_set c.self.inside.chunks.items c.args.index at.0 _ c.args.item c.self.invariant low at.1 (set_items c.index_mut.result.now at.0 (c.args.index % 1024) c.replace.new.dest c.args.item same c.replace.ensures.after))
