use Rattle.std.proofs.Common.{Global, Vec, ◌≡◌, ◌∙◌, ◌<◌, ◌%◌, ◌/◌, ap, sym, arith, length, refl, Some}
use Rattle.std.specs.Prelude.{slice_get}
use Rattle.std.proofs.lemmas.Option.{same_Some, slice_get_read, slice_get_within}
use Rattle.craq_key_map.specs.Chunked.{joined}
use Rattle.craq_key_map.proofs.Chunking.{chunk_at, chunks_set, joined_set, read_chunk, set_items, set_length}
use Rattle.craq_key_map.proofs.chunks.Chunks+tuple2+K+T.replace_second.Goals as goal

pub index_mut-requires : goal.index_mut-requires
index_mut-requires g c =
    let low = rw (← c.self.view_is) at c.requires in
    let at = chunk_at c.self.inside.chunks.items c.args.index c.self.invariant low in
    omega (arith, slice_get_within c.self.inside.chunks.items (c.args.index / 1024) at.0 at.1, c.self.inside.chunks.ok.0)

pub index_mut-requires-2 : goal.index_mut-requires-2
index_mut-requires-2 g c =
    let low = rw (← c.self.view_is) at c.requires in
    let at = chunk_at c.self.inside.chunks.items c.args.index c.self.invariant low in
    let same = read_chunk c.self.inside.chunks.items (c.args.index / 1024) at.0 c.index_mut.result.now at.1 c.index_mut.ensures.value in
    omega (arith, at.2, ap (λ (v : Vec (g.row.K.Denot × g.row.T.Denot) Global). length v.items) same, c.index_mut.result.now.ok.0)

pub invariant_of-self : goal.invariant_of-self
invariant_of-self g c =
    let low = rw (← c.self.view_is) at c.requires in
    let at = chunk_at c.self.inside.chunks.items c.args.index c.self.invariant low in
    let same = read_chunk c.self.inside.chunks.items (c.args.index / 1024) at.0 c.index_mut.result.now at.1 c.index_mut.ensures.value in
    chunks_set c.self.inside.chunks.items (c.args.index / 1024) at.0 _ c.self.invariant at.1 (set_length c.index_mut.result.now at.0 (c.args.index % 1024) (c.index_mut-2.result.now.0, c.replace.new.dest) same)

pub returns : goal.returns
returns g c =
    let chunks = c.self.inside.chunks.items in
    let i = c.args.index in
    let low = rw (← c.self.view_is) at c.requires in
    let at = chunk_at chunks i c.self.invariant low in
    let same = read_chunk chunks (i / 1024) at.0 c.index_mut.result.now at.1 c.index_mut.ensures.value in
    let v = c.index_mut.result.now in
    let inside : i % 1024 < length v.items = omega (arith, at.2, ap (λ (v : Vec (g.row.K.Denot × g.row.T.Denot) Global). length v.items) same) in
    let was = c.index_mut-2.result.now in
    let got : slice_get (joined chunks) i ≡ Some was =
    at.3 ∙ ap (λ (v : Vec (g.row.K.Denot × g.row.T.Denot) Global). slice_get v.items (i % 1024)) (sym same)
    ∙ slice_get_read v.items (length v.items) (i % 1024) was refl inside c.index_mut-2.ensures.value in
    rw (← c.self.view_is)
    (λ e here.
    let is : was ≡ e = same_Some was e (sym got ∙ here) in (
      c.replace.ensures.value ∙ ap (λ (x : g.row.K.Denot × g.row.T.Denot). x.1) is,
      joined_set chunks i at.0 _ (e.0, c.args.item) c.self.invariant low at.1 (set_items v at.0 (i % 1024) (was.0, c.replace.new.dest) (e.0, c.args.item) same (λ j. ((is j).0, c.replace.ensures.after j))),
    ))
