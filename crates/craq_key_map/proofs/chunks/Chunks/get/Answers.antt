use Rattle.std.proofs.Common.{Global, Vec, ◌∙◌, ◌<◌, ◌%◌, ◌/◌, ap, sym, arith, length, refl}
use Rattle.std.specs.Prelude.{slice_get}
use Rattle.std.proofs.lemmas.Option.{slice_get_read, slice_get_within}
use Rattle.craq_key_map.proofs.Chunking.{chunk_at, read_chunk}
use Rattle.craq_key_map.proofs.chunks.Chunks.get.Goals as goal

pub index-requires : goal.index-requires
index-requires g c =
    let low = rw (← c.self.view_is) at c.requires in
    let at = chunk_at c.self.inside.chunks.items c.args.index c.self.invariant low in
    omega (arith, slice_get_within c.self.inside.chunks.items (c.args.index / 1024) at.0 at.1, c.self.inside.chunks.ok.0)

pub index-requires-2 : goal.index-requires-2
index-requires-2 g c =
    let low = rw (← c.self.view_is) at c.requires in
    let at = chunk_at c.self.inside.chunks.items c.args.index c.self.invariant low in
    let same = read_chunk c.self.inside.chunks.items (c.args.index / 1024) at.0 c.index.result.now at.1 c.index.ensures in
    omega (arith, at.2, ap (λ (v : Vec g.row.X.Denot Global). length v.items) same, c.index.result.now.ok.0)

pub returns : goal.returns
returns g c =
    let low = rw (← c.self.view_is) at c.requires in
    let at = chunk_at c.self.inside.chunks.items c.args.index c.self.invariant low in
    let same = read_chunk c.self.inside.chunks.items (c.args.index / 1024) at.0 c.index.result.now at.1 c.index.ensures in
    let inside : c.args.index % 1024 < length c.index.result.now.items = omega (arith, at.2, ap (λ (v : Vec g.row.X.Denot Global). length v.items) same) in
    rw (← c.self.view_is)
    (at.3 ∙ ap (λ (v : Vec g.row.X.Denot Global). slice_get v.items (c.args.index % 1024)) (sym same)
    ∙ slice_get_read c.index.result.now.items (length c.index.result.now.items) (c.args.index % 1024) c.index-2.result.now refl inside c.index-2.ensures)
