use Rattle.std.proofs.Common.{◌≡◌, ◌<◌, length, rules, ◌∙◌, sym, ap}
use Rattle.std.proofs.lemmas.List.{get_or_default}
use Rattle.craq_names.proofs.Puts.{put_before, put_here}
use Rattle.craq_names.proofs.map.put_at.Given.{Over}
use Rattle.craq_names.proofs.map.put_at.Goals as goal

pub returns-in-Less-clause-ok : goal.returns-in-Less-clause-ok
returns-in-Less-clause-ok g c =
    c.in_ok-insert-in-Less.ensures.items
    ∙ put_before g.K.Ord.cmp c.args.key c.args.value c.loop-place.items.items c.loop-place.place c.index.result.now (search rules) c.index.ensures (sym c.in-Less.ensures)
    ∙ c.loop-place.invariant.later

within : (g : Over) → (c : goal.After-drop-key g) → c.loop-place.place < length c.loop-place.items.items
within g c = search rules

-- the entry is read twice
same_read : (g : Over) → (c : goal.After-drop-key g) → c.index_mut.result.now ≡ c.index.result.now
same_read g c =
    c.index_mut.ensures.value
    ∙ get_or_default c.loop-place.items.items c.loop-place.place c.index_mut.result.now c.index.result.now (within g c)
    ∙ sym c.index.ensures

pub returns-in-Equal-clause-ok : goal.returns-in-Equal-clause-ok
returns-in-Equal-clause-ok g c =
    put_here g.K.Ord.cmp c.args.key c.args.value c.loop-place.items.items c.loop-place.place c.index_mut.result.now (within g c) c.index_mut.ensures.value
    (ap (λ (e : g.row.K.Denot × g.row.V.Denot). g.K.Ord.cmp c.args.key e.0) (same_read g c) ∙ sym c.in-Equal.ensures)
    ∙ c.loop-place.invariant.later
