use Rattle.std.proofs.Common.{◌∙◌, ap, subst, sym, Some}
use Rattle.craq_key_map.specs.Mapped.{entries_of, key_of, IsMapped}
use Rattle.craq_key_map.proofs.Lookups.{some_at}
use Rattle.craq_key_map.proofs.Writes.{at_place, place_within, replaced_entries, replaced_mapped, same_keys}
use Rattle.craq_key_map.proofs.map.KeyMap.replace.Goals as goal

pub invariant_of-self : goal.invariant_of-self
invariant_of-self g c =
    let k = c.self.inside in
    let some = rw (← c.self.view_is) at c.requires in
    let there = some_at k.items c.args.place (place_within k.items c.args.place some) in
    let is = c.replace_second.ensures there.0 there.1 in
    subst (λ m. IsMapped m k.count k.index k.hasher.fed) (sym is.1) (replaced_mapped k.items k.count k.index k.hasher.fed c.self.invariant c.args.place there.0 c.args.item there.1)

pub returns-clause-old : goal.returns-clause-old
returns-clause-old g c =
    let k = c.self.inside in
    let some = rw (← c.self.view_is) at c.requires in
    let there = some_at k.items c.args.place (place_within k.items c.args.place some) in
    let is = c.replace_second.ensures there.0 there.1 in
    rw (← c.self.view_is) (λ key at. at_place k.items c.self.invariant.distinct c.args.place there.0 there.1 key at ∙ ap Some (sym is.0))

pub returns-clause-new : goal.returns-clause-new
returns-clause-new g c =
    let k = c.self.inside in
    let some = rw (← c.self.view_is) at c.requires in
    let there = some_at k.items c.args.place (place_within k.items c.args.place some) in
    let is = c.replace_second.ensures there.0 there.1 in
    rw (← c.self.view_is) (λ key at. ap entries_of is.1 ∙ replaced_entries k.items k.count k.index k.hasher.fed c.self.invariant c.args.place there.0 c.args.item there.1 key at)

pub returns-clause-place : goal.returns-clause-place
returns-clause-place g c =
    let k = c.self.inside in
    let some = rw (← c.self.view_is) at c.requires in
    let there = some_at k.items c.args.place (place_within k.items c.args.place some) in
    let is = c.replace_second.ensures there.0 there.1 in
    rw (← c.self.view_is) (ap (λ m. key_of m c.args.place) is.1 ∙ same_keys k.items k.count k.index k.hasher.fed c.self.invariant c.args.place there.0 c.args.item there.1 c.args.place)
