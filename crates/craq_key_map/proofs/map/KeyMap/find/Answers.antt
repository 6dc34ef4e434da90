use Rattle.std.proofs.Common.{subst, sym}
use Rattle.std.specs.List.{Contains}
use Rattle.craq_key_map.specs.Indexed.{Knows}
use Rattle.craq_key_map.proofs.Writes.{absent_of, none_weaker}
use Rattle.craq_key_map.proofs.map.KeyMap.find.Goals as goal

pub returns-clause-none : goal.returns-clause-none
returns-clause-none g c =
    let k = c.self.inside in
    let key = c.args.key.now in
    let hash = c.hash-hash.result in
    let nowhere = rw (← c.self.view_is) at c.find_among.ensures.none in
    rw (← c.self.view_is)
    (none_weaker c.find_among.result
    (λ none. absent_of k.items key (λ place at.
    let known = subst (λ h. Knows k.index h place) (sym c.hash-hash.ensures) (c.self.invariant.found place key at) in
    none place (subst (λ xs. Contains xs (record { hash = hash; place = place })) (sym c.slots.ensures) known) at))
    nowhere)
