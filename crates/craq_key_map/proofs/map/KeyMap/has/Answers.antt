use Rattle.std.proofs.Common.{◌∙◌, ap, arith, sym, Some}
use Rattle.std.specs.Prelude.{is_some}
use Rattle.std.specs.Ordering.{is_eq}
use Rattle.std.proofs.lemmas.Bool.{ltb-true}
use Rattle.std.proofs.lemmas.Option.{same_Some as same_in}
use Rattle.craq_names.specs.Maps.{key_cmp}
use Rattle.craq_key_map.proofs.Lookups.{own_key, same_order}
use Rattle.craq_key_map.proofs.Writes.{key_at, place_within}
use Rattle.craq_key_map.proofs.map.KeyMap.has.Goals as goal

pub returns-then-place-self : goal.returns-then-place-self
returns-then-place-self g c =
    let e = c.get.result.now in
    let key = c.args.key.now in
    let at = key_at c.self.inside.items c.args.place e c.get.ensures in
    rw (← c.self.view_is) (
      λ yes. at ∙ ap Some (same_order e.0 key c.cmp.result c.cmp.ensures (sym c.is_eq.ensures ∙ yes)),
      λ is. c.is_eq.ensures ∙ ap is_eq c.cmp.ensures ∙ ap (λ k. is_eq (key_cmp k key)) (same_in e.0 key (sym at ∙ is)) ∙ own_key key,
    )

pub returns-else-place-self : goal.returns-else-place-self
returns-else-place-self g c =
    rw (← c.self.view_is) (
      λ yes. absurd (omega (arith, ltb-true c.args.place c.self.inside.count yes, c.if-place-self.false)),
      λ is. absurd (omega (arith, place_within c.self.inside.items c.args.place (ap is_some is), c.self.invariant.counted, c.if-place-self.false)),
    )
