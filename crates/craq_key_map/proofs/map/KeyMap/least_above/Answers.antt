use Rattle.std.proofs.Common.{◌≡◌, ◌∙◌, None, arith, length, sym}
use Rattle.std.specs.Option.{option_copied}
use Rattle.std.proofs.lemmas.Option.{slice_get_within, get_or_from_slice_get}
use Rattle.craq_key_map.specs.Rising.{lent_least, lent_pair}
use Rattle.craq_key_map.proofs.Next.{least_more, next_found}
use Rattle.craq_key_map.proofs.map.KeyMap.least_above.Goals as goal

pub loop-place-preserved : goal.loop-place-preserved
loop-place-preserved g c =
    let m = c.args.self.now in
    let i = c.loop-place.place in
    let e = lent_pair c.entry.result in
    c.lesser_of-least.ensures
    ∙ least_more (option_copied c.args.last) None (lent_least c.loop-place.least) m i e (slice_get_within m i e c.entry.ensures) (sym (get_or_from_slice_get m i e e c.entry.ensures)) c.loop-place.invariant

pub returns : goal.returns
returns g c =
    let k = c.self.inside in
    let count : c.loop-place.place ≡ length k.items = omega (arith, c.loop-place-test.false, c.loop-place.auto.place-end, c.self.invariant.counted) in
    let least = rw (← c.self.view_is) at c.loop-place.invariant in
    rw (← c.self.view_is) (next_found k.items c.loop-place.place count (option_copied c.args.last) (lent_least c.loop-place.least) least)
