use Rattle.std.proofs.Common.{◌≡◌, ◌-◌, ◌++◌, ◌∙◌, Some, ap, length, subst, sym}
use Rattle.std.specs.Prelude.{slice_get, slice_set}
use Rattle.craq_key_map.specs.Indexed.{indexed, slots_going, slots_staying, Keeps}
use Rattle.craq_key_map.proofs.Splitting.{got, same_length, split_is, split_keeps}
use Rattle.craq_key_map.proofs.index.Index.split_next.Goals as goal

pub returns : goal.returns
returns c =
    let buckets = c.self.inside.buckets in
    let layout = c.self.inside.layout in
    let s = indexed buckets layout in
    let from = layout.count - layout.half in
    let v = c.get.result.now in
    let rest = c.deal.new.rest in
    let next = c.deal.new.next in
    let some = rw (← c.self.view_is) at c.requires.some in
    let to = rw (← c.self.view_is) at c.requires.to in
    let is = c.replace.ensures.new ∙ ap (λ bs. slice_set bs from rest) c.in_ok-push.ensures.ok in
    let stays = c.in_ok-deal.ensures.rest ∙ ap (λ xs. xs ++ slots_staying layout.half layout.count c.as_slice.result.now) c.new-rest.ensures.items ∙ ap (slots_staying layout.half layout.count) c.as_slice.ensures.value in
    let moves = c.in_ok-deal.ensures.next ∙ ap (λ xs. xs ++ slots_going layout.half layout.count c.as_slice.result.now) c.new-next.ensures.items ∙ ap (slots_going layout.half layout.count) c.as_slice.ensures.value in
    let same = split_is buckets layout v rest next c.self.invariant.1 stays moves in
    let count : layout.count ≡ length s.buckets = c.self.invariant.1 ∙ sym (same_length buckets layout) in
    let was : slice_get s.buckets (length s.buckets - s.half) ≡ Some v.items = ap (λ n. slice_get s.buckets (n - layout.half)) (sym count) ∙ got buckets layout from v c.get.ensures in
    record { keeps = rw (← c.self.view_is) (subst (λ t. Keeps s t) (sym (ap (λ bs. indexed bs layout) is ∙ same)) (split_keeps s c.self.invariant.0 v.items some to was)) }
