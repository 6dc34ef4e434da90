use Rattle.std.proofs.Common.{◌≡◌, ◌∙◌, ap, length, length-set, subst, sym}
use Rattle.std.specs.Prelude.{slice_set}
use Rattle.std.specs.List.{Contains}
use Rattle.std.proofs.lemmas.Option.{slice_get_within}
use Rattle.std.proofs.lemmas.Result.{on_ok_weaker}
use Rattle.craq_key_map.specs.Indexed.{indexed, IsIndexed, Keeps, Knows}
use Rattle.craq_key_map.specs.declared.index.Slot.{Slot}
use Rattle.craq_key_map.proofs.Splitting.{bucket_is, contains_front, contains_last, either, got, keeps_with, knows_with, put_bucket, with_is_indexed}
use Rattle.craq_key_map.proofs.index.Index.add_slot.Goals as goal

pub invariant_of-self : goal.invariant_of-self
invariant_of-self c =
    let buckets = c.self.inside.buckets in
    let layout = c.self.inside.layout in
    let s = indexed buckets layout in
    let at = c.bucket-at.result in
    let w = c.add_to-added.new.bucket in
    let is = c.replace.ensures.new ∙ ap (λ bs. slice_set bs at w) c.replace-bucket.ensures.new in
    let count : length c.replace.new.self ≡ length buckets = ap length is ∙ length-set _ _ _ ∙ length-set _ _ _ in (
      subst IsIndexed (sym (ap (λ bs. indexed bs layout) is ∙ put_bucket buckets layout at _ w)) (with_is_indexed s at w.items c.self.invariant.0),
      c.self.invariant.1 ∙ sym count,
      c.self.invariant.2,
    )

pub returns-clause-keeps : goal.returns-clause-keeps
returns-clause-keeps c =
    let buckets = c.self.inside.buckets in
    let layout = c.self.inside.layout in
    let s = indexed buckets layout in
    let at = c.bucket-at.result in
    let b = c.replace-bucket.result in
    let w = c.add_to-added.new.bucket in
    let slot : Slot = record { hash = c.args.hash; place = c.args.place } in
    let is = c.replace.ensures.new ∙ ap (λ bs. slice_set bs at w) c.replace-bucket.ensures.new in
    let same = ap (λ bs. indexed bs layout) is ∙ put_bucket buckets layout at _ w in
    let more : (x : Slot) → Contains b.items x → Contains w.items x =
    either c.add_to-added.result c.add_to-added.ensures.ok c.add_to-added.ensures.err
    (λ e x has. subst (λ xs. Contains xs x) (sym e) (contains_front b.items slot x has))
    (λ e x has. subst (λ xs. Contains xs x) (sym e) has) in
    rw (← c.self.view_is) (subst (λ t. Keeps s t) (sym same) (keeps_with s at b.items w.items (got buckets layout at b c.replace-bucket.ensures.old) more))

pub returns-clause-ok : goal.returns-clause-ok
returns-clause-ok c =
    let buckets = c.self.inside.buckets in
    let layout = c.self.inside.layout in
    let s = indexed buckets layout in
    let at = c.bucket-at.result in
    let b = c.replace-bucket.result in
    let w = c.add_to-added.new.bucket in
    let slot : Slot = record { hash = c.args.hash; place = c.args.place } in
    let is = c.replace.ensures.new ∙ ap (λ bs. slice_set bs at w) c.replace-bucket.ensures.new in
    let same = ap (λ bs. indexed bs layout) is ∙ put_bucket buckets layout at _ w in
    let low = slice_get_within s.buckets at b.items (got buckets layout at b c.replace-bucket.ensures.old) in
    let place = sym (bucket_is buckets layout c.args.hash c.self.invariant.1) ∙ sym c.bucket-at.ensures in
    on_ok_weaker c.add_to-added.result
    (λ e. subst (λ t. Knows t c.args.hash c.args.place) (sym same) (knows_with s at w.items c.args.hash c.args.place low place (subst (λ xs. Contains xs slot) (sym e) (contains_last b.items slot))))
    c.add_to-added.ensures.ok
