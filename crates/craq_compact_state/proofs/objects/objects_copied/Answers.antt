use Rattle.std.proofs.Common.{◌∙◌, subst, sym}
use Rattle.craq_names.specs.Places.{filled}
use Rattle.craq_key_map.specs.Mapped.{AreDistinct, AreEntries}
use Rattle.craq_key_map.proofs.Filled.{distinct_filled, entries_filled, sorted_filled}
use Rattle.craq_compact_state.specs.Placed.{shown}
use Rattle.craq_compact_state.proofs.objects.objects_copied.Goals as goal

pub sort_by_key-requires : goal.sort_by_key-requires
sort_by_key-requires c = subst AreDistinct (sym c.in_ok-copies.ensures) (distinct_filled shown c.iter.result c.iter.ensures.objects.distinct)

pub returns : goal.returns
returns c =
    let m = c.args.table.now.objects in
    let all = entries_filled shown c.iter.result m c.iter.ensures.rising c.iter.ensures.objects in
    let copies = subst (λ es. AreEntries es (filled shown m)) (sym c.in_ok-copies.ensures) all in
    c.of.ensures ∙ sorted_filled shown m c.in_ok-copies.copies.items c.sort_by_key.new.entries.items c.iter.ensures.rising copies c.sort_by_key.ensures.sorted c.sort_by_key.ensures.same
