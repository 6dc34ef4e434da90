use Rattle.std.proofs.Common.{sym, ◌∙◌}
use Rattle.craq_key_map.specs.Mapped.{entries_of}
use Rattle.craq_versions.proofs.Placed.{is_placed, place_kept, place_key, settles_as_at}
use Rattle.craq_versions.proofs.Taken.{put_back, rise, was}
use Rattle.craq_versions.proofs.Written.{objects_settled_as, others_kept, versions_of_held}
use Rattle.craq_versions.proofs.lists.settle_as_at_in.Goals as goal

pub replace-list-requires : goal.replace-list-requires
replace-list-requires g c = is_placed c.args.lists.now c.args.place c.requires.placed

pub settle_as-requires : goal.settle_as-requires
settle_as-requires g c = settles_as_at c.args.lists.now c.args.place c.replace-list.result c.args.version c.requires.placed c.replace-list.ensures.old c.requires.next

pub returns-clause-objects : goal.returns-clause-objects
returns-clause-objects g c = λ key e.
    let m = c.args.lists.now in
    let k = c.replace.new.self in
    let at = sym (place_key m c.args.place) ∙ e in
    let old = was m key c.replace-list.result (c.replace-list.ensures.old key at) in
    let written = put_back m c.replace-list.new.self k c.args.place key c.new.result c.settle_as.new.self at c.replace-list.ensures.new c.replace-list.ensures.place c.replace.ensures.new in
    objects_settled_as (entries_of m) (entries_of k) key c.replace-list.result c.settle_as.new.self c.args.version c.args.held (rise m) (rise k) old written c.settle_as.ensures.were_versions c.settle_as.ensures.versions c.settle_as.ensures.clean

pub returns-clause-were_versions : goal.returns-clause-were_versions
returns-clause-were_versions g c = λ key e.
    let m = c.args.lists.now in
    let old = was m key c.replace-list.result (c.replace-list.ensures.old key (sym (place_key m c.args.place) ∙ e)) in
    versions_of_held (entries_of m) key c.replace-list.result (rise m) old c.settle_as.ensures.were_versions

pub returns-clause-rooms : goal.returns-clause-rooms
returns-clause-rooms g c = λ key e.
    let m = c.args.lists.now in
    let k = c.replace.new.self in
    let at = sym (place_key m c.args.place) ∙ e in
    let written = put_back m c.replace-list.new.self k c.args.place key c.new.result c.settle_as.new.self at c.replace-list.ensures.new c.replace-list.ensures.place c.replace.ensures.new in
    others_kept (entries_of m) (entries_of k) key c.settle_as.new.self written

pub returns-clause-place : goal.returns-clause-place
returns-clause-place g c = place_kept c.args.lists.now c.replace-list.new.self c.replace.new.self c.args.place c.replace.ensures.place c.replace-list.ensures.place
