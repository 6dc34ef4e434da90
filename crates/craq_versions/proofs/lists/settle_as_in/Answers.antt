use Rattle.std.proofs.Common.{List, ℕ, ap, ◌∙◌}
use Rattle.std.specs.Prelude.{is_some}
use Rattle.craq_key_map.specs.Mapped.{entries_of}
use Rattle.craq_versions.specs.Versions.{CanSettleAs}
use Rattle.craq_versions.specs.Tables.{held_at, table_in}
use Rattle.craq_versions.proofs.Placed.{place_key, same_key_at}
use Rattle.craq_versions.proofs.Taken.{rise, was_none}
use Rattle.craq_versions.proofs.Written.{none_settles_as}
use Rattle.craq_versions.proofs.lists.settle_as_in.Goals as goal

pub settle_as_at_in-requires : goal.settle_as_at_in-requires
settle_as_at_in-requires g c =
    let m = c.args.lists.now in
    let at = place_key m c.in-Some.place ∙ c.in-Some.ensures.some in
    record { placed = ap is_some at; next = same_key_at m c.in-Some.place c.args.key.now (λ (q : List ℕ). CanSettleAs (held_at (table_in m) q).versions c.args.version) at c.requires }

pub returns-in-Some-clause-objects : goal.returns-in-Some-clause-objects
returns-in-Some-clause-objects g c =
    let m = c.args.lists.now in
    c.settle_as_at_in.ensures.objects c.args.key.now (place_key m c.in-Some.place ∙ c.in-Some.ensures.some)

pub returns-in-Some-clause-rooms : goal.returns-in-Some-clause-rooms
returns-in-Some-clause-rooms g c =
    let m = c.args.lists.now in
    c.settle_as_at_in.ensures.rooms c.args.key.now (place_key m c.in-Some.place ∙ c.in-Some.ensures.some)

pub returns-in-Some-clause-were_versions : goal.returns-in-Some-clause-were_versions
returns-in-Some-clause-were_versions g c =
    let m = c.args.lists.now in
    c.settle_as_at_in.ensures.were_versions c.args.key.now (place_key m c.in-Some.place ∙ c.in-Some.ensures.some)

pub returns-in_default-clause-objects : goal.returns-in_default-clause-objects
returns-in_default-clause-objects g c =
    let m = c.args.lists.now in
    absurd (none_settles_as (entries_of m) c.args.key.now c.args.version (rise m) (was_none m c.args.key.now c.in_default.ensures.none) c.requires)

pub returns-in_default-clause-were_versions : goal.returns-in_default-clause-were_versions
returns-in_default-clause-were_versions g c =
    let m = c.args.lists.now in
    absurd (none_settles_as (entries_of m) c.args.key.now c.args.version (rise m) (was_none m c.args.key.now c.in_default.ensures.none) c.requires)
