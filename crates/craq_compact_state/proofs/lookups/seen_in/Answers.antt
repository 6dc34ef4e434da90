use Rattle.std.proofs.Common.{◌-◌, ℕ, List, ap, ◌∙◌}
use Rattle.craq_commands.specs.declared.entry.Entry.{Entry}
use Rattle.craq_commands.specs.Objects.{object_of}
use Rattle.craq_model.specs.Past.{values_after}
use Rattle.craq_versions.specs.Versions.{newest_of}
use Rattle.craq_compact_state.specs.Placed.{objects_of}
use Rattle.craq_compact_state.proofs.Newest.{late_is_newest, none_late}
use Rattle.craq_compact_state.proofs.lookups.seen_in.Goals as goal

pub returns-in-Some-clause-newest : goal.returns-in-Some-clause-newest
returns-in-Some-clause-newest c =
    let found : ℕ × List ℕ = (c.in-Some.newest.0, c.in-Some.newest.1.now) in
    late_is_newest (c.args.indexed - c.args.entries.now.base) c.args.entries.now.entries c.args.key.now (object_of (objects_of c.args.table.now) c.args.key.now) found
    (c.in-Some.ensures.object ∙ ap (λ (es : List Entry). newest_of (values_after es c.args.key.now)) c.from.ensures.entries)

pub returns-in-None-clause-newest : goal.returns-in-None-clause-newest
returns-in-None-clause-newest c =
    let found : ℕ × List ℕ = (c.seen_indexed.result.newest.0, c.seen_indexed.result.newest.1.now) in
    none_late (c.args.indexed - c.args.entries.now.base) c.args.entries.now.entries c.args.key.now (object_of (objects_of c.args.table.now) c.args.key.now) found
    (c.in-None.ensures.object ∙ ap (λ (es : List Entry). newest_of (values_after es c.args.key.now)) c.from.ensures.entries) c.seen_indexed.ensures.newest
