use Rattle.std.proofs.Common.{sym, ◌∙◌}
use Rattle.craq_key_map.specs.Mapped.{entries_of}
use Rattle.craq_versions.proofs.Taken.{rise, was, was_none}
use Rattle.craq_versions.proofs.Written.{none_shown, empty_shown, shown_found, clash}
use Rattle.craq_versions.proofs.table.ObjectTable.list.Goals as goal

pub returns-in-None : goal.returns-in-None
returns-in-None g c =
    let m = c.self.inside.lists in
    rw (← c.self.view_is) (none_shown (entries_of m) c.args.key.now (rise m) (was_none m c.args.key.now (sym c.in-None.ensures)))

pub returns-then-is_empty : goal.returns-then-is_empty
returns-then-is_empty g c =
    let m = c.self.inside.lists in
    rw (← c.self.view_is) (empty_shown (entries_of m) c.args.key.now c.in-Some.list.now (rise m) (was m c.args.key.now c.in-Some.list.now (sym c.in-Some.ensures)) (c.is_empty.ensures.0 c.if-is_empty.true))

pub returns-else-is_empty : goal.returns-else-is_empty
returns-else-is_empty g c =
    let m = c.self.inside.lists in
    rw (← c.self.view_is)
    (shown_found (entries_of m) c.args.key.now c.in-Some.list.now (rise m) (was m c.args.key.now c.in-Some.list.now (sym c.in-Some.ensures)) (λ e. clash (sym (c.is_empty.ensures.1 e) ∙ c.if-is_empty.false)))
