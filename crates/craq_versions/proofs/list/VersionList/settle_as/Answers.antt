use Rattle.std.proofs.Common.{◌≡◌, ◌-◌, min, length, arith}
use Rattle.craq_versions.proofs.Numbered.{settles_from, stored_as, versions_as, versions_stored}
use Rattle.craq_versions.proofs.list.VersionList.settle_as.Goals as goal

pub overflow_sub-last : goal.overflow_sub-last
overflow_sub-last g c =
    let can = rw (← c.self.view_is) at c.requires in
    let from = settles_from c.self.inside.first c.args.version c.self.inside.items.items can in
    let some = from.1 in
    omega (arith, some, c.len-last.ensures)

pub overflow_sub-settled : goal.overflow_sub-settled
overflow_sub-settled g c =
    let can = rw (← c.self.view_is, ← c.get-settled.ensures) at c.requires in
    (settles_from c.self.inside.first c.get-settled.result c.self.inside.items.items can).0

pub replace_first-requires : goal.replace_first-requires
replace_first-requires g c =
    let can = rw (← c.self.view_is, ← c.get-settled.ensures) at c.requires in
    let from = settles_from c.self.inside.first c.get-settled.result c.self.inside.items.items can in
    let some = from.1 in
    omega (arith, some, c.len-last.ensures, c.min-index.ensures)

pub invariant_of-self : goal.invariant_of-self
invariant_of-self g c =
    let can = rw (← c.self.view_is, ← c.get-settled.ensures) at c.requires in
    let from = settles_from c.self.inside.first c.get-settled.result c.self.inside.items.items can in
    let is : c.min-index.result ≡ min (c.get-settled.result - c.self.inside.first) (length c.self.inside.items.items - 1) = rw c.len-last.ensures at c.min-index.ensures in
    rw c.replace_first.ensures.items (stored_as c.self.inside.first c.get-settled.result c.min-index.result c.self.inside.has_clean c.self.inside.items.items c.args.held c.self.invariant (omega arith) from.0 from.1 from.2 is)

pub returns-clause-versions : goal.returns-clause-versions
returns-clause-versions g c =
    let can = rw (← c.self.view_is, ← c.get-settled.ensures) at c.requires in
    let from = settles_from c.self.inside.first c.get-settled.result c.self.inside.items.items can in
    let is : c.min-index.result ≡ min (c.get-settled.result - c.self.inside.first) (length c.self.inside.items.items - 1) = rw c.len-last.ensures at c.min-index.ensures in
    rw (← c.self.view_is, c.replace_first.ensures.items, ← c.get-settled.ensures) (versions_as c.self.inside.first c.get-settled.result c.min-index.result c.self.inside.items.items c.args.held from.0 from.1 from.2 is)

pub returns-clause-were_versions : goal.returns-clause-were_versions
returns-clause-were_versions g c = rw (← c.self.view_is) (versions_stored c.self.inside.first c.self.inside.has_clean c.self.inside.items.items c.self.invariant)
