use Rattle.std.proofs.Common.{arith}
use Rattle.craq_versions.proofs.Numbered.{stored_more, versions_more, versions_stored}
use Rattle.craq_versions.proofs.list.VersionList.push.Goals as goal

pub invariant_of-self-2 : goal.invariant_of-self-2
invariant_of-self-2 g c =
    let can = rw (← c.self.view_is) at c.requires in
    let first = rw (c.len.ensures, c.reserve.ensures.items, c.get-version.ensures) at c.first_with-self-inside.ensures in
    rw (c.push_reserved.ensures.items, c.reserve.ensures.items)
    (stored_more c.self.inside.first c.first_with-self-inside.result c.args.version c.self.inside.has_clean c.self.inside.items.items c.args.held c.self.invariant can (omega arith) first)

pub returns-clause-ok : goal.returns-clause-ok
returns-clause-ok g c =
    let can = rw (← c.self.view_is) at c.requires in
    let first = rw (c.len.ensures, c.reserve.ensures.items, c.get-version.ensures) at c.first_with-self-inside.ensures in
    rw (← c.self.view_is, c.push_reserved.ensures.items, c.reserve.ensures.items)
    (versions_more c.self.inside.first c.first_with-self-inside.result c.args.version c.self.inside.items.items c.args.held can first)

pub returns-in_err-reserve-clause-were_versions : goal.returns-in_err-reserve-clause-were_versions
returns-in_err-reserve-clause-were_versions g c = rw (← c.self.view_is) (versions_stored c.self.inside.first c.self.inside.has_clean c.self.inside.items.items c.self.invariant)

pub returns-clause-were_versions : goal.returns-clause-were_versions
returns-clause-were_versions g c = rw (← c.self.view_is) (versions_stored c.self.inside.first c.self.inside.has_clean c.self.inside.items.items c.self.invariant)
