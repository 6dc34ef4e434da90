use Rattle.std.proofs.Common.{◌≡◌, ◌-◌, ap, length, refl, take, ◌∙◌}
use Rattle.craq_versions.specs.Versions.{numbered}
use Rattle.craq_versions.proofs.Numbered.{clean_left, stored_without, versions_stored, versions_without}
use Rattle.craq_versions.proofs.list.VersionList.pop.Goals as goal

pub invariant_of-self : goal.invariant_of-self
invariant_of-self g c =
    let left : c.len.result ≡ length (take ((length c.self.inside.items.items) - 1) c.self.inside.items.items) = c.len.ensures ∙ ap length c.pop.ensures.items in
    rw c.pop.ensures.items (stored_without c.self.inside.first (length c.self.inside.items.items) c.len.result c.self.inside.has_clean c.still_clean-self-inside.result c.self.inside.items.items c.self.invariant refl left c.still_clean-self-inside.ensures)

pub returns-clause-versions : goal.returns-clause-versions
returns-clause-versions g c =
    rw (← c.self.view_is) (ap (numbered c.self.inside.first) c.pop.ensures.items ∙ versions_without c.self.inside.first (length c.self.inside.items.items) c.self.inside.items.items refl)

pub returns-clause-clean : goal.returns-clause-clean
returns-clause-clean g c =
    let left : c.len.result ≡ length (take ((length c.self.inside.items.items) - 1) c.self.inside.items.items) = c.len.ensures ∙ ap length c.pop.ensures.items in
    rw (← c.self.view_is) (clean_left c.self.inside.first (length c.self.inside.items.items) c.len.result c.self.inside.has_clean c.still_clean-self-inside.result c.self.inside.items.items c.self.invariant refl left c.still_clean-self-inside.ensures)

pub returns-clause-were_versions : goal.returns-clause-were_versions
returns-clause-were_versions g c = rw (← c.self.view_is) (versions_stored c.self.inside.first c.self.inside.has_clean c.self.inside.items.items c.self.invariant)

pub returns-clause-are_versions : goal.returns-clause-are_versions
returns-clause-are_versions g c =
    let left : c.len.result ≡ length (take ((length c.self.inside.items.items) - 1) c.self.inside.items.items) = c.len.ensures ∙ ap length c.pop.ensures.items in
    rw c.pop.ensures.items
    (versions_stored c.self.inside.first c.still_clean-self-inside.result (take ((length c.self.inside.items.items) - 1) c.self.inside.items.items)
    (stored_without c.self.inside.first (length c.self.inside.items.items) c.len.result c.self.inside.has_clean c.still_clean-self-inside.result c.self.inside.items.items c.self.invariant refl left c.still_clean-self-inside.ensures))
