use Rattle.craq_versions.proofs.Numbered.{versions_stored}
use Rattle.craq_versions.proofs.list.VersionList.clean.Goals as goal

pub returns-clause-versions : goal.returns-clause-versions
returns-clause-versions g c = rw (← c.self.view_is) (versions_stored c.self.inside.first c.self.inside.has_clean c.self.inside.items.items c.self.invariant)
