use Rattle.std.proofs.Common.{◌∙◌, sym}
use Rattle.craq_versions.proofs.Numbered.{length_numbered}
use Rattle.craq_versions.proofs.list.VersionList.len.Goals as goal

pub returns : goal.returns
returns g c = rw (← c.self.view_is) (c.len.ensures ∙ sym (length_numbered c.self.inside.first c.self.inside.items.items))
