use Rattle.std.proofs.Common.{◌==◌, ap}
use Rattle.craq_versions.proofs.Numbered.{none_numbered}
use Rattle.craq_versions.proofs.list.VersionList.is_empty.Goals as goal

pub returns : goal.returns
returns g c =
    rw (← c.self.view_is) (none_numbered c.self.inside.first c.self.inside.items.items _ (ap (λ n. n == 0) c.len.ensures))
