use Rattle.std.proofs.Common.{arith, length, refl}
use Rattle.craq_versions.proofs.Numbered.{newest_is}
use Rattle.craq_versions.proofs.list.VersionList.last.Goals as goal

pub returns-in-Some : goal.returns-in-Some
returns-in-Some g c =
    rw (← c.self.view_is, c.new.ensures, c.len-count.ensures)
    (newest_is c.self.inside.first (length c.self.inside.items.items) c.self.inside.items.items c.in-Some.held.now refl (omega (arith, c.len-count.ensures)) (rw c.len-count.ensures at c.in-Some.ensures.lookup))
