use Rattle.std.proofs.Common.{arith, length, refl, sym}
use Rattle.craq_versions.proofs.Numbered.{found_below, held_is}
use Rattle.craq_versions.proofs.list.VersionList.get.Goals as goal

pub returns-then-version-self : goal.returns-then-version-self
returns-then-version-self g c = rw (← c.self.view_is) (sym (found_below c.self.inside.first c.args.version c.self.inside.items.items (omega arith)))

pub returns : goal.returns
returns g c =
    rw (← c.self.view_is, ← c.get-version.ensures)
    (held_is c.self.inside.first c.get-version.result (length c.self.inside.items.items) c.self.inside.items.items c.get.result refl c.if-version-self.false c.get.ensures.variant c.get.ensures.lookup)
