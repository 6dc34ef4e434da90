use Rattle.std.proofs.Common.{arith, length, refl, sym}
use Rattle.craq_versions.proofs.Numbered.{within_below, within_is, within_none}
use Rattle.craq_versions.proofs.list.VersionList.at_most.Goals as goal

pub returns-then-bound-self : goal.returns-then-bound-self
returns-then-bound-self g c = rw (← c.self.view_is) (sym (within_below c.self.inside.first c.args.bound c.self.inside.items.items (omega arith)))

pub returns-then-count-eq0 : goal.returns-then-count-eq0
returns-then-count-eq0 g c =
    rw (← c.self.view_is) (within_none c.self.inside.first c.args.bound c.self.inside.items.items (omega arith))

pub returns-in-Some : goal.returns-in-Some
returns-in-Some g c =
    rw (← c.self.view_is, c.new.ensures, ← c.get-bound.ensures)
    (within_is c.self.inside.first c.get-bound.result (length c.self.inside.items.items) c.min-index.result c.self.inside.items.items c.in-Some.held.now refl (omega arith) (omega arith) (rw c.len-count.ensures at c.min-index.ensures) c.in-Some.ensures.lookup)
