use Rattle.std.proofs.Common.{subst, sym}
use Rattle.craq_key_map.specs.Mapped.{AreDistinct}
use Rattle.craq_key_map.proofs.map.KeyMap.iter.Goals as goal

pub returns-clause-distinct : goal.returns-clause-distinct
returns-clause-distinct g c =
    let is = rw (← c.self.view_is) at c.of.ensures in
    subst AreDistinct (sym is) c.self.invariant.distinct
