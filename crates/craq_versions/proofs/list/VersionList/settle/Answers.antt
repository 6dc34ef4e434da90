use Rattle.std.proofs.Common.{arith, sym, ◌-◌, drop, length-drop}
use Rattle.craq_versions.proofs.Numbered.{settled_below, settled_from, stored_from, from_all, from_at, numbered_some, some_below}
use Rattle.craq_versions.proofs.list.VersionList.settle.Goals as goal

pub returns-then-version-self-clause-versions : goal.returns-then-version-self-clause-versions
returns-then-version-self-clause-versions g c = rw (← c.self.view_is) (sym (from_all c.self.inside.first c.args.version c.self.inside.items.items (omega arith)))

pub returns-then-version-self-clause-clean : goal.returns-then-version-self-clause-clean
returns-then-version-self-clause-clean g c =
    let can = rw (← c.self.view_is) at c.requires in
    let le = settled_below c.self.inside.first c.args.version _ c.self.inside.items.items can (omega arith) in
    rw (← c.self.view_is) (omega (arith, le))

pub remove_first-requires : goal.remove_first-requires
remove_first-requires g c =
    let can = rw (← c.self.view_is, ← c.get-version.ensures) at c.requires in
    let held = settled_from c.self.inside.first c.get-version.result c.self.inside.has_clean c.self.inside.items.items c.self.invariant can c.if-version-self.false in
    omega (arith, held)

pub invariant_of-self : goal.invariant_of-self
invariant_of-self g c =
    let can = rw (← c.self.view_is, ← c.get-version.ensures) at c.requires in
    let held = settled_from c.self.inside.first c.get-version.result c.self.inside.has_clean c.self.inside.items.items c.self.invariant can c.if-version-self.false in
    rw c.remove_first.ensures.items (stored_from c.self.inside.first c.get-version.result c.self.inside.has_clean c.self.inside.items.items c.self.invariant c.if-version-self.false held)

pub returns-clause-versions : goal.returns-clause-versions
returns-clause-versions g c =
    rw (← c.self.view_is, c.remove_first.ensures.items, ← c.get-version.ensures)
    (sym (from_at c.self.inside.first c.get-version.result c.self.inside.items.items c.if-version-self.false))

pub returns-clause-some : goal.returns-clause-some
returns-clause-some g c =
    let can = rw (← c.self.view_is, ← c.get-version.ensures) at c.requires in
    let held = settled_from c.self.inside.first c.get-version.result c.self.inside.has_clean c.self.inside.items.items c.self.invariant can c.if-version-self.false in
    rw c.remove_first.ensures.items (numbered_some c.get-version.result (drop (c.get-version.result - c.self.inside.first) c.self.inside.items.items) (omega (arith, held, length-drop (c.get-version.result - c.self.inside.first) c.self.inside.items.items)))

pub returns-then-version-self-clause-some : goal.returns-then-version-self-clause-some
returns-then-version-self-clause-some g c =
    let can = rw (← c.self.view_is) at c.requires in
    rw (← c.self.view_is) (numbered_some c.self.inside.first c.self.inside.items.items (some_below c.self.inside.first c.args.version c.self.inside.has_clean c.self.inside.items.items c.self.invariant can (omega arith)))
