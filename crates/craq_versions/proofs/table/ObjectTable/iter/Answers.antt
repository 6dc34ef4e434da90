use Rattle.std.proofs.Common.{◌∙◌, ap, refl, subst, sym}
use Rattle.craq_names.specs.Places.{filled}
use Rattle.craq_key_map.specs.Mapped.{entries_of, AreDistinct, AreEntries}
use Rattle.craq_key_map.proofs.Filled.{same_filled}
use Rattle.craq_versions.specs.Tables.{shown}
use Rattle.craq_versions.proofs.Taken.{rise}
use Rattle.craq_versions.proofs.Written.{rising_keys}
use Rattle.craq_versions.proofs.table.ObjectTable.iter.Goals as goal

pub returns-clause-objects : goal.returns-clause-objects
returns-clause-objects g c =
    let m = c.self.inside.lists in
    rw (← c.self.view_is)
    (subst (λ es. AreEntries es (filled shown (entries_of m))) (sym (c.of.ensures ∙ ap (filled shown) c.iter.ensures.entries)) (same_filled shown m (subst AreDistinct c.iter.ensures.entries c.iter.ensures.distinct)))

pub returns-clause-rising : goal.returns-clause-rising
returns-clause-rising g c = rw (← c.self.view_is) (rising_keys (entries_of c.self.inside.lists) _ refl (rise c.self.inside.lists))
