use Rattle.std.proofs.Common.{◌∙◌, ap, map, refl, subst, sym}
use Rattle.std.specs.List.Sorted.{IsStrictlySortedBy}
use Rattle.craq_key_map.specs.Mapped.{entries_of}
use Rattle.craq_names.specs.Maps.{key_cmp}
use Rattle.craq_names.specs.Places.{filled}
use Rattle.craq_versions.specs.Tables.{shown}
use Rattle.craq_versions.proofs.Taken.{rise}
use Rattle.craq_versions.proofs.Written.{rising_keys}
use Rattle.craq_versions.proofs.table.ObjectTable.keys.Goals as goal

pub returns-clause-keys : goal.returns-clause-keys
returns-clause-keys g c = rw (← c.self.view_is) (c.of.ensures ∙ ap (λ es. map (λ o. o.0) (filled shown es)) c.rising.ensures)

pub returns-clause-rising : goal.returns-clause-rising
returns-clause-rising g c =
    let m = c.self.inside.lists in
    subst (IsStrictlySortedBy key_cmp) (sym (c.of.ensures ∙ ap (λ es. map (λ o. o.0) (filled shown es)) c.rising.ensures)) (rising_keys (entries_of m) _ refl (rise m))
