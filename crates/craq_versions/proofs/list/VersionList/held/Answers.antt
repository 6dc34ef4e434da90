use Rattle.std.proofs.Common.{◌∙◌, ap, slice_index_or}
use Rattle.craq_versions.proofs.Numbered.{held_numbered, length_numbered}
use Rattle.craq_versions.proofs.list.VersionList.held.Goals as goal

pub at-requires : goal.at-requires
at-requires g c =
    let within = rw (← c.self.view_is) at c.requires in
    rw (length_numbered c.self.inside.first c.self.inside.items.items) at within

pub returns : goal.returns
returns g c =
    rw (← c.self.view_is)
    (c.at.ensures ∙ ap (λ xs. slice_index_or xs c.args.index c.at.result.now) (held_numbered c.self.inside.first c.self.inside.items.items))
