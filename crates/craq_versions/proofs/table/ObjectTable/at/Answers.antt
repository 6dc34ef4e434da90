use Rattle.std.proofs.Common.{sym, subst, ◌∙◌}
use Rattle.std.specs.Prelude.{IsSome}
use Rattle.craq_versions.specs.Tables.{key_at, Table}
use Rattle.craq_versions.proofs.Placed.{is_placed, place_key, shown_at}
use Rattle.craq_versions.proofs.table.ObjectTable.at.Goals as goal

pub at-requires : goal.at-requires
at-requires g c = is_placed c.self.inside.lists c.args.place (subst (λ (t : Table g.row.V.Denot). IsSome (key_at t c.args.place)) (sym c.self.view_is) c.requires)

pub returns : goal.returns
returns g c =
    let m = c.self.inside.lists in
    rw (← c.self.view_is) (λ key e. shown_at m key c.at.result.now (c.at.ensures key (sym (place_key m c.args.place) ∙ e)))
