use Rattle.std.proofs.Common.{◌≡◌, ℕ, ◌+◌, ◌-◌, List, None, drop, refl, sym, subst, ap, ◌∙◌, arith}
use Rattle.std.specs.Prelude.{unwrap_or}
use Rattle.std.specs.List.{last_or}
use Rattle.craq_commands.specs.declared.entry.Entry.{Entry}
use Rattle.craq_model.specs.Past.{last_position}
use Rattle.craq_node_invariant.specs.Sound.{AreInRow}
use Rattle.craq_client_index.specs.Indexed.{Indexed, Tells, noted_of}
use Rattle.craq_client_index.proofs.Telling.{from_index, indexed, newest_of_all}
use Rattle.craq_client_index.proofs.index.ClientIndex.newest_of.Goals as goal

pub returns : goal.returns
returns c =
    let x : Indexed = indexed c.self.inside.from c.self.inside.to c.self.inside.places.entries in
    let es = c.args.entries.now in
    let client : ℕ = c.args.client in
    let known : Tells x es = subst (λ (y : Indexed). Tells y es) (sym c.self.view_is) c.requires.tells in
    let row : AreInRow (x.from + 1) es = subst (λ (y : Indexed). AreInRow (y.from + 1) es) (sym c.self.view_is) c.requires.in_row in
    let noted : c.get.result - c.get-from.result ≡ x.to - x.from = omega (arith, c.get.ensures, c.get-from.ensures) in
    c.last_position_of.ensures
    ∙ ap (λ (l : List Entry). last_position client c.newest_position-newest.result l) (from_index (c.get.result - c.get-from.result) es)
    ∙ ap (λ (k : ℕ). last_position client k (drop (c.get.result - c.get-from.result) es)) (c.newest_position-newest.ensures ∙ ap (λ (k : ℕ). unwrap_or (last_or None (noted_of x.places client)) k) c.get-from.ensures)
    ∙ ap (λ (k : ℕ). last_position client (unwrap_or (last_or None (noted_of x.places client)) x.from) (drop k es)) noted
    ∙ newest_of_all x es client (noted_of x.places client) known row refl
    ∙ ap (λ (y : Indexed). last_position client y.from es) c.self.view_is
