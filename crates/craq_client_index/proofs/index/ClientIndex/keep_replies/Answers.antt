use Rattle.std.proofs.Common.{ℕ, ◌+◌, ◌-◌, ◌≤◌, List, length, sym, subst, ap, ◌∙◌, arith}
use Rattle.craq_commands.specs.declared.entry.Entry.{Entry}
use Rattle.craq_full_history.specs.Slots.{slots_after}
use Rattle.craq_client_index.specs.Indexed.{Indexed, Tells}
use Rattle.craq_client_index.proofs.Telling.{from_index, indexed, slots_of_all}
use Rattle.craq_client_index.proofs.index.ClientIndex.keep_replies.Goals as goal

pub returns-clause-slots : goal.returns-clause-slots
returns-clause-slots c =
    let x : Indexed = indexed c.self.inside.from c.self.inside.to c.self.inside.places.entries in
    let es = c.args.entries.now in
    let known : Tells x es = subst (λ (y : Indexed). Tells y es) (sym c.self.view_is) c.requires.tells in
    let low = known.from in
    let high = known.to in
    let noted : ℕ = c.get.result - c.get-from.result in
    let within : noted ≤ length es = omega (arith, low, high, c.get.ensures, c.get-from.ensures) in
    c.add_entries.ensures.slots
    ∙ ap (λ (l : List Entry). slots_after c.args.client (c.args.first + noted) l c.keep_noted.new.slots.items) (from_index noted es)
    ∙ slots_of_all c.args.client c.args.first noted es c.args.slots.now.items c.keep_noted.new.slots.items within c.keep_noted.ensures.slots
