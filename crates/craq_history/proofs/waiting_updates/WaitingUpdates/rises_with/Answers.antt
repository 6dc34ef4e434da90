use Rattle.std.proofs.Common.{◌≡◌, ◌<◌, ◌-◌, ◌∙◌, ap, sym, suc, length, refl, arith, nat_le, Bool, ◌&&◌}
use Rattle.craq_history.proofs.Waiting.{is_le_same, rise_more}
use Rattle.craq_history.proofs.waiting_updates.WaitingUpdates.rises_with.Goals as goal

pub returns-then-self : goal.returns-then-self
returns-then-self c =
    let all = c.self.inside.items.ok.0 in
    let some : 0 < c.self.inside.items.len = c.in-Some.ensures.variant.0 refl in
    let end : length c.self.inside.items.items ≡ suc (c.self.inside.items.len - 1) = omega (arith, all, some) in
    rw (← c.self.view_is)
    (c.le.ensures
    ∙ is_le_same c.in-Some.last.now.position c.args.update.now.position
    ∙ ap (λ (b : Bool). b && nat_le c.in-Some.last.now.position c.args.update.now.position) (sym c.if-self.true ∙ c.self.invariant)
    ∙ sym (rise_more 0 c.self.inside.items.items (c.self.inside.items.len - 1) c.in-Some.last.now c.args.update.now end c.in-Some.ensures.lookup))

pub returns-else-self : goal.returns-else-self
returns-else-self c =
    let all = c.self.inside.items.ok.0 in
    let some : 0 < c.self.inside.items.len = c.in-Some.ensures.variant.0 refl in
    let end : length c.self.inside.items.items ≡ suc (c.self.inside.items.len - 1) = omega (arith, all, some) in
    rw (← c.self.view_is)
    (c.if-self.false
    ∙ ap (λ (b : Bool). b && nat_le c.in-Some.last.now.position c.args.update.now.position) (sym c.if-self.false ∙ c.self.invariant)
    ∙ sym (rise_more 0 c.self.inside.items.items (c.self.inside.items.len - 1) c.in-Some.last.now c.args.update.now end c.in-Some.ensures.lookup))
