use Rattle.std.proofs.Common.{◌≡◌, ap, sym, ◌∙◌}
use Rattle.craq_schedules.specs.Stopped.{after_removal, after_removing, delivered, most_deliveries, without_node}
use Rattle.craq_schedules.proofs.stopping.stop_and_remove.Goals as goal

pub returns-in-Ok : goal.returns-in-Ok
unfolding most_deliveries
returns-in-Ok g c =
    let gone : without_node c.args.chain.now c.args.node ≡ delivered 10000 c.sent-earlier.result c.take.new.self =
    ap (λ w. after_removing w c.args.node) (sym c.in_ok-take_move.ensures) ∙ ap (λ r. after_removal c.take_move.new.chain r) c.in-Ok.ensures.gives.0 ∙ ap (λ n. delivered 10000 n c.take.new.self) (sym c.sent-earlier.ensures) in
    rw gone c.deliver_after.ensures
