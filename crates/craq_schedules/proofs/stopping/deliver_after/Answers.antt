use Rattle.std.proofs.Common.{◌≡◌, ◌+◌, ◌-◌, suc, ap, arith, sym, ◌∙◌}
use Rattle.craq_schedules.specs.Stopped.{delivered}
use Rattle.craq_schedules.proofs.Arriving.{all_arrived, arrives, enough}
use Rattle.craq_schedules.proofs.stopping.deliver_after.Goals as goal

pub returns-then-sent-arrived : goal.returns-then-sent-arrived
returns-then-sent-arrived g c = sym (all_arrived (c.args.most - c.loop.counter) c.loop.arrived c.loop.chain (omega (arith, c.sent.ensures))) ∙ c.loop.invariant

pub loop-preserved : goal.loop-preserved
loop-preserved g c =
    let left = c.args.most - (c.loop.counter + 1) in
    let one : suc left ≡ c.args.most - c.loop.counter = omega arith in
    ap (λ w. delivered left (c.loop.arrived + 1) w) c.in_ok-take_move.ensures ∙ sym (arrives left c.loop.arrived c.loop.chain (omega (arith, c.sent.ensures)))
    ∙ ap (λ n. delivered n c.loop.arrived c.loop.chain) one ∙ c.loop.invariant

pub returns : goal.returns
returns g c =
    let none : c.args.most - c.loop.counter ≡ 0 = omega arith in
    sym (ap (λ n. delivered n c.loop.arrived c.loop.chain) none ∙ enough c.loop.arrived c.loop.chain) ∙ c.loop.invariant
