use Rattle.std.proofs.Common.{◌≡◌, Some, None, Ok, Err, refl, sym, inl, inr}
use Rattle.std.specs.Prelude.{IsOk, ⊤}
use Rattle.craq_model.specs.Node.{node_step}
use Rattle.craq_node.specs.Represented.{uncounted_step}
use Rattle.craq_seat.specs.Cells.{with_inside}
use Rattle.craq_seat.specs.Stamps.{event_stamp, next_stamp}
use Rattle.craq_seat.proofs.Keeping.{keeps_alone, keeps_noted}
use Rattle.craq_seat.proofs.Taking.{above, no_stamp, refuses, takes_alone, takes_noted}
use Rattle.craq_seat.proofs.cell.Cell.take.Goals as goal

pub returns-in-Err-clause-step : goal.returns-in-Err-clause-step
returns-in-Err-clause-step g c =
    let none : next_stamp c.args.self.now.stamp c.args.pass (event_stamp c.args.event) ≡ Err c.in-Err.refusal = rw (← c.self.view_is, ← c.event_stamp.ensures) (sym c.in-Err.ensures) in
    λ p r. (p, (inr (no_stamp node_step (with_inside c.args.self.now p) c.args.event (event_stamp c.args.event) c.args.pass c.in-Err.refusal none), refl), r)

pub returns-in-Err-noted_step-clause-step : goal.returns-in-Err-noted_step-clause-step
returns-in-Err-noted_step-clause-step g c =
    let stamps : next_stamp c.self.inside.stamp c.args.pass (event_stamp c.args.event) ≡ Ok c.in-Ok.stamp = rw (← c.event_stamp.ensures) (sym c.in-Ok.ensures) in
    rw (← c.self.view_is, c.in-Some.is, c.noted_step.ensures.same)
    (λ p r. refuses g.C.Core.represents node_step c.self.inside.opening c.noted_step.new.core p c.self.inside.stamp (Some c.in-Some.journal.items) _ c.args.event (event_stamp c.args.event) c.args.pass c.in-Ok.stamp c.in-Err-noted_step.refusal ⊤ (IsOk (uncounted_step p c.args.event)) stamps (λ x. inl refl) (c.in-Err-noted_step.ensures.step p r))

pub returns-in-Err-step-clause-step : goal.returns-in-Err-step-clause-step
returns-in-Err-step-clause-step g c =
    let stamps : next_stamp c.self.inside.stamp c.args.pass (event_stamp c.args.event) ≡ Ok c.in-Ok.stamp = rw (← c.event_stamp.ensures) (sym c.in-Ok.ensures) in
    rw (← c.self.view_is, c.in-None.is)
    (λ p r. refuses g.C.Core.represents node_step c.self.inside.opening c.step.new.self p c.self.inside.stamp None c.self.inside.last c.args.event (event_stamp c.args.event) c.args.pass c.in-Ok.stamp c.in-Err-step.refusal (IsOk (uncounted_step p c.args.event)) (IsOk (uncounted_step p c.args.event)) stamps (λ x. inr x) (c.in-Err-step.ensures.step p r))

pub invariant_of-self-in-Ok-noted_step : goal.invariant_of-self-in-Ok-noted_step
invariant_of-self-in-Ok-noted_step g c =
    let stamps : next_stamp c.self.inside.stamp c.args.pass (event_stamp c.args.event) ≡ Ok c.in-Ok.stamp = rw (← c.event_stamp.ensures) (sym c.in-Ok.ensures) in
    let kept = rw c.in-Some.is at c.self.invariant in
    rw (c.push_reserved.ensures.items, c.noted_step.ensures.same, c.noted_step.ensures.event)
    (keeps_noted g.C.Core.represents c.self.inside.opening c.self.inside.core c.noted_step.new.core c.self.inside.stamp c.in-Some.journal.items _ (record { stamp = c.in-Ok.stamp; event = c.args.event; pass = c.args.pass; step = c.in-Ok-noted_step.step }) kept stamps c.in-Ok-noted_step.ensures.step c.in-Ok-noted_step.ensures.spelled)

pub returns-in-Ok-noted_step-clause-kept : goal.returns-in-Ok-noted_step-clause-kept
returns-in-Ok-noted_step-clause-kept g c =
    let stamps : next_stamp c.self.inside.stamp c.args.pass (event_stamp c.args.event) ≡ Ok c.in-Ok.stamp = rw (← c.event_stamp.ensures) (sym c.in-Ok.ensures) in
    let kept = rw c.in-Some.is at c.self.invariant in
    rw (c.push_reserved.ensures.items, c.noted_step.ensures.same, c.noted_step.ensures.event)
    (keeps_noted g.C.Core.represents c.self.inside.opening c.self.inside.core c.noted_step.new.core c.self.inside.stamp c.in-Some.journal.items _ (record { stamp = c.in-Ok.stamp; event = c.args.event; pass = c.args.pass; step = c.in-Ok-noted_step.step }) kept stamps c.in-Ok-noted_step.ensures.step c.in-Ok-noted_step.ensures.spelled)

pub returns-in-Ok-noted_step-clause-step : goal.returns-in-Ok-noted_step-clause-step
returns-in-Ok-noted_step-clause-step g c =
    let stamps : next_stamp c.self.inside.stamp c.args.pass (event_stamp c.args.event) ≡ Ok c.in-Ok.stamp = rw (← c.event_stamp.ensures) (sym c.in-Ok.ensures) in
    rw (← c.self.view_is, c.in-Some.is, c.push_reserved.ensures.items, c.noted_step.ensures.same, c.noted_step.ensures.event)
    (λ p r. let a = c.in-Ok-noted_step.ensures.step p r in (a.0, takes_noted node_step c.self.inside.opening p a.0 c.self.inside.stamp c.in-Some.journal.items _ _ c.args.event (event_stamp c.args.event) c.args.pass c.in-Ok.stamp c.in-Ok-noted_step.step ⊤ stamps refl a.1, a.2))

pub invariant_of-self-in-Ok-step : goal.invariant_of-self-in-Ok-step
invariant_of-self-in-Ok-step g c =
    let stamps : next_stamp c.self.inside.stamp c.args.pass (event_stamp c.args.event) ≡ Ok c.in-Ok.stamp = rw (← c.event_stamp.ensures) (sym c.in-Ok.ensures) in
    let up = above c.self.inside.stamp c.args.pass (event_stamp c.args.event) c.in-Ok.stamp stamps in
    let kept = rw c.in-None.is at c.self.invariant in
    rw c.in-None.is
    (keeps_alone g.C.Core.represents c.self.inside.opening c.self.inside.core c.step.new.self c.self.inside.stamp c.in-Ok.stamp c.self.inside.last c.args.event c.in-Ok-step.step kept up c.in-Ok-step.ensures.step c.in-Ok-step.ensures.spelled)

pub returns-in-Ok-step-clause-kept : goal.returns-in-Ok-step-clause-kept
returns-in-Ok-step-clause-kept g c =
    let stamps : next_stamp c.self.inside.stamp c.args.pass (event_stamp c.args.event) ≡ Ok c.in-Ok.stamp = rw (← c.event_stamp.ensures) (sym c.in-Ok.ensures) in
    let up = above c.self.inside.stamp c.args.pass (event_stamp c.args.event) c.in-Ok.stamp stamps in
    let kept = rw c.in-None.is at c.self.invariant in
    rw c.in-None.is
    (keeps_alone g.C.Core.represents c.self.inside.opening c.self.inside.core c.step.new.self c.self.inside.stamp c.in-Ok.stamp c.self.inside.last c.args.event c.in-Ok-step.step kept up c.in-Ok-step.ensures.step c.in-Ok-step.ensures.spelled)

pub returns-in-Ok-step-clause-step : goal.returns-in-Ok-step-clause-step
returns-in-Ok-step-clause-step g c =
    let stamps : next_stamp c.self.inside.stamp c.args.pass (event_stamp c.args.event) ≡ Ok c.in-Ok.stamp = rw (← c.event_stamp.ensures) (sym c.in-Ok.ensures) in
    rw (← c.self.view_is, c.in-None.is)
    (λ p r. let a = c.in-Ok-step.ensures.step p r in (a.0, takes_alone node_step c.self.inside.opening p a.0 c.self.inside.stamp c.self.inside.last c.args.event (event_stamp c.args.event) c.args.pass c.in-Ok.stamp c.in-Ok-step.step ⊤ stamps a.1, a.2))
