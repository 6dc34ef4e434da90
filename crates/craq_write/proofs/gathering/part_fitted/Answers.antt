use Rattle.std.proofs.Common.{◌≡◌, true, false, sym, ap, subst, ◌∙◌}
use Rattle.std.specs.Prelude.{IfOk, IsSome, Option}
use Rattle.craq_model.specs.declared.step.Why.{Why}
use Rattle.craq_model.specs.Deliveries.{gathered_transition, gathering_transition}
use Rattle.craq_model.specs.Parts.{gathering_for, with_part}
use Rattle.craq_model.specs.Settle.{Transition}
use Rattle.craq_history.specs.Nodes.{plain_of}
use Rattle.craq_history.specs.Effects.{IsEffectOf}
use Rattle.craq_write.proofs.Gathers.{fits}
use Rattle.craq_write.proofs.Heard.{gathered_heard}
use Rattle.craq_write.proofs.gathering.part_fitted.Goals as goal

pub returns-then-stands_between-clause-transition : goal.returns-then-stands_between-clause-transition
returns-then-stands_between-clause-transition g c =
    let p = plain_of g.H.History.past c.args.node.now in
    let same = fits p (gathering_for c.args.part p.gathering) c.args.part c.held_with-count.result.0.now c.held_with-count.result.1 c.held_with-count.ensures.parts c.held_with-count.ensures.count (cc)
    (sym c.is_held.ensures ∙ c.if-is_held.false) (sym c.stands_between.ensures ∙ c.if-stands_between.true) in
    subst (λ (t : Transition). IfOk c.part_kept.result (λ r. IsEffectOf p r t)) (sym same) c.part_kept.ensures

pub returns-then-stands_between-clause-free : goal.returns-then-stands_between-clause-free
returns-then-stands_between-clause-free g c = λ h.
    let p = plain_of g.H.History.past c.args.node.now in
    let gathered = gathering_for c.args.part p.gathering in
    let same : gathering_transition p gathered c.args.part ≡ gathered_transition p (with_part gathered c.args.part) =
    fits p gathered c.args.part c.held_with-count.result.0.now c.held_with-count.result.1 c.held_with-count.ensures.parts c.held_with-count.ensures.count (cc)
    (sym c.is_held.ensures ∙ c.if-is_held.false) (sym c.stands_between.ensures ∙ c.if-stands_between.true)
    in
    let none : false ≡ true = subst (λ (o : Option Why). IsSome o) (ap (λ (t : Transition). t.1.ignored) same ∙ gathered_heard p (with_part gathered c.args.part)) h in
    absurd cc
