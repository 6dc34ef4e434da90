use Rattle.std.proofs.Common.{◌≡◌, ◌∷◌, ◌∙◌, ◌+◌, List, [], drop, ap, refl, sym}
use Rattle.std.proofs.lemmas.List.{drop_all, drop_more}
use Rattle.craq_model.specs.declared.step.Out.{Out}
use Rattle.craq_seat.specs.Calls.{waiting_after}
use Rattle.craq_seat.proofs.Own.{all_wait, one_more}
use Rattle.craq_seat.proofs.calls.forget_answered.Goals as goal

pub loop-out-preserved : goal.loop-out-preserved
loop-out-preserved c =
    let rest = drop (c.loop-out.out-index + 1) c.args.outs.now in
    let next : drop c.loop-out.out-index c.args.outs.now ≡ c.out-item.result ∷ rest = drop_more c.args.outs.now c.loop-out.out-index c.out-item.result c.loop-out-test.true ∙ ap (λ (o : Out). o ∷ rest) (sym c.out-item.is) in
    rw c.forget_by.ensures (one_more c.loop-out.waiting.items c.out-item.result rest ∙ ap (λ (os : List Out). waiting_after c.loop-out.waiting.items os) (sym next) ∙ c.loop-out.invariant)

pub returns : goal.returns
returns c =
    sym (all_wait c.loop-out.waiting.items [] refl) ∙ ap (λ (os : List Out). waiting_after c.loop-out.waiting.items os) (sym (drop_all c.loop-out.out-index c.args.outs.now c.loop-out-test.false)) ∙ c.loop-out.invariant
