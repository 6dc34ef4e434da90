use Rattle.std.proofs.Common.{◌≡◌, ◌∷◌, ◌∙◌, ◌+◌, List, Err, drop, sym, ap, subst, refl}
use Rattle.std.proofs.lemmas.List.{drop_more}
use Rattle.craq_names.specs.declared.refusal.Refusal.TheVariants as refusals
use Rattle.craq_model.specs.declared.step.Out.{Out}
use Rattle.craq_running_node.specs.Replies.{without_memory}
use Rattle.craq_running_node.proofs.Telling.{Left, left_next, left_same}
use Rattle.craq_running_node.proofs.steps.give_up_step.Goals as goal
use Rattle.craq_running_node.proofs.steps.give_up_step.Goals.{in-Answer, in-Send}

pub loop-out-preserved : goal.loop-out-preserved
loop-out-preserved g c =
    let xs = c.args.outs.now in
    let i = c.loop-out.out-index in
    let first = c.args.callers.now.items in
    let now = c.loop-out.callers.items in
    let before = c.args.replies.now in
    let mid = c.loop-out.replies in
    let said = without_memory xs in
    let rest = drop (i + 1) xs in
    let split : drop i xs ≡ c.out-item.result ∷ rest = drop_more xs i c.out-item.result c.loop-out-test.true ∙ ap (λ (x : Out). x ∷ rest) (sym c.out-item.is) in
    let left = subst (λ (l : List Out). Left first now before mid said (without_memory l)) split c.loop-out.invariant in
    elim c.match-out.branch [
      | in-Answer w ↦
          let callers : c.match-out.callers.items ≡ w.add_under.new.callers.items = rw w.callers-is refl in
          let one = subst (λ (o : Out). Left first now before mid said (without_memory (o ∷ rest))) w.in-Answer.is left in
          left_same first w.add_under.new.callers.items c.match-out.callers.items before w.add_under.new.self c.match-out.replies said (without_memory rest) callers w.replies-is
          (left_next first now w.add_under.new.callers.items before mid w.add_under.new.self said (without_memory rest) w.in-Answer.ticket (Err refusals.Memory) one w.add_under.ensures.others (rw w.without_call-refused.ensures at w.add_under.ensures.reported))
      | in-Send w ↦
          let callers : c.match-out.callers.items ≡ now = rw w.callers-is refl in
          left_same first now c.match-out.callers.items before mid c.match-out.replies said (without_memory rest) callers w.replies-is
          (subst (λ (o : Out). Left first now before mid said (without_memory (o ∷ rest))) w.in-Send.is left)
    ]
