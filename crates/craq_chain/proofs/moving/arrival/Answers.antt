use Rattle.std.proofs.Common.{◌≡◌, Some, sym, ap, subst, ◌∙◌}
use Rattle.craq_runs.specs.Chain.{arrival_progress, message_at}
use Rattle.craq_chain.specs.Chained.{FindsReceiver}
use Rattle.craq_chain.specs.Parts.{AreParts, Moves}
use Rattle.craq_chain.proofs.moving.arrival.Goals as goal

pub returns-in-Some-clause-step : goal.returns-in-Some-clause-step
returns-in-Some-clause-step g c = λ m d h k.
    let at : Some c.in-Some.message.now ≡ message_at d.messages c.args.number = c.in-Some.ensures ∙ ap (λ ms. message_at ms c.args.number) (sym k) in
    subst (λ o. Moves (AreParts g.C.Core.represents c.deliver.new.cores.items m) d (FindsReceiver d o) c.deliver.result (arrival_progress d o)) at (c.deliver.ensures.step m d h)
