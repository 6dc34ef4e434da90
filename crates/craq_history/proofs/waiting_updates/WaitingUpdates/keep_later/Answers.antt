use Rattle.std.proofs.Common.{rules, nat_lt}
use Rattle.std.proofs.lemmas.Fn.{filter_same}
use Rattle.craq_model.specs.declared.waiting.WaitingUpdate.{WaitingUpdate}
use Rattle.craq_model.specs.Deliveries.{later_updates}
use Rattle.craq_history.proofs.waiting_updates.WaitingUpdates.keep_later.Goals as goal

pub returns-else-self : goal.returns-else-self
unfolding later_updates
returns-else-self c = rw (← c.self.view_is) (filter_same _ (λ (u : WaitingUpdate). nat_lt c.args.position u.position) _ (λ x b f t. search rules) _ _ c.retain.ensures.filtered)
