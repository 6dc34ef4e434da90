use Rattle.std.proofs.Common.{refl}
use Rattle.craq_model.specs.Asks.{ask_transition}
use Rattle.craq_model.specs.Node.{node_step}
use Rattle.craq_laws.proofs.refusals_in_order.Goals as goal

pub returns : goal.returns
unfolding node_step ask_transition
returns c =
    record {
      stopped = λ p e r. rw r refl;
      not_ready = λ p a r d. rw (r, d) refl;
      two_chains = λ p a r d k. rw (r, d, k) refl;
      not_head = λ p u r d k f. rw (r, d, k, f) refl;
      no_ticket = λ p u r d k f t. rw (r, d, k, f, t) refl;
      no_ticket_to_read = λ p mode o r d k t. rw (r, d, k, t) refl;
      wrong_node = λ p m r f. rw (r, f) refl;
    }
