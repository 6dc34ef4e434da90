-- A sound node receives an acknowledgement.
use Rattle.std.proofs.Common.{◌≡◌, ◌≤◌, ◌<◌, ℕ, nat_le, nat_lt, true, not, cond, [], ◌∷◌, map, arith}
use Rattle.std.proofs.lemmas.Bool.{cond_both, not-false, leb-false, ltb-false}
use Rattle.craq_names.proofs.Lists.{all_append, all_filter}
use Rattle.craq_model.specs.declared.message.Body.TheVariants as bodies
use Rattle.craq_model.specs.declared.step.Why.TheVariants.{NotNeighbour, NotReadyHere, AlreadyHave, TooFar}
use Rattle.craq_model.specs.declared.waiting.WaitingUpdate.{WaitingUpdate}
use Rattle.craq_model.specs.Deliveries.{pending_updates, later_updates, acknowledgement_transition, ack_transition}
use Rattle.craq_model.specs.Members.{is_id}
use Rattle.craq_model.specs.Plain.{Plain, successor, predecessor, length_of, acknowledging}
use Rattle.craq_model.specs.Sends.{send, to_neighbour}
use Rattle.craq_model.specs.Settle.{Transition, transition_ignoring, update_given, answer_outs}
use Rattle.craq_model.specs.Encodable.{IsReply}
use Rattle.craq_node_invariant.specs.Sound.{IsSound}
use Rattle.craq_node_invariant.proofs.Sends.{IsEncodableIfFitting, Speaks, ack_sent}
use Rattle.craq_node_invariant.proofs.Settling.{IsSoundTransition, ignoring, updates_given, answers_encodable}

heard_is : (p : Plain) (position : ℕ) → IsSound p → p.ready ≡ true → p.past.acknowledged < position → position ≤ length_of p
    → IsSound (record (acknowledging p position) { waiting_updates = later_updates position p.waiting_updates })
unfolding later_updates
heard_is p position s r above below = grind (arith, all_filter (λ (u : WaitingUpdate). IsReply u.reply) (λ (u : WaitingUpdate). nat_lt position u.position) p.waiting_updates s.replies)

acknowledgement_is : (p : Plain) (position : ℕ) → IsSound p → Speaks p → p.ready ≡ true → p.past.acknowledged < position → position ≤ length_of p → IsSoundTransition (acknowledgement_transition p position)
unfolding acknowledgement_transition pending_updates
acknowledgement_is p position s w r above below = (
  heard_is p position s r above below,
  all_append IsEncodableIfFitting (answer_outs (map update_given (pending_updates position p.waiting_updates))) (to_neighbour (predecessor p) (λ to. send p to (bodies.Ack position) ∷ []))
      (answers_encodable (map update_given (pending_updates position p.waiting_updates))
      (updates_given (pending_updates position p.waiting_updates)
      (all_filter (λ (u : WaitingUpdate). IsReply u.reply) (λ (u : WaitingUpdate). nat_le u.position position) p.waiting_updates s.replies)))
      (ack_sent p position s w),
)

pub ack_is : (p : Plain) (sender position : ℕ) → IsSound p → Speaks p → IsSoundTransition (ack_transition p sender position)
unfolding ack_transition
ack_is p sender position s w =
    let last : Transition = acknowledgement_transition p position in
    let third : Transition = cond (nat_lt (length_of p) position) (transition_ignoring p TooFar) last in
    let second : Transition = cond (nat_le position p.past.acknowledged) (transition_ignoring p AlreadyHave) third in
    let first : Transition = cond (not p.ready) (transition_ignoring p NotReadyHere) second in
    cond_both (not (is_id (successor p) sender)) (transition_ignoring p NotNeighbour) first (λ (t : Transition). IsSoundTransition t) (λ a. ignoring p NotNeighbour s)
    (λ a. cond_both (not p.ready) (transition_ignoring p NotReadyHere) second (λ (t : Transition). IsSoundTransition t) (λ b. ignoring p NotReadyHere s)
    (λ b. cond_both (nat_le position p.past.acknowledged) (transition_ignoring p AlreadyHave) third (λ (t : Transition). IsSoundTransition t) (λ d. ignoring p AlreadyHave s)
    (λ d. cond_both (nat_lt (length_of p) position) (transition_ignoring p TooFar) last (λ (t : Transition). IsSoundTransition t) (λ g. ignoring p TooFar s)
    (λ g. acknowledgement_is p position s w (not-false p.ready b) (leb-false position p.past.acknowledged d) (ltb-false (length_of p) position g)))))
