-- A sound node replies to a version query, or learns a version.
use Rattle.std.proofs.Common.{◌≤◌, ℕ, ◌==◌, nat_lt, not, ◌||◌, cond, List, [], ◌∷◌, Option, Some, None, arith}
use Rattle.std.proofs.lemmas.Bool.{cond_both}
use Rattle.craq_names.proofs.Lists.{all_filter}
use Rattle.craq_model.specs.declared.message.Body.TheVariants as bodies
use Rattle.craq_model.specs.declared.step.Out.{Out}
use Rattle.craq_model.specs.declared.step.Out.TheVariants as outs
use Rattle.craq_model.specs.declared.step.Why.TheVariants.{NotNeighbour, NotReadyHere, UnknownTicket, TooFar}
use Rattle.craq_model.specs.declared.waiting.WaitingRead.{WaitingRead}
use Rattle.craq_model.specs.Deliveries.{query_transition, read_with, reads_without, answering_version, reported_version_transition, version_transition}
use Rattle.craq_model.specs.Members.{is_member, last_of}
use Rattle.craq_model.specs.Plain.{Plain, id_of, is_tail, newest_object, object_within}
use Rattle.craq_model.specs.Sends.{send}
use Rattle.craq_model.specs.Settle.{Transition, transition_with, transition_ignoring, read_answer}
use Rattle.craq_node_invariant.specs.Sound.{IsSound}
use Rattle.craq_node_invariant.proofs.Objects.{bounded_read}
use Rattle.craq_node_invariant.proofs.Sends.{Speaks, sent}
use Rattle.craq_node_invariant.proofs.Settling.{IsSoundTransition, ignoring}

pub query_is : (p : Plain) (sender ticket : ℕ) (key : List ℕ) → IsSound p → Speaks p → 1 ≤ sender → 1 ≤ ticket → IsSoundTransition (query_transition p sender ticket key)
unfolding query_transition
query_is p sender ticket key s w from t =
    let reported : List Out = send p sender (bodies.VersionIs ticket (newest_object p key).0) ∷ [] in
    cond_both ((sender == id_of p) || not (is_member p.members sender)) (transition_ignoring p NotNeighbour) (cond (not (is_tail p)) (transition_ignoring p NotReadyHere) (transition_with p reported)) (λ (t : Transition). IsSoundTransition t)
    (λ a. ignoring p NotNeighbour s)
    (λ a. cond_both (not (is_tail p)) (transition_ignoring p NotReadyHere) (transition_with p reported) (λ (t : Transition). IsSoundTransition t)
    (λ b. ignoring p NotReadyHere s)
    (λ b. (s, (sent p sender (bodies.VersionIs ticket (newest_object p key).0) w from t, tt))))

answered_is : (p : Plain) (ticket : ℕ) → IsSound p → IsSound (record p { waiting_reads = reads_without ticket p.waiting_reads })
unfolding reads_without
answered_is p ticket s = grind (arith, all_filter (λ (r : WaitingRead). 1 ≤ r.ticket) (λ (r : WaitingRead). not (r.ticket == ticket)) p.waiting_reads s.tickets)

reported_is : (p : Plain) (version : ℕ) (o : Option WaitingRead) → IsSound p → IsSoundTransition (reported_version_transition p version o)
unfolding reported_version_transition
reported_is p version None s = ignoring p UnknownTicket s
reported_is p version (Some r) s =
    let bound : ℕ = answering_version p r.key version in
    let answer : List Out = outs.Answer r.ticket (read_answer (object_within p r.key bound)) ∷ [] in
    cond_both (nat_lt (newest_object p r.key).0 version) (transition_ignoring p TooFar) (transition_with (record p { waiting_reads = reads_without r.ticket p.waiting_reads }) answer) (λ (t : Transition). IsSoundTransition t)
    (λ a. ignoring p TooFar s)
    (λ a. (answered_is p r.ticket s, (λ f. bounded_read p r.key bound s, tt)))

pub version_is : (p : Plain) (sender ticket version : ℕ) → IsSound p → IsSoundTransition (version_transition p sender ticket version)
unfolding version_transition
version_is p sender ticket version s =
    cond_both (not (sender == last_of p.members)) (transition_ignoring p NotNeighbour) (reported_version_transition p version (read_with ticket p.waiting_reads)) (λ (t : Transition). IsSoundTransition t)
    (λ a. ignoring p NotNeighbour s)
    (λ a. reported_is p version (read_with ticket p.waiting_reads) s)
