-- Nodes with alike pasts take the same step on a message.
use Rattle.std.proofs.Common.{◌≡◌, ◌≤◌, ◌<◌, ◌+◌, ◌==◌, ◌||◌, nat_le, nat_lt, max, not, ℕ, Bool, cond, List, [], ◌∷◌, ◌++◌, map, Option, Some, None, refl, sym, ap, ◌∙◌, subst, arith}
use Rattle.std.proofs.lemmas.Bool.{leb-false, ltb-false}
use Rattle.craq_commands.specs.declared.entry.Entry.{Entry}
use Rattle.craq_commands.specs.declared.state.State.{State}
use Rattle.craq_commands.specs.Objects.{object_of}
use Rattle.craq_model.specs.declared.message.Body.TheVariants as bodies
use Rattle.craq_model.specs.declared.step.Out.{Out}
use Rattle.craq_model.specs.declared.step.Out.TheVariants as outs
use Rattle.craq_model.specs.declared.step.Why.TheVariants.{OtherEpoch, NotNeighbour, OutOfOrder, AlreadyHave, NotReadyHere, UnknownTicket, TooFar}
use Rattle.craq_model.specs.declared.waiting.WaitingRead.{WaitingRead}
use Rattle.craq_model.specs.Members.{is_member, is_id, last_of}
use Rattle.craq_model.specs.Past.{Past, length_in, entries_in, clean_in, values_after, newest_within, object_within_in, with_entries_in, acknowledged_in}
use Rattle.craq_model.specs.Plain.{Plain, id_of, successor, predecessor, is_tail, newest, clean, newest_object}
use Rattle.craq_model.specs.Sends.{send, send_all, to_neighbour, entry_bodies}
use Rattle.craq_model.specs.Settle.{Transition, transition_with, transition_ignoring, read_answer, update_given, answer_outs, settling_transition, readiness_transition}
use Rattle.craq_model.specs.Deliveries.{config_transition, are_applicable, forwarding_transition, taken_entries_transition, appending_transition, final_position, first_position, entries_above, entries_transition, pending_updates, later_updates, acknowledgement_transition, ack_transition, query_transition, read_with, reads_without, reported_version_transition, version_transition, floor_transition}
use Rattle.craq_node_invariant.proofs.CompactedPasts.{AreAlike, same_acknowledged, same_length, same_clean, same_later, alike_append, alike_acknowledge, alike_committed}
use Rattle.craq_node_invariant.proofs.CompactedTransitions.{with_past, SameTransition, branch, same_outs, same_ignoring, newest_alike, clean_alike, same_settling, same_readiness}

-- ---- memberships and floors

pub same_config : (p : Plain) (h k : Past) (epoch : ℕ) (members : List ℕ) → AreAlike h k → SameTransition (config_transition (with_past p h) epoch members) (config_transition (with_past p k) epoch members)
unfolding config_transition
same_config p h k epoch members a =
    let q : Plain = record p { epoch = epoch; members = members; floor = None; gathering = None } in
    let last : Past → Transition = λ x. settling_transition (with_past q x) in
    let second : Past → Transition = λ x. cond (not (is_member members (id_of p))) (transition_ignoring (with_past p x) NotNeighbour) (last x) in
    branch SameTransition (nat_le epoch p.epoch) (nat_le epoch p.epoch) (transition_ignoring (with_past p h) OtherEpoch) (second h) (transition_ignoring (with_past p k) OtherEpoch) (second k) refl
    (λ t. same_ignoring p h k OtherEpoch a)
    (λ t. branch SameTransition (not (is_member members (id_of p))) (not (is_member members (id_of p))) (transition_ignoring (with_past p h) NotNeighbour) (last h) (transition_ignoring (with_past p k) NotNeighbour) (last k) refl
    (λ s. same_ignoring p h k NotNeighbour a)
    (λ s. same_settling q h k a))

pub same_floor : (p : Plain) (h k : Past) (sender count : ℕ) → AreAlike h k → SameTransition (floor_transition (with_past p h) sender count) (floor_transition (with_past p k) sender count)
unfolding floor_transition
same_floor p h k sender count a =
    let q : Plain = record p { floor = Some count } in
    let last : Past → Transition = λ x. readiness_transition (with_past q x) in
    let second : Past → Transition = λ x. cond p.ready (transition_ignoring (with_past p x) AlreadyHave) (last x) in
    let stranger : Bool = not (is_id (predecessor p) sender) in
    branch SameTransition stranger stranger (transition_ignoring (with_past p h) NotNeighbour) (second h) (transition_ignoring (with_past p k) NotNeighbour) (second k) refl
    (λ t. same_ignoring p h k NotNeighbour a)
    (λ t. branch SameTransition p.ready p.ready (transition_ignoring (with_past p h) AlreadyHave) (last h) (transition_ignoring (with_past p k) AlreadyHave) (last k) refl
    (λ s. same_ignoring p h k AlreadyHave a)
    (λ s. same_readiness q h k a))

-- ---- entries

same_forwarding : (p : Plain) (h k : Past) (es : List Entry) → AreAlike h k → SameTransition (forwarding_transition (with_past p h) es) (forwarding_transition (with_past p k) es)
unfolding forwarding_transition
same_forwarding p h k es a =
    let acked : ℕ → List Out = λ n. to_neighbour (predecessor p) (λ to. send p to (bodies.Ack n) ∷ []) in
    let sent : List Out = to_neighbour (successor p) (λ to. send_all p to (entry_bodies es)) in
    let hc : Past = acknowledged_in h (length_in h) in
    let kc : Past = acknowledged_in k (length_in k) in
    branch SameTransition (is_tail p) (is_tail p) (transition_with (with_past p hc) (acked (length_in h))) (transition_with (with_past p h) sent)
    (transition_with (with_past p kc) (acked (length_in k))) (transition_with (with_past p k) sent) refl
    (λ t. same_outs p hc kc (acked (length_in h)) (acked (length_in k)) (alike_committed h k a) (ap acked (same_length h k a)))
    (λ t. same_outs p h k sent sent a refl)

same_taken : (p : Plain) (h k : Past) (es : List Entry) → AreAlike h k → SameTransition (taken_entries_transition (with_past p h) es) (taken_entries_transition (with_past p k) es)
same_taken p h k es a =
    branch SameTransition p.ready p.ready (forwarding_transition (with_past p h) es) (readiness_transition (with_past p h)) (forwarding_transition (with_past p k) es) (readiness_transition (with_past p k)) refl
    (λ t. same_forwarding p h k es a)
    (λ t. same_readiness p h k a)

same_appending : (p : Plain) (h k : Past) (es : List Entry) → AreAlike h k → SameTransition (appending_transition (with_past p h) es) (appending_transition (with_past p k) es)
same_appending p h k es a =
    let hm : Past = with_entries_in h es in
    let km : Past = with_entries_in k es in
    branch SameTransition (are_applicable (newest (with_past p h)) es) (are_applicable (newest (with_past p k)) es) (taken_entries_transition (with_past p hm) es) (transition_ignoring (with_past p h) TooFar)
    (taken_entries_transition (with_past p km) es) (transition_ignoring (with_past p k) TooFar)
    (ap (λ (s : State). are_applicable s es) (newest_alike p h k a))
    (λ t. same_taken p hm km es (alike_append h k es a))
    (λ t. same_ignoring p h k TooFar a)

pub same_entries_transition : (p : Plain) (h k : Past) (sender : ℕ) (es : List Entry) → AreAlike h k → SameTransition (entries_transition (with_past p h) sender es) (entries_transition (with_past p k) sender es)
unfolding entries_transition
same_entries_transition p h k sender es a =
    let e : length_in h ≡ length_in k = same_length h k a in
    let last : Past → Transition = λ x. appending_transition (with_past p x) (entries_above (length_in x) es) in
    let third : Past → Transition = λ x. cond (nat_lt (length_in x + 1) (first_position es)) (transition_ignoring (with_past p x) OutOfOrder) (last x) in
    let second : Past → Transition = λ x. cond (nat_le (final_position es) (length_in x)) (transition_ignoring (with_past p x) AlreadyHave) (third x) in
    let stranger : Bool = not (is_id (predecessor p) sender) in
    let P : ℕ → Type 0 = λ n. SameTransition (appending_transition (with_past p h) (entries_above n es)) (last k) in
    branch SameTransition stranger stranger (transition_ignoring (with_past p h) NotNeighbour) (second h) (transition_ignoring (with_past p k) NotNeighbour) (second k) refl
    (λ t. same_ignoring p h k NotNeighbour a)
    (λ t. branch SameTransition (nat_le (final_position es) (length_in h)) (nat_le (final_position es) (length_in k)) (transition_ignoring (with_past p h) AlreadyHave) (third h) (transition_ignoring (with_past p k) AlreadyHave) (third k)
    (ap (λ (n : ℕ). nat_le (final_position es) n) e)
    (λ s. same_ignoring p h k AlreadyHave a)
    (λ s. branch SameTransition (nat_lt (length_in h + 1) (first_position es)) (nat_lt (length_in k + 1) (first_position es)) (transition_ignoring (with_past p h) OutOfOrder) (last h) (transition_ignoring (with_past p k) OutOfOrder) (last k)
    (ap (λ (n : ℕ). nat_lt (n + 1) (first_position es)) e)
    (λ r. same_ignoring p h k OutOfOrder a)
    (λ r. subst P (sym e) (same_appending p h k (entries_above (length_in k) es) a))))

-- ---- acknowledgements

same_acknowledgement : (p : Plain) (h k : Past) (position : ℕ) → AreAlike h k → k.acknowledged ≤ position → position ≤ length_in k → SameTransition (acknowledgement_transition (with_past p h) position) (acknowledgement_transition (with_past p k) position)
unfolding acknowledgement_transition
same_acknowledgement p h k position a above below =
    let q : Plain = record p { waiting_updates = later_updates position p.waiting_updates } in
    let os : List Out = answer_outs (map update_given (pending_updates position p.waiting_updates)) ++ to_neighbour (predecessor p) (λ to. send p to (bodies.Ack position) ∷ []) in
    same_outs q (acknowledged_in h position) (acknowledged_in k position) os os (alike_acknowledge h k position a above below) refl

lt_le : (m n : ℕ) → m < n → m ≤ n
lt_le m n h = omega (arith, h)

pub same_ack : (p : Plain) (h k : Past) (sender position : ℕ) → AreAlike h k → SameTransition (ack_transition (with_past p h) sender position) (ack_transition (with_past p k) sender position)
unfolding ack_transition
same_ack p h k sender position a =
    let last : Past → Transition = λ x. acknowledgement_transition (with_past p x) position in
    let fourth : Past → Transition = λ x. cond (nat_lt (length_in x) position) (transition_ignoring (with_past p x) TooFar) (last x) in
    let third : Past → Transition = λ x. cond (nat_le position x.acknowledged) (transition_ignoring (with_past p x) AlreadyHave) (fourth x) in
    let second : Past → Transition = λ x. cond (not p.ready) (transition_ignoring (with_past p x) NotReadyHere) (third x) in
    let stranger : Bool = not (is_id (successor p) sender) in
    branch SameTransition stranger stranger (transition_ignoring (with_past p h) NotNeighbour) (second h) (transition_ignoring (with_past p k) NotNeighbour) (second k) refl
    (λ t. same_ignoring p h k NotNeighbour a)
    (λ t. branch SameTransition (not p.ready) (not p.ready) (transition_ignoring (with_past p h) NotReadyHere) (third h) (transition_ignoring (with_past p k) NotReadyHere) (third k) refl
    (λ s. same_ignoring p h k NotReadyHere a)
    (λ s. branch SameTransition (nat_le position h.acknowledged) (nat_le position k.acknowledged) (transition_ignoring (with_past p h) AlreadyHave) (fourth h) (transition_ignoring (with_past p k) AlreadyHave) (fourth k)
    (ap (λ (n : ℕ). nat_le position n) (same_acknowledged h k a))
    (λ r. same_ignoring p h k AlreadyHave a)
    (λ r. branch SameTransition (nat_lt (length_in h) position) (nat_lt (length_in k) position) (transition_ignoring (with_past p h) TooFar) (last h) (transition_ignoring (with_past p k) TooFar) (last k)
    (ap (λ (n : ℕ). nat_lt n position) (same_length h k a))
    (λ v. same_ignoring p h k TooFar a)
    (λ v. same_acknowledgement p h k position a (lt_le k.acknowledged position (leb-false position k.acknowledged r)) (ltb-false (length_in k) position v)))))

-- ---- versions

pub same_query : (p : Plain) (h k : Past) (sender ticket : ℕ) (key : List ℕ) → AreAlike h k → SameTransition (query_transition (with_past p h) sender ticket key) (query_transition (with_past p k) sender ticket key)
unfolding query_transition
same_query p h k sender ticket key a =
    let said : State → List Out = λ s. send p sender (bodies.VersionIs ticket (object_of s.objects key).0) ∷ [] in
    let os : Past → List Out = λ x. said (newest (with_past p x)) in
    let second : Past → Transition = λ x. cond (not (is_tail p)) (transition_ignoring (with_past p x) NotReadyHere) (transition_with (with_past p x) (os x)) in
    let stranger : Bool = (sender == id_of p) || not (is_member p.members sender) in
    branch SameTransition stranger stranger (transition_ignoring (with_past p h) NotNeighbour) (second h) (transition_ignoring (with_past p k) NotNeighbour) (second k) refl
    (λ t. same_ignoring p h k NotNeighbour a)
    (λ t. branch SameTransition (not (is_tail p)) (not (is_tail p)) (transition_ignoring (with_past p h) NotReadyHere) (transition_with (with_past p h) (os h)) (transition_ignoring (with_past p k) NotReadyHere) (transition_with (with_past p k) (os k)) refl
    (λ s. same_ignoring p h k NotReadyHere a)
    (λ s. same_outs p h k (os h) (os k) a (ap said (newest_alike p h k a))))

-- the newest version within a bound
pub same_within : (h k : Past) (key : List ℕ) (bound : ℕ) → AreAlike h k → object_within_in h key bound ≡ object_within_in k key bound
same_within h k key bound a =
    ap (λ (s : State). newest_within bound (object_of s.objects key) (values_after (entries_in h h.acknowledged) key)) (same_clean h k a)
    ∙ ap (λ (es : List Entry). newest_within bound (object_of (clean_in k).objects key) (values_after es key)) (same_later h k a)

same_reported : (p : Plain) (h k : Past) (version : ℕ) (o : Option WaitingRead) → AreAlike h k → SameTransition (reported_version_transition (with_past p h) version o) (reported_version_transition (with_past p k) version o)
unfolding reported_version_transition
same_reported p h k version None a = same_ignoring p h k UnknownTicket a
same_reported p h k version (Some r) a =
    let q : Plain = record p { waiting_reads = reads_without r.ticket p.waiting_reads } in
    let bound : State → ℕ = λ s. max version (object_of s.objects r.key).0 in
    let said : ℕ × List ℕ → List Out = λ o. outs.Answer r.ticket (read_answer o) ∷ [] in
    let os : Past → List Out = λ x. said (object_within_in x r.key (bound (clean (with_past p x)))) in
    let e : os h ≡ os k =
    ap (λ (s : State). said (object_within_in h r.key (bound s))) (clean_alike p h k a) ∙ ap said (same_within h k r.key (bound (clean (with_past p k))) a)
    in
    branch SameTransition (nat_lt (newest_object (with_past p h) r.key).0 version) (nat_lt (newest_object (with_past p k) r.key).0 version) (transition_ignoring (with_past p h) TooFar) (transition_with (with_past q h) (os h))
    (transition_ignoring (with_past p k) TooFar) (transition_with (with_past q k) (os k))
    (ap (λ (s : State). nat_lt (object_of s.objects r.key).0 version) (newest_alike p h k a))
    (λ t. same_ignoring p h k TooFar a)
    (λ t. same_outs q h k (os h) (os k) a e)

pub same_version : (p : Plain) (h k : Past) (sender ticket version : ℕ) → AreAlike h k → SameTransition (version_transition (with_past p h) sender ticket version) (version_transition (with_past p k) sender ticket version)
unfolding version_transition
same_version p h k sender ticket version a =
    let found : Option WaitingRead = read_with ticket p.waiting_reads in
    let stranger : Bool = not (sender == last_of p.members) in
    branch SameTransition stranger stranger (transition_ignoring (with_past p h) NotNeighbour) (reported_version_transition (with_past p h) version found) (transition_ignoring (with_past p k) NotNeighbour) (reported_version_transition (with_past p k) version found) refl
    (λ t. same_ignoring p h k NotNeighbour a)
    (λ t. same_reported p h k version found a)
