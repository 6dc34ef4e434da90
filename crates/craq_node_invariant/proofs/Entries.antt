-- A sound node takes entries that have an encoding.
use Rattle.std.proofs.Common.{◌≡◌, ℕ, ◌+◌, nat_le, nat_lt, true, not, cond, List, [], ◌∷◌, length, subst, arith, length-append}
use Rattle.std.proofs.lemmas.Bool.{cond_both, ltb-false}
use Rattle.std.specs.List.{AllByRecursion}
use Rattle.craq_names.proofs.Lists.{all_append, all_filter}
use Rattle.craq_commands.specs.declared.entry.Entry.{Entry}
use Rattle.craq_model.specs.declared.message.Body.TheVariants as bodies
use Rattle.craq_model.specs.declared.step.Why.TheVariants.{NotNeighbour, AlreadyHave, OutOfOrder, TooFar}
use Rattle.craq_model.specs.Deliveries.{are_applicable, forwarding_transition, taken_entries_transition, appending_transition, first_position, final_position, entries_above, entries_transition}
use Rattle.craq_model.specs.Members.{is_id}
use Rattle.craq_model.specs.Plain.{Plain, id_of, successor, predecessor, is_tail, length_of, newest, with_entries, acknowledging}
use Rattle.craq_model.specs.Sends.{send, send_all, to_neighbour, entry_bodies}
use Rattle.craq_model.specs.Settle.{Transition, transition_with, transition_ignoring, readiness_transition}
use Rattle.craq_model.specs.Encodable.{IsEncodableEntry, IsConsecutive}
use Rattle.craq_node_invariant.specs.Sound.{AreInRow, IsSound}
use Rattle.craq_node_invariant.proofs.Applicable.{applicable_append}
use Rattle.craq_node_invariant.proofs.Neighbours.{successor_is}
use Rattle.craq_node_invariant.proofs.Rows.{row_append, above_in_row}
use Rattle.craq_node_invariant.proofs.Sends.{AreEncodableIfFitting, Speaks, all_sent, entries_sayable, neighbour_sent, ack_sent}
use Rattle.craq_node_invariant.proofs.Settling.{IsSoundTransition, ignoring, committed_is, readiness_is}

abbrev pub AreEncodableEntries : List Entry → Type 0
AreEncodableEntries es = AllByRecursion IsEncodableEntry es

next_place : (base count : ℕ) → base + count + 1 ≡ base + 1 + count
next_place base count = omega arith

-- the node with entries appended that follow its own
pub with_entries_is : (p : Plain) (es : List Entry) → IsSound p → AreEncodableEntries es → AreInRow (length_of p + 1) es → are_applicable (newest p) es ≡ true → IsSound (with_entries p es)
unfolding newest
with_entries_is p es s h r f = grind (
  arith,
  length-append p.past.entries es,
  all_append IsEncodableEntry p.past.entries es s.entries h,
  row_append (p.past.base + 1) p.past.entries es s.placed (subst (λ (n : ℕ). AreInRow n es) (next_place p.past.base (length p.past.entries)) r),
  applicable_append p.past.base_state p.past.entries es s.applicable f,
)

-- consecutive entries are sent to the successor
pub entries_sent : (p : Plain) (es : List Entry) (n : ℕ) → IsSound p → Speaks p → AreEncodableEntries es → AreInRow n es → AreEncodableIfFitting (to_neighbour (successor p) (λ to. send_all p to (entry_bodies es)))
entries_sent p es n s w h r =
    neighbour_sent (successor p) (λ to. send_all p to (entry_bodies es)) (successor_is p.members (id_of p) s.ids)
    (λ to t. all_sent p to (entry_bodies es) w t (entries_sayable n es h r))

forwarding_is : (p : Plain) (es : List Entry) (n : ℕ) → IsSound p → Speaks p → AreEncodableEntries es → AreInRow n es → IsSoundTransition (forwarding_transition p es)
unfolding forwarding_transition
forwarding_is p es n s w h r =
    cond_both (is_tail p) (transition_with (acknowledging p (length_of p)) (to_neighbour (predecessor p) (λ to. send p to (bodies.Ack (length_of p)) ∷ [])))
    (transition_with p (to_neighbour (successor p) (λ to. send_all p to (entry_bodies es)))) (λ (t : Transition). IsSoundTransition t)
    (λ t. (committed_is p s, ack_sent p (length_of p) s w))
    (λ t. (s, entries_sent p es n s w h r))

taken_is : (p : Plain) (es : List Entry) (n : ℕ) → IsSound p → Speaks p → AreEncodableEntries es → AreInRow n es → IsSoundTransition (taken_entries_transition p es)
taken_is p es n s w h r = cond_both p.ready (forwarding_transition p es) (readiness_transition p) (λ (t : Transition). IsSoundTransition t) (λ e. forwarding_is p es n s w h r) (λ e. readiness_is p s w.1)

appending_is : (p : Plain) (es : List Entry) → IsSound p → Speaks p → AreEncodableEntries es → AreInRow (length_of p + 1) es → IsSoundTransition (appending_transition p es)
appending_is p es s w h r =
    cond_both (are_applicable (newest p) es) (taken_entries_transition (with_entries p es) es) (transition_ignoring p TooFar) (λ (t : Transition). IsSoundTransition t)
    (λ g. taken_is (with_entries p es) es (length_of p + 1) (with_entries_is p es s h r g) w h r)
    (λ g. ignoring p TooFar s)

pub entries_are : (p : Plain) (sender : ℕ) (es : List Entry) → IsSound p → Speaks p → AreEncodableEntries es → IsConsecutive es → IsSoundTransition (entries_transition p sender es)
unfolding entries_transition entries_above
entries_are p sender es s w h c =
    let last : Transition = appending_transition p (entries_above (length_of p) es) in
    let second : Transition = cond (nat_lt (length_of p + 1) (first_position es)) (transition_ignoring p OutOfOrder) last in
    let first : Transition = cond (nat_le (final_position es) (length_of p)) (transition_ignoring p AlreadyHave) second in
    cond_both (not (is_id (predecessor p) sender)) (transition_ignoring p NotNeighbour) first (λ (t : Transition). IsSoundTransition t) (λ a. ignoring p NotNeighbour s)
    (λ a. cond_both (nat_le (final_position es) (length_of p)) (transition_ignoring p AlreadyHave) second (λ (t : Transition). IsSoundTransition t) (λ b. ignoring p AlreadyHave s)
    (λ b. cond_both (nat_lt (length_of p + 1) (first_position es)) (transition_ignoring p OutOfOrder) last (λ (t : Transition). IsSoundTransition t) (λ d. ignoring p OutOfOrder s)
    (λ d. appending_is p (entries_above (length_of p) es) s w (all_filter IsEncodableEntry (λ (e : Entry). nat_lt (length_of p) e.position) es h)
    (above_in_row (length_of p) es c (ltb-false (length_of p + 1) (first_position es) d)))))
