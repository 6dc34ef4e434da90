-- A sound node sends its successor a state and entries, or receives them itself.
use Rattle.std.proofs.Common.{◌≤◌, ℕ, nat_le, nat_lt, max, not, Bool, ◌==◌, ◌||◌, cond, List, [], Option, Some, None, is_some, arith}
use Rattle.std.proofs.lemmas.Bool.{cond_both, ltb-true, not-false}
use Rattle.std.specs.List.{AllByRecursion}
use Rattle.craq_commands.specs.declared.state.State.{State}
use Rattle.craq_model.specs.declared.message.Body.{Body}
use Rattle.craq_model.specs.declared.step.Why.TheVariants.{NotNeighbour, NotReadyHere, AlreadyHave, TooFar}
use Rattle.craq_model.specs.declared.gathering.Gathering.{Gathering}
use Rattle.craq_model.specs.declared.message.StatePart.{StatePart}
use Rattle.craq_names.specs.Maps.{at_number}
use Rattle.craq_names.proofs.Lists.{all_append}
use Rattle.craq_model.specs.Parts.{new_gathering, gathering_for, is_in_order, with_part, is_whole, joined_state}
use Rattle.craq_model.specs.Deliveries.{fill_bodies, blank_transition, with_copy, copy_transition, gathered_transition, gathering_transition, is_outdated, part_transition, floor_transition}
use Rattle.craq_model.specs.Members.{is_id}
use Rattle.craq_model.specs.Plain.{Plain, successor, predecessor, length_of, clean}
use Rattle.craq_model.specs.Sends.{send_all, copy_bodies, catch_up}
use Rattle.craq_model.specs.Settle.{Transition, transition_with, transition_ignoring, readiness_transition}
use Rattle.craq_node_invariant.specs.Sound.{IsSoundState, IsSoundGathering, IsSoundIfAny, IsSound}
use Rattle.craq_node_invariant.proofs.Gathered.{gathered_is}
use Rattle.craq_node_invariant.proofs.Sends.{IsSayable, Speaks, all_sent, copy_sayable, catch_up_sayable}
use Rattle.craq_node_invariant.proofs.Settling.{IsSoundTransition, ignoring, readiness_is}
use Rattle.craq_node_invariant.proofs.States.{clean_is}

fill_sayable : (p : Plain) (count : ℕ) → IsSound p → AllByRecursion IsSayable (fill_bodies p count)
unfolding fill_bodies
fill_sayable p count s =
    let copies : List Body = copy_bodies p.past.acknowledged (clean p) in
    all_append IsSayable (cond (nat_lt count p.past.acknowledged) copies []) (catch_up p (max count p.past.acknowledged))
    (cond_both (nat_lt count p.past.acknowledged) copies [] (λ (bs : List Body). AllByRecursion IsSayable bs)
    (λ e. let below : _ = ltb-true count p.past.acknowledged e in copy_sayable p.past.acknowledged (clean p) (omega (arith, below)) (clean_is p s))
    (λ e. tt))
    (catch_up_sayable p (max count p.past.acknowledged) s)

pub blank_is : (p : Plain) (sender count : ℕ) → IsSound p → Speaks p → 1 ≤ sender → IsSoundTransition (blank_transition p sender count)
unfolding blank_transition
blank_is p sender count s w from =
    let last : Transition = transition_with p (send_all p sender (fill_bodies p count)) in
    cond_both (not (is_id (successor p) sender)) (transition_ignoring p NotNeighbour) (cond (not p.ready) (transition_ignoring p NotReadyHere) last) (λ (t : Transition). IsSoundTransition t)
    (λ a. ignoring p NotNeighbour s)
    (λ a. cond_both (not p.ready) (transition_ignoring p NotReadyHere) last (λ (t : Transition). IsSoundTransition t)
    (λ b. ignoring p NotReadyHere s)
    (λ b. (s, all_sent p sender (fill_bodies p count) w from (fill_sayable p count s))))

with_copy_is : (p : Plain) (position : ℕ) (state : State) → IsSound p → IsSoundState state → IsSound (with_copy p position state)
with_copy_is p position state s h = grind arith

pub copy_is : (p : Plain) (sender position : ℕ) (state : State) → IsSound p → Speaks p → IsSoundState state → IsSoundTransition (copy_transition p sender position state)
unfolding copy_transition
copy_is p sender position state s w h =
    let last : Transition = readiness_transition (with_copy p position state) in
    let had : Bool = p.ready || nat_le position (length_of p) in
    cond_both (not (is_id (predecessor p) sender)) (transition_ignoring p NotNeighbour) (cond had (transition_ignoring p AlreadyHave) last) (λ (t : Transition). IsSoundTransition t)
    (λ a. ignoring p NotNeighbour s)
    (λ a. cond_both had (transition_ignoring p AlreadyHave) last (λ (t : Transition). IsSoundTransition t)
    (λ b. ignoring p AlreadyHave s)
    (λ b. readiness_is (with_copy p position state) (with_copy_is p position state s h) w.1))

pub floor_is : (p : Plain) (sender count : ℕ) → IsSound p → Speaks p → IsSoundTransition (floor_transition p sender count)
unfolding floor_transition
floor_is p sender count s w =
    let last : Transition = readiness_transition (record p { floor = Some count }) in
    cond_both (not (is_id (predecessor p) sender)) (transition_ignoring p NotNeighbour) (cond p.ready (transition_ignoring p AlreadyHave) last) (λ (t : Transition). IsSoundTransition t)
    (λ a. ignoring p NotNeighbour s)
    (λ a. cond_both p.ready (transition_ignoring p AlreadyHave) last (λ (t : Transition). IsSoundTransition t)
    (λ b. ignoring p AlreadyHave s)
    (λ b. readiness_is (record p { floor = Some count }) (assumption) w.1))

-- ---- parts

new_is : (part : StatePart) → IsSoundGathering (new_gathering part)
unfolding joined_state
new_is part = record { numbers_rise = tt; state = record { versions = tt; windows = tt; keys_rise = tt; clients_rise = tt } }

for_is : (part : StatePart) (o : Option Gathering) → IsSoundIfAny o → IsSoundGathering (gathering_for part o)
for_is part None h = new_is part
for_is part (Some g) h = cond_both (nat_lt g.position part.position) (new_gathering part) g (λ (g : Gathering). IsSoundGathering g) (λ e. new_is part) (λ e. h)

gathered_transition_is : (p : Plain) (g : Gathering) → IsSound p → Speaks p → IsSoundGathering g → IsSoundTransition (gathered_transition p g)
gathered_transition_is p g s w h =
    cond_both (is_whole g) (readiness_transition (with_copy p g.position (joined_state g.parts))) (transition_with (record p { gathering = Some g }) []) (λ (t : Transition). IsSoundTransition t)
    (λ e. readiness_is (with_copy p g.position (joined_state g.parts)) (with_copy_is p g.position (joined_state g.parts) s h.state) w.1)
    (λ e. (assumption, tt))

gathering_is : (p : Plain) (g : Gathering) (part : StatePart) → IsSound p → Speaks p → IsSoundGathering g → IsSoundState part.state → IsSoundTransition (gathering_transition p g part)
gathering_is p g part s w h i =
    let last : Transition = gathered_transition p (with_part g part) in
    let third : Transition = cond (not (is_in_order g part)) (transition_ignoring p TooFar) last in
    let second : Transition = cond (is_some (at_number g.parts part.number)) (transition_ignoring p AlreadyHave) third in
    cond_both (not (part.count == g.count)) (transition_ignoring p TooFar) second (λ (t : Transition). IsSoundTransition t) (λ a. ignoring p TooFar s)
    (λ a. cond_both (is_some (at_number g.parts part.number)) (transition_ignoring p AlreadyHave) third (λ (t : Transition). IsSoundTransition t) (λ b. ignoring p AlreadyHave s)
    (λ b. cond_both (not (is_in_order g part)) (transition_ignoring p TooFar) last (λ (t : Transition). IsSoundTransition t) (λ d. ignoring p TooFar s)
    (λ d. gathered_transition_is p (with_part g part) s w (gathered_is g part h i b (not-false (is_in_order g part) d)))))

pub part_is : (p : Plain) (sender : ℕ) (part : StatePart) → IsSound p → Speaks p → IsSoundState part.state → IsSoundTransition (part_transition p sender part)
unfolding part_transition
part_is p sender part s w i =
    let last : Transition = gathering_transition p (gathering_for part p.gathering) part in
    let had : Bool = p.ready || is_outdated p part in
    cond_both (not (is_id (predecessor p) sender)) (transition_ignoring p NotNeighbour) (cond had (transition_ignoring p AlreadyHave) last) (λ (t : Transition). IsSoundTransition t)
    (λ a. ignoring p NotNeighbour s)
    (λ a. cond_both had (transition_ignoring p AlreadyHave) last (λ (t : Transition). IsSoundTransition t)
    (λ b. ignoring p AlreadyHave s)
    (λ b. gathering_is p (gathering_for part p.gathering) part s w (for_is part p.gathering s.gathering) i))
