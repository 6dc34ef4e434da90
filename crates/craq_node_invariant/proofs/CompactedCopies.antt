-- Nodes with alike pasts send a successor the same, and install a state in the same way.
use Rattle.std.proofs.Common.{◌≡◌, ◌==◌, ◌||◌, nat_le, nat_lt, max, not, ℕ, Bool, cond, List, [], ◌++◌, Some, is_some, refl, ap, ◌∙◌, arith}
use Rattle.std.specs.Prelude.{if◌then◌else◌}
use Rattle.craq_names.specs.Maps.{at_number}
use Rattle.craq_commands.specs.declared.state.State.{State}
use Rattle.craq_model.specs.declared.gathering.Gathering.{Gathering}
use Rattle.craq_model.specs.declared.message.Body.{Body}
use Rattle.craq_model.specs.declared.message.StatePart.{StatePart}
use Rattle.craq_model.specs.declared.step.Out.{Out}
use Rattle.craq_model.specs.declared.step.Why.TheVariants.{NotNeighbour, AlreadyHave, NotReadyHere, TooFar}
use Rattle.craq_model.specs.Members.{is_id}
use Rattle.craq_model.specs.Past.{Past, length_in, installed_in}
use Rattle.craq_model.specs.Parts.{gathered_position, gathering_for, is_in_order, with_part, is_whole, joined_state}
use Rattle.craq_model.specs.Plain.{Plain, successor, predecessor, clean}
use Rattle.craq_model.specs.Sends.{send_all, copy_bodies, catch_up}
use Rattle.craq_model.specs.Settle.{Transition, transition_with, transition_ignoring, readiness_transition}
use Rattle.craq_model.specs.Deliveries.{fill_bodies, blank_transition, copy_transition, gathered_transition, gathering_transition, part_transition}
use Rattle.craq_node_invariant.proofs.CompactedPasts.{AreAlike, same_acknowledged, same_length}
use Rattle.craq_node_invariant.proofs.CompactedTransitions.{with_past, SameTransition, branch, same_outs, same_ignoring, clean_alike, same_catch_up}

same_fill : (p : Plain) (h k : Past) (count : ℕ) → AreAlike h k → fill_bodies (with_past p h) count ≡ fill_bodies (with_past p k) count
unfolding fill_bodies
same_fill p h k count a =
    let e : h.acknowledged ≡ k.acknowledged = same_acknowledged h k a in
    let filled : ℕ → State → List Body → List Body = λ n s bs. (if nat_lt count n then copy_bodies n s else []) ++ bs in
    let caught : catch_up (with_past p h) (max count h.acknowledged) ≡ catch_up (with_past p k) (max count k.acknowledged) =
    ap (λ (n : ℕ). catch_up (with_past p h) (max count n)) e ∙ same_catch_up p h k (max count k.acknowledged) a (omega arith)
    in
    ap (λ (n : ℕ). filled n (clean (with_past p h)) (catch_up (with_past p h) (max count h.acknowledged))) e
    ∙ ap (λ (s : State). filled k.acknowledged s (catch_up (with_past p h) (max count h.acknowledged))) (clean_alike p h k a)
    ∙ ap (λ (bs : List Body). filled k.acknowledged (clean (with_past p k)) bs) caught

pub same_blank : (p : Plain) (h k : Past) (sender count : ℕ) → AreAlike h k → SameTransition (blank_transition (with_past p h) sender count) (blank_transition (with_past p k) sender count)
unfolding blank_transition
same_blank p h k sender count a =
    let os : Past → List Out = λ x. send_all p sender (fill_bodies (with_past p x) count) in
    let last : Past → Transition = λ x. transition_with (with_past p x) (os x) in
    let second : Past → Transition = λ x. cond (not p.ready) (transition_ignoring (with_past p x) NotReadyHere) (last x) in
    let stranger : Bool = not (is_id (successor p) sender) in
    branch SameTransition stranger stranger (transition_ignoring (with_past p h) NotNeighbour) (second h) (transition_ignoring (with_past p k) NotNeighbour) (second k) refl
    (λ t. same_ignoring p h k NotNeighbour a)
    (λ t. branch SameTransition (not p.ready) (not p.ready) (transition_ignoring (with_past p h) NotReadyHere) (last h) (transition_ignoring (with_past p k) NotReadyHere) (last k) refl
    (λ s. same_ignoring p h k NotReadyHere a)
    (λ s. same_outs p h k (os h) (os k) a (ap (λ (bs : List Body). send_all p sender bs) (same_fill p h k count a))))

-- a state replaces either past
pub same_copy : (p : Plain) (h k : Past) (sender position : ℕ) (state : State) → AreAlike h k → SameTransition (copy_transition (with_past p h) sender position state) (copy_transition (with_past p k) sender position state)
unfolding copy_transition
same_copy p h k sender position state a =
    let last : Transition = readiness_transition (with_past p (installed_in position state)) in
    let had : Past → Bool = λ x. p.ready || nat_le position (length_in x) in
    let second : Past → Transition = λ x. cond (had x) (transition_ignoring (with_past p x) AlreadyHave) last in
    let stranger : Bool = not (is_id (predecessor p) sender) in
    branch SameTransition stranger stranger (transition_ignoring (with_past p h) NotNeighbour) (second h) (transition_ignoring (with_past p k) NotNeighbour) (second k) refl
    (λ t. same_ignoring p h k NotNeighbour a)
    (λ t. branch SameTransition (had h) (had k) (transition_ignoring (with_past p h) AlreadyHave) last (transition_ignoring (with_past p k) AlreadyHave) last
    (ap (λ (n : ℕ). p.ready || nat_le position n) (same_length h k a))
    (λ s. same_ignoring p h k AlreadyHave a)
    (λ s. (refl, refl)))

same_gathered : (p : Plain) (h k : Past) (g : Gathering) → AreAlike h k → SameTransition (gathered_transition (with_past p h) g) (gathered_transition (with_past p k) g)
same_gathered p h k g a =
    let q : Plain = record p { gathering = Some g } in
    let taken : Transition = readiness_transition (with_past p (installed_in g.position (joined_state g.parts))) in
    branch SameTransition (is_whole g) (is_whole g) taken (transition_with (with_past q h) []) taken (transition_with (with_past q k) []) refl
    (λ t. (refl, refl))
    (λ t. same_outs q h k [] [] a refl)

same_gathering : (p : Plain) (h k : Past) (g : Gathering) (part : StatePart) → AreAlike h k → SameTransition (gathering_transition (with_past p h) g part) (gathering_transition (with_past p k) g part)
same_gathering p h k g part a =
    let last : Past → Transition = λ x. gathered_transition (with_past p x) (with_part g part) in
    let third : Past → Transition = λ x. cond (not (is_in_order g part)) (transition_ignoring (with_past p x) TooFar) (last x) in
    let held : Bool = is_some (at_number g.parts part.number) in
    let second : Past → Transition = λ x. cond held (transition_ignoring (with_past p x) AlreadyHave) (third x) in
    let other : Bool = not (part.count == g.count) in
    let unordered : Bool = not (is_in_order g part) in
    branch SameTransition other other (transition_ignoring (with_past p h) TooFar) (second h) (transition_ignoring (with_past p k) TooFar) (second k) refl
    (λ t. same_ignoring p h k TooFar a)
    (λ t. branch SameTransition held held (transition_ignoring (with_past p h) AlreadyHave) (third h) (transition_ignoring (with_past p k) AlreadyHave) (third k) refl
    (λ s. same_ignoring p h k AlreadyHave a)
    (λ s. branch SameTransition unordered unordered (transition_ignoring (with_past p h) TooFar) (last h) (transition_ignoring (with_past p k) TooFar) (last k) refl
    (λ r. same_ignoring p h k TooFar a)
    (λ r. same_gathered p h k (with_part g part) a)))

pub same_part : (p : Plain) (h k : Past) (sender : ℕ) (part : StatePart) → AreAlike h k → SameTransition (part_transition (with_past p h) sender part) (part_transition (with_past p k) sender part)
unfolding part_transition
same_part p h k sender part a =
    let last : Past → Transition = λ x. gathering_transition (with_past p x) (gathering_for part p.gathering) part in
    let outdated : ℕ → Bool = λ n. p.ready || (nat_le part.position n || nat_lt part.position (gathered_position p.gathering)) in
    let second : Past → Transition = λ x. cond (outdated (length_in x)) (transition_ignoring (with_past p x) AlreadyHave) (last x) in
    let stranger : Bool = not (is_id (predecessor p) sender) in
    branch SameTransition stranger stranger (transition_ignoring (with_past p h) NotNeighbour) (second h) (transition_ignoring (with_past p k) NotNeighbour) (second k) refl
    (λ t. same_ignoring p h k NotNeighbour a)
    (λ t. branch SameTransition (outdated (length_in h)) (outdated (length_in k)) (transition_ignoring (with_past p h) AlreadyHave) (last h) (transition_ignoring (with_past p k) AlreadyHave) (last k)
    (ap outdated (same_length h k a))
    (λ s. same_ignoring p h k AlreadyHave a)
    (λ s. same_gathering p h k (gathering_for part p.gathering) part a))
