-- A sound node adopts a membership that has an encoding.
use Rattle.std.proofs.Common.{◌≤◌, ℕ, nat_le, not, cond, List, None, arith}
use Rattle.std.proofs.lemmas.Bool.{cond_both}
use Rattle.craq_names.specs.Limits.{greatest_count}
use Rattle.craq_names.proofs.Lists.{all_like}
use Rattle.craq_model.specs.declared.step.Why.TheVariants.{OtherEpoch, NotNeighbour}
use Rattle.craq_model.specs.Deliveries.{config_transition}
use Rattle.craq_model.specs.Members.{IsMembership, is_member}
use Rattle.craq_model.specs.Plain.{Plain, id_of}
use Rattle.craq_model.specs.Settle.{Transition, transition_ignoring, settling_transition}
use Rattle.craq_node_invariant.specs.Sound.{IsSound}
use Rattle.craq_node_invariant.proofs.Settling.{IsSoundTransition, ignoring, settling_is}

adopted_is : (p : Plain) (epoch : ℕ) (members : List ℕ) → IsSound p → 1 ≤ epoch → IsMembership members → IsSound (record p { epoch = epoch; members = members; floor = None; gathering = None })
adopted_is p epoch members s h m = grind (arith, all_like (λ (id : ℕ). (1 ≤ id) × (id ≤ greatest_count)) (λ (id : ℕ). 1 ≤ id) members (λ id a. a.0) m.ids)

pub config_is : (p : Plain) (epoch : ℕ) (members : List ℕ) → IsSound p → 1 ≤ epoch → IsMembership members → IsSoundTransition (config_transition p epoch members)
unfolding config_transition
config_is p epoch members s h m =
    let q : Plain = record p { epoch = epoch; members = members; floor = None; gathering = None } in
    cond_both (nat_le epoch p.epoch) (transition_ignoring p OtherEpoch) (cond (not (is_member members (id_of p))) (transition_ignoring p NotNeighbour) (settling_transition q)) (λ (t : Transition). IsSoundTransition t)
    (λ a. ignoring p OtherEpoch s)
    (λ a. cond_both (not (is_member members (id_of p))) (transition_ignoring p NotNeighbour) (settling_transition q) (λ (t : Transition). IsSoundTransition t)
    (λ b. ignoring p NotNeighbour s)
    (λ b. settling_is q (adopted_is p epoch members s h m)))
