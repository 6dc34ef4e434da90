-- The master's messages have an encoding.
use Rattle.std.proofs.Common.{◌≡◌, ◌≤◌, ℕ, List, [], ◌∷◌, map, length, refl, arith, ◌==◌, if◌then◌else◌, Ok, Err, Bool, true, false, ◌+◌, ◌++◌, subst}
use Rattle.std.specs.Prelude.{nat_le}
use Rattle.std.specs.List.{AllByRecursion}
use Rattle.craq_names.specs.Limits.{greatest_count}
use Rattle.craq_model.specs.Members.{IsMembership}
use Rattle.craq_names.specs.declared.refusal.Refusal.{Refusal}
use Rattle.craq_names.specs.declared.refusal.Refusal.TheVariants.{LastNode, Exhausted, ChainFull}
use Rattle.craq_names.specs.Limits.{greatest, member_limit}
use Rattle.craq_model.specs.declared.step.Step.{Step}
use Rattle.craq_model.specs.Members.{without}
use Rattle.craq_epochs.proofs.Memberships.{mastered_after_removal}
use Rattle.craq_epochs.specs.Mastered.{Mastered, IsMastered}
use Rattle.craq_node_invariant.specs.Sound.{AreEncodable}
use Rattle.craq_chain.specs.Parts.{membership_message, membership_step, removal_step, join_step}

reported_all : (chain epoch : ℕ) (members ids : List ℕ) → 1 ≤ epoch → IsMembership members → AllByRecursion (λ id. (1 ≤ id) × (id ≤ greatest_count)) ids → AreEncodable (map (membership_message chain epoch members) ids)
reported_all chain epoch members [] one h k = tt
reported_all chain epoch members (id ∷ ids) one h k =
    ((record { sender = refl; receiver = k.0.0; stamp = omega arith; epoch = one; body = h }, refl), reported_all chain epoch members ids one h k.1)

pub telling_encodable : (m : Mastered) → IsMastered m → AreEncodable (membership_step m.chain m.epoch m.members).outs
telling_encodable m h = reported_all m.chain m.epoch m.members m.members h.from_one h.membership h.membership.ids

-- a test that was passed
second_of : (a b : Bool) (x y : Refusal) (t step : Step) → (if a then Err x else if b then Err y else Ok t) ≡ Ok step → (a ≡ false) × (t ≡ step)
second_of true b x y t step h = cc
second_of false true x y t step h = cc
second_of false false x y t step h = (refl, cc)

two_left : (members : List ℕ) → 1 ≤ length members → (length members == 1) ≡ false → 2 ≤ length members
two_left members some h = grind arith

pub removal_encodable : (m : Mastered) (id : ℕ) (step : Step) → IsMastered m → removal_step m id ≡ Ok step → AreEncodable step.outs
unfolding removal_step
removal_encodable m id step h s =
    let t = second_of (length m.members == 1) (m.epoch == greatest) LastNode Exhausted (membership_step m.chain (m.epoch + 1) (without m.members id)) step s in
    let n = mastered_after_removal m.chain m.epoch id m.members m.used h (two_left m.members h.membership.some t.0) in
    subst (λ (x : Step). AreEncodable x.outs) t.1 (telling_encodable (record m { epoch = m.epoch + 1; members = without m.members id }) n)

pub join_encodable : (m n : Mastered) (id : ℕ) (step : Step) → IsMastered n → join_step m id ≡ Ok step → n ≡ record m { epoch = m.epoch + 1; members = m.members ++ id ∷ []; used = m.used ++ id ∷ [] } → AreEncodable step.outs
unfolding join_step
join_encodable m n id step h s made =
    let t = second_of (nat_le member_limit (length m.members)) (m.epoch == greatest) ChainFull Exhausted (membership_step m.chain (m.epoch + 1) (m.members ++ id ∷ [])) step s in
    subst (λ (x : Step). AreEncodable x.outs) t.1 (telling_encodable (record m { epoch = m.epoch + 1; members = m.members ++ id ∷ []; used = m.used ++ id ∷ [] }) (subst IsMastered made h))
