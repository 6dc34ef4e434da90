-- The messages of a master announce its membership and have an encoding.
use Rattle.std.proofs.Common.{◌≡◌, ◌≤◌, ◌+◌, ◌++◌, ◌==◌, ◌||◌, not, ◌&&◌, List, [], ◌∷◌, ℕ, suc, Bool, true, false, if◌then◌else◌, map, length, Result, Ok, Err, refl, sym, ap, subst, arith, inl, inr, ◌∙◌}
use Rattle.std.specs.Prelude.{⊤, nat_le, IsOk}
use Rattle.craq_names.specs.Limits.{greatest, member_limit}
use Rattle.craq_names.specs.Order.{Refuses}
use Rattle.craq_names.specs.declared.name.NodeName.{NodeName}
use Rattle.craq_names.specs.declared.refusal.Refusal.{Refusal}
use Rattle.craq_names.specs.declared.refusal.Refusal.TheVariants.{ChainFull, Exhausted, LastNode}
use Rattle.craq_model.specs.declared.step.Step.{Step}
use Rattle.craq_model.specs.Members.{is_member, without}
use Rattle.craq_epochs.specs.Mastered.{Mastered, IsMastered, master_after_join, removed}
use Rattle.craq_chain.specs.Parts.{join_step, removal_step, membership_message, membership_step}
use Rattle.craq_chain.proofs.Commands.{join_made, removal_made}
use Rattle.craq_chain.proofs.Reported.{telling_encodable}
use Rattle.craq_runs.specs.Chain.{sent_in}
use Rattle.craq_seat.specs.declared.journal.BookEvent.{BookEvent}
use Rattle.craq_seat.specs.declared.journal.BookEvent.TheVariants.{Join, Remove, Tick}
use Rattle.craq_seat.specs.Books.{Transitions, book_step, tells}
use Rattle.craq_seat.specs.Numbered.{AreFrom, CanBeSent}

-- the membership that a step leads to is the one that it announces
abbrev IsReported : Result (Mastered × Step) Refusal → Type 0
IsReported (Ok t) = t.1 ≡ membership_step t.0.chain t.0.epoch t.0.members
IsReported (Err e) = ⊤

reported_by : (r : Result Mastered Refusal) → IsReported (tells r)
reported_by (Ok m) = refl
reported_by (Err e) = tt

book_reported : (m : Mastered) (event : BookEvent) → IsReported (book_step m event)
book_reported m (Join id) = reported_by (master_after_join m id)
book_reported m (Remove stopped stop) = reported_by (removed m stopped)
book_reported m Tick = refl

-- ---- each message has an encoding

from_master : (chain epoch : ℕ) (members ids : List ℕ) → AreFrom 0 (map (membership_message chain epoch members) ids)
from_master chain epoch members [] = tt
from_master chain epoch members (id ∷ ids) = (refl, refl, from_master chain epoch members ids)

reported_counted : (chain epoch : ℕ) (members ids : List ℕ) → length (sent_in (map (membership_message chain epoch members) ids)) ≡ length ids
unfolding sent_in
reported_counted chain epoch members [] = refl
reported_counted chain epoch members (id ∷ ids) = ap suc (reported_counted chain epoch members ids)

pub book_can_send : (m n : Mastered) (event : BookEvent) (step : Step) (stamp : ℕ) → book_step m event ≡ Ok (n, step) → IsMastered n → 1 ≤ stamp → CanBeSent (record { node = 0; stamp = stamp }) step.outs
book_can_send m n event step stamp h k one =
    let is : step ≡ membership_step n.chain n.epoch n.members = subst IsReported h (book_reported m event) in
    let counted = reported_counted n.chain n.epoch n.members n.members in
    let limit : length n.members ≤ member_limit = k.membership.few in
    subst (λ (x : Step). CanBeSent (record { node = 0; stamp = stamp }) x.outs) (sym is)
    (record {
      stamp = one;
      senders = from_master n.chain n.epoch n.members n.members;
      spelled = telling_encodable n k;
      few = omega (arith, counted, limit);
    })

-- ---- the step computed before the master changes is its step, or its refusal

no_err : (A : Type 0) (x : Refusal) → IsOk {T = A} (Err x) → ⊥
no_err A x h = cc

two_refusals : (a b : Bool) (x y e : Refusal) (t : Step) (n : Mastered) → Refuses e (if a then Err x else if b then Err y else Ok t) → Refuses e (tells (if a then Err x else if b then Err y else Ok n))
two_refusals true b x y e t n (inl memory) = absurd (no_err Step x memory.1)
two_refusals true b x y e t n (inr h) = inr (let same : x ≡ e = cc in ap Err same)
two_refusals false true x y e t n (inl memory) = absurd (no_err Step y memory.1)
two_refusals false true x y e t n (inr h) = inr (let same : y ≡ e = cc in ap Err same)
two_refusals false false x y e t n (inl memory) = inl (memory.0, refl)
two_refusals false false x y e t n (inr h) = cc

pub join_refused : (m : Mastered) (id : ℕ) (e : Refusal) → ((id == 0) || is_member m.used id) ≡ false → Refuses e (join_step m id) → Refuses e (tells (master_after_join m id))
unfolding master_after_join join_step
join_refused m id e new h =
    rw new (two_refusals (nat_le member_limit (length m.members)) (m.epoch == greatest) ChainFull Exhausted e (membership_step m.chain (m.epoch + 1) (m.members ++ id ∷ [])) (record m { epoch = m.epoch + 1; members = m.members ++ id ∷ []; used = m.used ++ id ∷ [] }) h)

pub removal_refused : (m : Mastered) (stopped : NodeName) (e : Refusal) → not ((stopped.chain == m.chain) && is_member m.members stopped.node) ≡ false → Refuses e (removal_step m stopped.node) → Refuses e (tells (removed m stopped))
unfolding removed removal_step
removal_refused m stopped e member h =
    rw member (two_refusals (length m.members == 1) (m.epoch == greatest) LastNode Exhausted e (membership_step m.chain (m.epoch + 1) (without m.members stopped.node)) (record m { epoch = m.epoch + 1; members = without m.members stopped.node }) h)

step_of : (a b : Bool) (x y : Refusal) (t step : Step) → (if a then Err x else if b then Err y else Ok t) ≡ Ok step → step ≡ t
step_of true b x y t step h = cc
step_of false true x y t step h = cc
step_of false false x y t step h = cc

pub join_reported : (m n : Mastered) (id : ℕ) (step : Step) → join_step m id ≡ Ok step → master_after_join m id ≡ Ok n → tells (master_after_join m id) ≡ Ok (n, step)
unfolding join_step
join_reported m n id step s h =
    let is = step_of (nat_le member_limit (length m.members)) (m.epoch == greatest) ChainFull Exhausted (membership_step m.chain (m.epoch + 1) (m.members ++ id ∷ [])) step s in
    rw (h, is, join_made m n id h) refl

pub removal_reported : (m n : Mastered) (stopped : NodeName) (step : Step) → removal_step m stopped.node ≡ Ok step → removed m stopped ≡ Ok n → tells (removed m stopped) ≡ Ok (n, step)
unfolding removal_step
removal_reported m n stopped step s h =
    let is = step_of (length m.members == 1) (m.epoch == greatest) LastNode Exhausted (membership_step m.chain (m.epoch + 1) (without m.members stopped.node)) step s in
    rw (h, is, removal_made m n stopped h) refl

-- a refusal is passed on, and the master is unchanged
pub turned : (old new : Mastered) (r : Result Step Refusal) (e : Refusal) (wanted : Result (Mastered × Step) Refusal) → (x : Refusal) × (r ≡ Err x) × (x ≡ e) → new ≡ old → Refuses e wanted → Transitions old new r wanted
turned old new r e wanted p same h = subst (λ s. Transitions old new s wanted) (sym (p.1 ∙ ap Err p.2)) (h, same)
