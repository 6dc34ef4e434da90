-- Nodes with the same history.
use Rattle.std.proofs.Common.{◌≡◌, ◌⊎◌, inl, inr, ℕ, ◌+◌, ◌-◌, ◌==◌, nat_le, true, false, not, cond, ◌||◌, List, [], ◌∷◌, ◌++◌, take, Option, Some, None, Result, Ok, Err, refl, subst, ◌∙◌, arith}
use Rattle.std.proofs.lemmas.Bool.{cond_both, not-false}
use Rattle.craq_names.specs.Limits.{greatest}
use Rattle.craq_names.specs.declared.refusal.Refusal.{Refusal}
use Rattle.craq_names.specs.declared.refusal.Refusal.TheVariants as refusals
use Rattle.craq_commands.specs.declared.command.Update.{Update}
use Rattle.craq_commands.specs.declared.entry.Entry.{Entry}
use Rattle.craq_commands.specs.declared.reply.Reply.{Reply}
use Rattle.craq_commands.specs.SingleCopy.{said, after_entries}
use Rattle.craq_commands.specs.Evaluation.{objects_named, all_of_chain, some_used_up}
use Rattle.craq_model.specs.declared.ask.Ask.TheVariants as asks
use Rattle.craq_model.specs.declared.ask.Answer.TheVariants as answers
use Rattle.craq_model.specs.declared.step.Out.{Out}
use Rattle.craq_model.specs.declared.waiting.WaitingRead.{WaitingRead}
use Rattle.craq_model.specs.Members.{first_of}
use Rattle.craq_model.specs.Plain.{Plain, successor, is_first, is_last, length_of, newest, clean, object_within, position_of, entries_after, acknowledging}
use Rattle.craq_model.specs.Sends.{send_all, to_neighbour, entry_bodies}
use Rattle.craq_model.specs.Settle.{Transition}
use Rattle.craq_model.specs.Asks.{accepted_transition, answered_transition, is_full, with_entry, committed_if_last, reply_transition, new_update_transition, update_transition, accepted_ask_transition, ask_transition}
use Rattle.craq_model.specs.Deliveries.{query_transition, read_with, reported_version_transition, version_transition}
use Rattle.craq_refinement.proofs.Updates.{refused}
use Rattle.craq_updates.proofs.EachMove.{entry_for}

pub record SameHistory (p q : Plain) : Type 0 where
  pub base : q.past.base ≡ p.past.base
  pub state : q.past.base_state ≡ p.past.base_state
  pub entries : q.past.entries ≡ p.past.entries
  pub acknowledged : q.past.acknowledged ≡ p.past.acknowledged
  pub ready : q.ready ≡ p.ready

pub same_self : (p : Plain) → SameHistory p p
same_self p = record { base = refl; state = refl; entries = refl; acknowledged = refl; ready = refl }

pub same_newest : (p q : Plain) → SameHistory p q → newest q ≡ newest p
unfolding newest
same_newest p q s = λ i. after_entries (s.state i) (s.entries i)

pub same_clean : (p q : Plain) → SameHistory p q → clean q ≡ clean p
unfolding clean
same_clean p q s = λ i. after_entries (s.state i) (take (s.acknowledged i - s.base i) (s.entries i))

pub same_within : (p q : Plain) (key : List ℕ) (bound : ℕ) → SameHistory p q → object_within q key bound ≡ object_within p key bound
unfolding entries_after clean newest
same_within p q key bound s =
    λ i. object_within (record p { past = record { base = s.base i; base_state = s.state i; entries = s.entries i; acknowledged = s.acknowledged i } }) key bound

reported_same : (p : Plain) (version : ℕ) (o : Option WaitingRead) → SameHistory p (reported_version_transition p version o).0
unfolding reported_version_transition
reported_same p version None = same_self p
reported_same p version (Some r) = grind (arith, same_self p)

pub version_same : (p : Plain) (sender ticket version : ℕ) → SameHistory p (version_transition p sender ticket version).0
unfolding version_transition
version_same p sender ticket version = grind (arith, same_self p, reported_same p version (read_with ticket p.waiting_reads))

pub query_same : (p : Plain) (sender ticket : ℕ) (key : List ℕ) → SameHistory p (query_transition p sender ticket key).0
unfolding query_transition
query_same p sender ticket key = grind (arith, same_self p)

-- ---- requests

-- an update makes an entry if it is new, and otherwise keeps the history
pub record UpdateTransition (p : Plain) (u : Update) (q : Plain) : Type 0 where
  pub base : q.past.base ≡ p.past.base
  pub state : q.past.base_state ≡ p.past.base_state
  pub ready : p.ready ≡ true
  pub still : q.ready ≡ true
  pub entries : ((reply : Reply) × (said (newest p) u.client u.number ≡ Some reply) × (q.past.entries ≡ p.past.entries))
      ⊎ ((said (newest p) u.client u.number ≡ None) × (q.past.entries ≡ p.past.entries ++ entry_for p u ∷ []))

-- the fields of a node that a reply keeps
abbrev Leaves : Plain → Result Transition Refusal → Type 0
Leaves p (Ok t) = (t.0.past.base ≡ p.past.base) × (t.0.past.base_state ≡ p.past.base_state) × (t.0.past.entries ≡ p.past.entries) × (t.0.ready ≡ p.ready)
Leaves p (Err e) = Unit {0}

reply_leaves : (p : Plain) (position : ℕ) (reply : Reply) (sends : List Out) → Leaves p (reply_transition p position reply sends)
unfolding reply_transition
reply_leaves p position reply sends =
    let now : Transition = answered_transition p (answers.Update reply) sends in
    let q : Plain = record p { waiting_updates = p.waiting_updates ++ (record { ticket = p.last_ticket + 1; position = position; reply = reply }) ∷ [] } in
    let rest : Result Transition Refusal = cond (is_full p) (Err refusals.PendingFull) (Ok (accepted_transition q sends)) in
    cond_both (nat_le position p.past.acknowledged) (Ok now) rest (λ (r : Result Transition Refusal). Leaves p r)
    (λ e. (refl, refl, refl, refl))
    (λ e. cond_both (is_full p) (Err refusals.PendingFull) (Ok (accepted_transition q sends)) (λ (r : Result Transition Refusal). Leaves p r) (λ f. tt) (λ f. (refl, refl, refl, refl)))

leaves_after : (p : Plain) (position : ℕ) (reply : Reply) (sends : List Out) → Leaves p (reply_transition (committed_if_last p) position reply sends)
leaves_after p position reply sends =
    cond_both (is_last p) (acknowledging p (length_of p)) p (λ (q : Plain). Leaves p (reply_transition q position reply sends))
    (λ e. reply_leaves (acknowledging p (length_of p)) position reply sends)
    (λ e. reply_leaves p position reply sends)

left : (p : Plain) (r : Result Transition Refusal) (t : Transition) → Leaves p r → r ≡ Ok t → (t.0.past.base ≡ p.past.base) × (t.0.past.base_state ≡ p.past.base_state) × (t.0.past.entries ≡ p.past.entries) × (t.0.ready ≡ p.ready)
left p r t l h = let S : Result Transition Refusal → Type 0 = λ r. Leaves p r in subst S h l

pub update_transitions : (p : Plain) (u : Update) (t : Transition) → ask_transition p (asks.Update u) ≡ Ok t → UpdateTransition p u t.0
unfolding ask_transition update_transition
update_transitions p u t k =
    let a : (not p.ready ≡ false) × (cond (not (all_of_chain p.name.chain (objects_named u.command))) (Err refusals.TwoChains) (accepted_ask_transition p (asks.Update u)) ≡ Ok t) =
    refused (not p.ready) refusals.NotReady (cond (not (all_of_chain p.name.chain (objects_named u.command))) (Err refusals.TwoChains) (accepted_ask_transition p (asks.Update u))) k in
    let b : (not (all_of_chain p.name.chain (objects_named u.command)) ≡ false) × (accepted_ask_transition p (asks.Update u) ≡ Ok t) =
    refused (not (all_of_chain p.name.chain (objects_named u.command))) refusals.TwoChains (accepted_ask_transition p (asks.Update u)) a.1 in
    let d : _ = refused (not (is_first p)) (refusals.NotHead (first_of p.members)) (cond (p.last_ticket == greatest) (Err refusals.Exhausted) (update_transition p u (said (newest p) u.client u.number))) b.1 in
    let e : _ = refused (p.last_ticket == greatest) refusals.Exhausted (update_transition p u (said (newest p) u.client u.number)) d.1 in
    by_reply (said (newest p) u.client u.number) refl (not-false p.ready a.0) e.1
  where
    by_reply : (o : Option Reply) → said (newest p) u.client u.number ≡ o → p.ready ≡ true → update_transition p u o ≡ Ok t → UpdateTransition p u t.0
    by_reply (Some reply) is ready i =
        let l : _ = left p (reply_transition (committed_if_last p) (position_of p u.client) reply []) t (leaves_after p (position_of p u.client) reply []) i in
        record { base = l.0; state = l.1; ready = ready; still = l.3 ∙ ready; entries = inl (reply, is, l.2) }
    by_reply None is ready i =
        let e : Entry = entry_for p u in
        let sends : List Out = to_neighbour (successor p) (λ to. send_all p to (entry_bodies (e ∷ []))) in
        let g : _ = refused (length_of p == greatest || some_used_up (newest p).objects (objects_named u.command)) refusals.Exhausted (new_update_transition p e) i in
        let l : _ = left (with_entry p e) (reply_transition (committed_if_last (with_entry p e)) e.position e.reply sends) t (leaves_after (with_entry p e) e.position e.reply sends) g.1 in
        record { base = l.0; state = l.1; ready = ready; still = l.3 ∙ ready; entries = inr (is, l.2) }
