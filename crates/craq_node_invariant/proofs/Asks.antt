-- A sound node handles a request.
use Rattle.std.proofs.Common.{◌≡◌, ◌≤◌, ℕ, ◌+◌, ◌==◌, true, not, Bool, cond, List, [], ◌∷◌, ◌++◌, Result, Ok, Err, arith}
use Rattle.std.proofs.lemmas.Bool.{cond_both, not-false}
use Rattle.craq_names.specs.Limits.{greatest}
use Rattle.craq_names.specs.declared.refusal.Refusal.{Refusal}
use Rattle.craq_names.specs.declared.refusal.Refusal.TheVariants as refusals
use Rattle.craq_names.proofs.Lists.{all_append}
use Rattle.craq_commands.specs.declared.read_mode.ReadMode.{ReadMode}
use Rattle.craq_commands.specs.declared.read_mode.ReadMode.TheVariants.{Strong, Eventual, Bounded}
use Rattle.craq_commands.specs.Evaluation.{all_of_chain}
use Rattle.craq_commands.specs.SingleCopy.{said}
use Rattle.craq_model.specs.declared.ask.Answer.{Answer}
use Rattle.craq_model.specs.declared.ask.Ask.{Ask}
use Rattle.craq_model.specs.declared.ask.Ask.TheVariants as asks
use Rattle.craq_model.specs.declared.message.Body.TheVariants as bodies
use Rattle.craq_model.specs.declared.step.Out.{Out}
use Rattle.craq_model.specs.declared.step.Out.TheVariants as outs
use Rattle.craq_model.specs.declared.waiting.WaitingRead.{WaitingRead}
use Rattle.craq_model.specs.Asks.{accepted_transition, answered_transition, is_full, is_clean, waiting_read_transition, read_transition, update_transition, asked_objects, accepted_ask_transition, ask_transition}
use Rattle.craq_model.specs.Members.{first_of, last_of}
use Rattle.craq_model.specs.Plain.{Plain, is_first, newest, newest_object, clean_object, object_within}
use Rattle.craq_model.specs.Sends.{send}
use Rattle.craq_model.specs.Settle.{Transition, read_answer}
use Rattle.craq_node_invariant.specs.Sound.{IsSound, IsEncodableAnswer, IsEncodableAsk}
use Rattle.craq_node_invariant.proofs.Objects.{newest_read, bounded_read}
use Rattle.craq_node_invariant.proofs.Sends.{Speaks, sent, last_member_is}
use Rattle.craq_node_invariant.proofs.Applicable.{unsaid_is_new}
use Rattle.craq_node_invariant.proofs.Updates.{IsSoundIfTaken, accepted_is, said_is, update_is}

-- ---- reads

waits : (p : Plain) (r : WaitingRead) → IsSound p → p.ready ≡ true → 1 ≤ r.ticket → IsSound (record p { waiting_reads = p.waiting_reads ++ r ∷ [] })
waits p r s ready h = grind (arith, all_append (λ (r : WaitingRead). 1 ≤ r.ticket) p.waiting_reads (r ∷ []) s.tickets (h, tt))

waiting_is : (p : Plain) (key : List ℕ) → IsSound p → p.ready ≡ true → IsSoundIfTaken (waiting_read_transition p key)
unfolding waiting_read_transition
waiting_is p key s ready =
    let r : WaitingRead = record { ticket = p.last_ticket + 1; key = key } in
    let q : Plain = record p { waiting_reads = p.waiting_reads ++ r ∷ [] } in
    let asked : List Out = send p (last_of p.members) (bodies.Query (p.last_ticket + 1) key) ∷ [] in
    let w : Speaks p = (s.own, s.in_epoch ready) in
    cond_both (is_full p) (Err refusals.PendingFull) (Ok (accepted_transition q asked)) (λ (r : Result Transition Refusal). IsSoundIfTaken r)
    (λ e. tt)
    (λ e. accepted_is q asked (waits p r s ready (omega arith)) (sent p (last_of p.members) (bodies.Query (p.last_ticket + 1) key) w (last_member_is p s w.1) (omega arith), tt))

answered_is : (p : Plain) (answer : Answer) → IsSound p → IsEncodableAnswer answer → IsSoundIfTaken (Ok (answered_transition p answer []))
answered_is p answer s h = accepted_is p (outs.Answer (p.last_ticket + 1) answer ∷ []) s (λ f. h, tt)

read_is : (p : Plain) (mode : ReadMode) (key : List ℕ) → IsSound p → p.ready ≡ true → IsSoundIfTaken (read_transition p mode key)
unfolding read_transition
read_is p Eventual key s ready = answered_is p (read_answer (newest_object p key)) s (newest_read p key s)
read_is p (Bounded k) key s ready =
    let bound : ℕ = (clean_object p key).0 + k in answered_is p (read_answer (object_within p key bound)) s (bounded_read p key bound s)
read_is p Strong key s ready =
    cond_both (is_clean p key) (Ok (answered_transition p (read_answer (newest_object p key)) [])) (waiting_read_transition p key) (λ (r : Result Transition Refusal). IsSoundIfTaken r)
    (λ e. answered_is p (read_answer (newest_object p key)) s (newest_read p key s))
    (λ e. waiting_is p key s ready)

-- ---- requests

accepted_ask_is : (p : Plain) (ask : Ask) → IsSound p → p.ready ≡ true → IsEncodableAsk ask → all_of_chain p.name.chain (asked_objects ask) ≡ true → IsSoundIfTaken (accepted_ask_transition p ask)
accepted_ask_is p (asks.Update u) s ready c h =
    let last : Result Transition Refusal = update_transition p u (said (newest p) u.client u.number) in
    cond_both (not (is_first p)) (Err (refusals.NotHead (first_of p.members))) (cond (p.last_ticket == greatest) (Err refusals.Exhausted) last) (λ (r : Result Transition Refusal). IsSoundIfTaken r)
    (λ a. tt)
    (λ a. cond_both (p.last_ticket == greatest) (Err refusals.Exhausted) last (λ (r : Result Transition Refusal). IsSoundIfTaken r)
    (λ b. tt)
    (λ b. update_is p u (said (newest p) u.client u.number) s ready c h (said_is p u.client u.number s) (unsaid_is_new (newest p) u.client u.number)))
accepted_ask_is p (asks.Read mode object) s ready c h =
    cond_both (p.last_ticket == greatest) (Err refusals.Exhausted) (read_transition p mode object.key) (λ (r : Result Transition Refusal). IsSoundIfTaken r)
    (λ a. tt)
    (λ a. read_is p mode object.key s ready)

pub ask_is : (p : Plain) (ask : Ask) → IsSound p → IsEncodableAsk ask → IsSoundIfTaken (ask_transition p ask)
unfolding ask_transition
ask_is p ask s c =
    let here : Bool = all_of_chain p.name.chain (asked_objects ask) in
    let last : Result Transition Refusal = accepted_ask_transition p ask in
    cond_both (not p.ready) (Err refusals.NotReady) (cond (not here) (Err refusals.TwoChains) last) (λ (r : Result Transition Refusal). IsSoundIfTaken r)
    (λ a. tt)
    (λ a. cond_both (not here) (Err refusals.TwoChains) last (λ (r : Result Transition Refusal). IsSoundIfTaken r)
    (λ b. tt)
    (λ b. accepted_ask_is p ask s (not-false p.ready a) c (not-false here b)))
