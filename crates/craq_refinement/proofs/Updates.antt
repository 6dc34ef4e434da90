-- The head takes an update.
use Rattle.std.proofs.Common.{◌≡◌, inl, inr, ℕ, suc, ◌+◌, ◌==◌, nat_le, Bool, true, false, not, cond, ◌&&◌, ◌||◌, List, [], ◌∷◌, ◌++◌, length, Option, Some, None, Result, Ok, Err, refl, ap, sym, subst, ◌∙◌, arith}
use Rattle.std.proofs.lemmas.Bool.{cond_both, not-false}
use Rattle.craq_names.specs.Limits.{greatest}
use Rattle.craq_names.specs.declared.refusal.Refusal.{Refusal}
use Rattle.craq_names.specs.declared.refusal.Refusal.TheVariants as refusals
use Rattle.craq_commands.specs.declared.command.Update.{Update}
use Rattle.craq_commands.specs.declared.entry.Entry.{Entry}
use Rattle.craq_commands.specs.declared.reply.Reply.{Reply}
use Rattle.craq_commands.specs.Evaluation.{eval, objects_named, all_of_chain, some_used_up}
use Rattle.craq_commands.specs.SingleCopy.{said}
use Rattle.craq_model.specs.declared.ask.Ask.TheVariants as asks
use Rattle.craq_model.specs.declared.ask.Answer.TheVariants as answers
use Rattle.craq_model.specs.declared.step.Out.{Out}
use Rattle.craq_model.specs.declared.step.Out.TheVariants as outs
use Rattle.craq_model.specs.Members.{first_of}
use Rattle.craq_model.specs.Plain.{Plain, id_of, successor, is_first, is_last, is_tail, length_of, newest, position_of, acknowledging}
use Rattle.craq_model.specs.Sends.{send_all, to_neighbour, entry_bodies}
use Rattle.craq_model.specs.Settle.{Transition}
use Rattle.craq_model.specs.Asks.{accepted_transition, answered_transition, is_full, entry_of, with_entry, committed_if_last, reply_transition, new_update_transition, update_transition, accepted_ask_transition, ask_transition}
use Rattle.craq_protocol.specs.Members as protocol
use Rattle.craq_protocol.specs.Machine.{MachineState, MachineMove, Append, after_commit}
use Rattle.craq_protocol.specs.Promises.{IsReached, IsSafe}
use Rattle.craq_protocol.proofs.Effects.{append_does}
use Rattle.craq_protocol.proofs.Reached.{reached_safe}
use Rattle.craq_runs.specs.Chain.{Chain, sent_in}
use Rattle.craq_refinement.specs.Follows.{seen_of, NodeFollows, Follows}
use Rattle.craq_refinement.specs.Lines.{IsUpdating}
use Rattle.craq_refinement.proofs.Members.{first_of-same}
use Rattle.craq_refinement.proofs.Worlds.{only_self, is_tail-seen, history_length}
use Rattle.craq_refinement.proofs.Stages.{TransitionFollows, Stage, stage_transition, stage_before}
use Rattle.craq_refinement.proofs.Ticks.{AllSendable, none_sendable}
use Rattle.craq_refinement.proofs.Settling.{Uncommitted, committed_stage, other_stage}
use Rattle.craq_refinement.proofs.Here.{Here, here_node, ready_member}
use Rattle.craq_refinement.proofs.Entries.{grown, grown_only, grown_node, newest_sendable}

-- a test by which a request is refused
pub refused : {t : Transition} (b : Bool) (e : Refusal) (r : Result Transition Refusal) → cond b (Err e) r ≡ Ok t → (b ≡ false) × (r ≡ Ok t)
refused {t} b e r h = cond_both b (Err e) r (λ (x : Result Transition Refusal). x ≡ Ok t → (b ≡ false) × (r ≡ Ok t)) (λ i k. absurd (cc)) (λ i k. (i, k)) h

pub transition_same : (s t : Transition) (r : Result Transition Refusal) → r ≡ Ok s → r ≡ Ok t → s ≡ t
transition_same s t r d e = cc

-- an accepted request, whose own fields the protocol does not see
pub accepts : {Own : List (MachineMove Entry) → Type 0} {c : Chain} {w : MachineState Entry} {own : List (MachineMove Entry)} {v : MachineState Entry} (q : Plain) → Follows c w → Stage c w own v q → Own own
    → (os : List Out) → AllSendable v (id_of q) os → TransitionFollows Own c w (accepted_transition q os)
accepts {Own} {c} {w} {own} {v} q f s line os a =
    let later : Stage c w own v (record q { last_ticket = q.last_ticket + 1 }) = record { was = s.was; at = s.at; is = s.is; only = s.only; node = s.node; running = s.running } in
    stage_transition f later line (record { ticket = Some (q.last_ticket + 1); outs = os; ignored = None }) a

replies : {Own : List (MachineMove Entry) → Type 0} {c : Chain} {w : MachineState Entry} {own : List (MachineMove Entry)} {v : MachineState Entry} (q : Plain) → Follows c w → Stage c w own v q → Own own
    → (position : ℕ) (reply : Reply) (sends : List Out) → AllSendable v (id_of q) sends → (t : Transition) → reply_transition q position reply sends ≡ Ok t → TransitionFollows Own c w t
unfolding reply_transition sent_in
replies {Own} {c} {w} {own} {v} q f s line position reply sends a t h =
    let P : Transition → Type 0 = λ t. TransitionFollows Own c w t in
    let now : Transition = answered_transition q (answers.Update reply) sends in
    let waiting : Plain = record q { waiting_updates = q.waiting_updates ++ (record { ticket = q.last_ticket + 1; position = position; reply = reply }) ∷ [] } in
    let waits : Stage c w own v waiting = record { was = s.was; at = s.at; is = s.is; only = s.only; node = s.node; running = s.running } in
    let later : Transition = accepted_transition waiting sends in
    let rest : Result Transition Refusal = cond (is_full q) (Err refusals.PendingFull) (Ok later) in
    cond_both (nat_le position q.past.acknowledged) (Ok now) rest (λ (r : Result Transition Refusal). r ≡ Ok t → TransitionFollows Own c w t)
    (λ e k. subst P (transition_same now t (Ok now) refl k) (accepts q f s line (outs.Answer (q.last_ticket + 1) (answers.Update reply) ∷ sends) a))
    (λ e k.
    let g : (is_full q ≡ false) × (Ok later ≡ Ok t) = refused (is_full q) refusals.PendingFull (Ok later) k in
    subst P (transition_same later t (Ok later) refl g.1) (accepts waiting f waits line sends a))
    h

-- the head appends the entry of a new update
appended : {c : Chain} {w : MachineState Entry} (p : Plain) → Here c w p → IsReached w → p.ready ≡ true → is_first p ≡ true → (e : Entry) → e.position ≡ suc (length_of p)
    → Uncommitted c w (Append (id_of p) e ∷ []) (grown w (id_of p) e) (with_entry p e)
appended {c} {w} p h r ready first e at =
    let id : ℕ = id_of p in
    let n : NodeFollows w (seen_of p) = here_node p h in
    let m : protocol.is_member p.members id ≡ true = ready_member p h r ready in
    let P : List ℕ → Type 0 = λ l. protocol.is_first l id ≡ true in
    record {
      was = p;
      at = h.at;
      is = append_does w id e (n.running ∙ h.running) (n.ready ∙ ready) (subst P (sym n.members) (sym (first_of-same p.members id m) ∙ first));
      only = grown_only w id e;
      node = grown_node w p e n at;
      running = h.running;
      member = λ x. m;
    }

pub new_update : {Own : List (MachineMove Entry) → Type 0} {c : Chain} {w : MachineState Entry} (p : Plain) → Here c w p → IsReached w → p.ready ≡ true → is_first p ≡ true → (e : Entry) → e.position ≡ suc (length_of p)
    → Own (Append (id_of p) e ∷ []) → (t : Transition) → new_update_transition p e ≡ Ok t → TransitionFollows Own c w t
new_update {Own} {c} {w} p h r ready first e at line t k =
    let q : Plain = with_entry p e in
    let own : List (MachineMove Entry) = Append (id_of p) e ∷ [] in
    let u : Uncommitted c w own (grown w (id_of p) e) q = appended p h r ready first e at in
    let sends : List Out = to_neighbour (successor p) (λ to. send_all p to (entry_bodies (e ∷ []))) in
    let same : is_tail q ≡ is_last q = ap (λ b. b && is_last q) ready in
    cond_both (is_last q) (acknowledging q (length_of q)) q (λ (x : Plain). reply_transition x e.position e.reply sends ≡ Ok t → TransitionFollows Own c w t)
    (λ l i.
    let s : Stage c w own (after_commit (grown w (id_of p) e) (id_of p)) (acknowledging q (length_of q)) = committed_stage u (same ∙ l) in
    replies (acknowledging q (length_of q)) h.follows s line e.position e.reply sends (newest_sendable p (e ∷ []) (length_of p) (length_of q) (at, tt) s.node) t i)
    (λ l i.
    let s : Stage c w own (after_commit (grown w (id_of p) e) (id_of p)) q = other_stage u (same ∙ l) in
    replies q h.follows s line e.position e.reply sends (newest_sendable p (e ∷ []) (length_of p) p.past.acknowledged (at, tt) s.node) t i)
    k

-- an update requested before has its reply
pub old_update : {Own : List (MachineMove Entry) → Type 0} {c : Chain} {w : MachineState Entry} (p : Plain) → Here c w p → IsReached w → p.ready ≡ true → (position : ℕ) (reply : Reply)
    → Own [] → (t : Transition) → reply_transition (committed_if_last p) position reply [] ≡ Ok t → TransitionFollows Own c w t
old_update {Own} {c} {w} p h r ready position reply none t k =
    let id : ℕ = id_of p in
    let n : NodeFollows w (seen_of p) = here_node p h in
    let before : Stage c w [] w p = stage_before h.follows p h.at h.running in
    cond_both (is_last p) (acknowledging p (length_of p)) p (λ (x : Plain). reply_transition x position reply [] ≡ Ok t → TransitionFollows Own c w t)
    (λ l i.
    let tail : is_tail p ≡ true = ap (λ b. b && is_last p) ready ∙ l in
    let s : IsSafe w = reached_safe r in
    let known : w.acknowledged id ≡ length (w.history id) = s.tail_knows id (is_tail-seen w (seen_of p) n h.running (λ x. ready_member p h r ready) ∙ tail) in
    let stage : Stage c w [] w (acknowledging p (length_of p)) = record {
      was = p;
      at = h.at;
      is = refl;
      only = only_self id w;
      node = record {
        running = n.running;
        epoch = n.epoch;
        members = n.members;
        ready = n.ready;
        history = n.history;
        placed = n.placed;
        acknowledged = known ∙ history_length n.history;
        based = omega arith;
        floor = n.floor;
        gathering = n.gathering;
      };
      running = h.running;
    } in
    replies (acknowledging p (length_of p)) h.follows stage none position reply [] (none_sendable w id) t i)
    (λ l i. replies p h.follows before none position reply [] (none_sendable w id) t i)
    k

pub update_follows : {c : Chain} {w : MachineState Entry} (p : Plain) → Here c w p → IsReached w → (u : Update) (t : Transition) → ask_transition p (asks.Update u) ≡ Ok t → TransitionFollows (IsUpdating (id_of p)) c w t
unfolding ask_transition update_transition
update_follows {c} {w} p h r u t k =
    let a : (not p.ready ≡ false) × (cond (not (all_of_chain p.name.chain (objects_named u.command))) (Err refusals.TwoChains) (accepted_ask_transition p (asks.Update u)) ≡ Ok t) =
    refused (not p.ready) refusals.NotReady (cond (not (all_of_chain p.name.chain (objects_named u.command))) (Err refusals.TwoChains) (accepted_ask_transition p (asks.Update u))) k in
    let b : (not (all_of_chain p.name.chain (objects_named u.command)) ≡ false) × (accepted_ask_transition p (asks.Update u) ≡ Ok t) =
    refused (not (all_of_chain p.name.chain (objects_named u.command))) refusals.TwoChains (accepted_ask_transition p (asks.Update u)) a.1 in
    let d : _ = refused (not (is_first p)) (refusals.NotHead (first_of p.members)) (cond (p.last_ticket == greatest) (Err refusals.Exhausted) (update_transition p u (said (newest p) u.client u.number))) b.1 in
    let e : _ = refused (p.last_ticket == greatest) refusals.Exhausted (update_transition p u (said (newest p) u.client u.number)) d.1 in
    by_reply (said (newest p) u.client u.number) (not-false p.ready a.0) (not-false (is_first p) d.0) e.1
  where
    by_reply : (o : Option Reply) → p.ready ≡ true → is_first p ≡ true → update_transition p u o ≡ Ok t → TransitionFollows (IsUpdating (id_of p)) c w t
    by_reply (Some reply) ready first i = old_update p h r ready (position_of p u.client) reply (inl refl) t i
    by_reply None ready first i =
        let entry : Entry = entry_of p u (eval (newest p).objects u.command) in
        let g : _ = refused (length_of p == greatest || some_used_up (newest p).objects (objects_named u.command)) refusals.Exhausted (new_update_transition p entry) i in
        new_update p h r ready first entry (omega arith) (inr (entry, refl)) t g.1
