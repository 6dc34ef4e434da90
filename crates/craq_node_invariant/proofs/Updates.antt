-- A sound head handles an update whose transaction is within its limits.
use Rattle.std.proofs.Common.{◌≡◌, ◌≤◌, ℕ, ◌+◌, ◌==◌, nat_le, true, ◌||◌, cond, List, [], ◌∷◌, ◌++◌, Option, Some, None, MatchOption, map, length, Result, Ok, Err, refl, ap, sym, subst, arith}
use Rattle.std.proofs.lemmas.Bool.{cond_both}
use Rattle.std.proofs.lemmas.List.{length-map}
use Rattle.std.specs.Prelude.{⊤}
use Rattle.std.specs.List.{AllByRecursion, IsDistinct}
use Rattle.std.specs.Ordering.{nat_cmp}
use Rattle.craq_names.specs.Limits.{greatest}
use Rattle.craq_names.specs.Maps.{same_bytes}
use Rattle.craq_names.specs.declared.refusal.Refusal.{Refusal}
use Rattle.craq_names.specs.declared.refusal.Refusal.TheVariants as refusals
use Rattle.craq_commands.specs.declared.command.Update.{Update}
use Rattle.craq_commands.specs.declared.entry.Entry.{Entry}
use Rattle.craq_commands.specs.declared.entry.Write.{Write}
use Rattle.craq_commands.specs.declared.reply.Reply.{Reply}
use Rattle.craq_commands.specs.declared.reply.Reply.TheVariants.{Stale}
use Rattle.craq_commands.specs.Evaluation.{Outcome, eval, objects_named, all_of_chain, some_used_up}
use Rattle.craq_names.specs.Maps.{at_number}
use Rattle.craq_names.proofs.Lists.{all_append, all_like, all_map, all_each}
use Rattle.craq_commands.specs.Kept.{Kept, Window, largest, is_stale, said_of}
use Rattle.craq_commands.specs.Objects.{Objects, version_of}
use Rattle.craq_commands.specs.SingleCopy.{is_new_to, window_of, said}
use Rattle.craq_model.specs.declared.ask.Answer.TheVariants as answers
use Rattle.craq_model.specs.declared.step.Out.{Out}
use Rattle.craq_model.specs.declared.step.Out.TheVariants as outs
use Rattle.craq_model.specs.declared.waiting.WaitingUpdate.{WaitingUpdate}
use Rattle.craq_model.specs.Asks.{accepted_transition, answered_transition, is_full, versioned_write, entry_of, with_entry, committed_if_last, reply_transition, new_update_transition, update_transition}
use Rattle.craq_model.specs.Plain.{Plain, successor, is_last, length_of, newest, position_of, acknowledging}
use Rattle.craq_model.specs.Sends.{send_all, to_neighbour, entry_bodies}
use Rattle.craq_model.specs.Settle.{Transition}
use Rattle.craq_model.specs.Encodable.{IsReply, IsNotStale, IsEncodableEntry}
use Rattle.craq_node_invariant.specs.Sound.{IsSound, IsEncodableCommand}
use Rattle.craq_node_invariant.proofs.Applicable.{entry_is_applicable}
use Rattle.craq_node_invariant.proofs.Entries.{with_entries_is, entries_sent}
use Rattle.craq_node_invariant.proofs.Evaluations.{IsSoundOutcome, outcome_is}
use Rattle.craq_node_invariant.proofs.Maps.{found_is}
use Rattle.craq_node_invariant.proofs.Sends.{AreEncodableIfFitting}
use Rattle.craq_node_invariant.proofs.Settling.{IsSoundTransition, committed_is}
use Rattle.craq_node_invariant.proofs.States.{newest_is, replies_are}

-- an accepted request makes a sound transition
abbrev pub IsSoundIfTaken : Result Transition Refusal → Type 0
IsSoundIfTaken (Ok t) = IsSoundTransition t
IsSoundIfTaken (Err e) = Unit {0}

pub accepted_is : (p : Plain) (os : List Out) → IsSound p → AreEncodableIfFitting os → IsSoundTransition (accepted_transition p os)
accepted_is p os s a = (assumption, a)

waits : (p : Plain) (u : WaitingUpdate) → IsSound p → p.ready ≡ true → IsReply u.reply → IsSound (record p { waiting_updates = p.waiting_updates ++ u ∷ [] })
waits p u s r h = grind (arith, all_append (λ (u : WaitingUpdate). IsReply u.reply) p.waiting_updates (u ∷ []) s.replies (h, tt))

reply_is : (p : Plain) (position : ℕ) (reply : Reply) (sends : List Out) → IsSound p → p.ready ≡ true → IsReply reply → AreEncodableIfFitting sends → IsSoundIfTaken (reply_transition p position reply sends)
unfolding reply_transition
reply_is p position reply sends s r h a =
    let u : WaitingUpdate = record { ticket = p.last_ticket + 1; position = position; reply = reply } in
    let q : Plain = record p { waiting_updates = p.waiting_updates ++ u ∷ [] } in
    let later : Result Transition Refusal = cond (is_full p) (Err refusals.PendingFull) (Ok (accepted_transition q sends)) in
    cond_both (nat_le position p.past.acknowledged) (Ok (answered_transition p (answers.Update reply) sends)) later (λ (r : Result Transition Refusal). IsSoundIfTaken r)
    (λ e. accepted_is p (outs.Answer (p.last_ticket + 1) (answers.Update reply) ∷ sends) s (λ f. h, a))
    (λ e. cond_both (is_full p) (Err refusals.PendingFull) (Ok (accepted_transition q sends)) (λ (r : Result Transition Refusal). IsSoundIfTaken r)
    (λ b. tt)
    (λ b. accepted_is q sends (waits p u s r h) a))

-- a reply at a node that commits first if it is last
replies_after : (p : Plain) (position : ℕ) (reply : Reply) (sends : List Out) → IsSound p → p.ready ≡ true → IsReply reply → AreEncodableIfFitting sends
    → IsSoundIfTaken (reply_transition (committed_if_last p) position reply sends)
replies_after p position reply sends s r h a =
    cond_both (is_last p) (acknowledging p (length_of p)) p (λ (q : Plain). IsSoundIfTaken (reply_transition q position reply sends))
    (λ e. reply_is (acknowledging p (length_of p)) position reply sends (committed_is p s) r h a)
    (λ e. reply_is p position reply sends s r h a)

-- ---- the entry of a new update

same_keys : (m : Objects) (ws : List (List ℕ × List ℕ)) → map (λ (w : Write). w.key) (map (versioned_write m) ws) ≡ map (λ (w : List ℕ × List ℕ). w.0) ws
same_keys m [] = refl
same_keys m (w ∷ ws) = ap (λ (keys : List (List ℕ)). w.0 ∷ keys) (same_keys m ws)

entry_of_is : (p : Plain) (u : Update) (o : Outcome) → IsSound p → IsSoundOutcome o → IsEncodableEntry (entry_of p u o)
entry_of_is p u o s i =
    let m : Objects = (newest p).objects in
    let count : length (map (versioned_write m) o.0) ≡ length o.0 = length-map o.0 (versioned_write m) in
    let Once : List (List ℕ) → Type 0 = λ keys. IsDistinct same_bytes keys in
    record {
      position = omega arith;
      origin_node = s.own;
      origin_ticket = omega arith;
      reply = i.reply;
      not_stale = i.not_stale;
      few = omega (arith, count, i.few);
      versions = all_map (λ (w : Write). 1 ≤ w.version) (versioned_write m) o.0 (all_each (λ (w : List ℕ × List ℕ). 1 ≤ version_of m w.0 + 1) o.0 (λ w. omega arith));
      once = subst Once (sym (same_keys m o.0)) i.once;
    }

-- ---- replies

said_of_is : (w : Window) (number : ℕ) → AllByRecursion (λ (k : Kept). IsReply k.1 × IsNotStale k.1) w → MatchOption (said_of w number) ⊤ IsReply
unfolding said_of
said_of_is w number h =
    cond_both (is_stale w number) (Some (Stale (largest w))) (at_number w number) (λ (o : Option Reply). MatchOption o ⊤ IsReply) (λ e. tt)
    (λ e. found_is nat_cmp IsReply number w (all_like (λ (k : Kept). IsReply k.1 × IsNotStale k.1) (λ (k : Kept). IsReply k.1) w (λ k h. h.0) h))

pub said_is : (p : Plain) (client number : ℕ) → IsSound p → MatchOption (said (newest p) client number) ⊤ IsReply
said_is p client number s = said_of_is (window_of (newest p) client) number (replies_are (newest p) client (newest_is p s))

-- ---- the transition

pub update_is : (p : Plain) (u : Update) (o : Option Reply) → IsSound p → p.ready ≡ true → IsEncodableCommand u.command → all_of_chain p.name.chain (objects_named u.command) ≡ true
    → MatchOption o ⊤ IsReply → (o ≡ None → is_new_to (newest p) u.client u.number ≡ true) → IsSoundIfTaken (update_transition p u o)
unfolding update_transition
update_is p u (Some reply) s r c h a n = replies_after p (position_of p u.client) reply [] s r a tt
update_is p u None s r c h a n =
    let m : Objects = (newest p).objects in
    let o : Outcome = eval m u.command in
    let e : Entry = entry_of p u o in
    let i : IsEncodableEntry e = entry_of_is p u o s (outcome_is m p.name.chain u.command (newest_is p s).versions c h) in
    cond_both (length_of p == greatest || some_used_up m (objects_named u.command)) (Err refusals.Exhausted) (new_update_transition p e) (λ (r : Result Transition Refusal). IsSoundIfTaken r)
    (λ b. tt)
    (λ b. replies_after (with_entry p e) e.position e.reply (to_neighbour (successor p) (λ to. send_all p to (entry_bodies (e ∷ [])))) (with_entries_is p (e ∷ []) s (i, tt) (refl, tt) (entry_is_applicable p u o (n refl))) r i.reply
    (entries_sent p (e ∷ []) (length_of p + 1) s (s.own, s.in_epoch r) (i, tt) (refl, tt)))
