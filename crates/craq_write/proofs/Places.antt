-- The result of an update that can be taken, or not.
use Rattle.std.proofs.Common.{◌≡◌, ℕ, ◌+◌, ◌==◌, Bool, true, false, List, [], ◌∷◌, Some, None, Err, inl, refl, sym, ap, subst, arith, ◌∙◌, length-append}
use Rattle.std.specs.Prelude.{nat_le, ◌||◌, not, IsOk, if◌then◌else◌, Result, Ok}
use Rattle.std.specs.Result.{IsErr, IsErrAnd}
use Rattle.craq_names.specs.declared.refusal.Refusal.{Refusal}
use Rattle.craq_names.specs.declared.refusal.Refusal.TheVariants.{Memory, PendingFull}
use Rattle.craq_names.specs.Limits.{greatest}
use Rattle.craq_commands.specs.declared.command.Update.{Update}
use Rattle.craq_commands.specs.declared.entry.Entry.{Entry}
use Rattle.craq_commands.specs.declared.reply.Reply.{Reply}
use Rattle.craq_commands.specs.Evaluation.{eval, objects_named, some_used_up}
use Rattle.craq_model.specs.declared.step.Out.{Out}
use Rattle.craq_model.specs.Asks.{reply_transition, new_update_transition, update_transition, committed_if_last, with_entry, entry_of, is_full}
use Rattle.craq_model.specs.Plain.{Plain, is_last, length_of, newest, successor, acknowledging}
use Rattle.craq_model.specs.Sends.{send_all, to_neighbour, entry_bodies}
use Rattle.craq_model.specs.declared.step.Step.{Step}
use Rattle.craq_model.specs.Settle.{Transition}
use Rattle.craq_history.specs.declared.change.Change.{Change}
use Rattle.craq_history.specs.declared.change.HistoryChange.TheVariants as histories
use Rattle.craq_history.specs.Change.{changed, no_change}
use Rattle.craq_history.specs.Effects.{Computes}
use Rattle.craq_write.specs.Places.{has_place}

taken : (q : Plain) (position : ℕ) (reply : Reply) (sends : List Out) → (nat_le position q.past.acknowledged || not (is_full q)) ≡ true → IsOk (reply_transition q position reply sends)
unfolding reply_transition
taken q position reply sends h = grind (arith, h)

turned_away : (q : Plain) (position : ℕ) (reply : Reply) (sends : List Out) → (nat_le position q.past.acknowledged || not (is_full q)) ≡ false → reply_transition q position reply sends ≡ Err PendingFull
unfolding reply_transition
turned_away q position reply sends h = grind (arith, h)

-- the node with all its entries committed if it is last, or unchanged
known_taken_at : (b : Bool) (p : Plain) (position : ℕ) (reply : Reply) → (nat_le position (if b then length_of p else p.past.acknowledged) || not (is_full p)) ≡ true → IsOk (reply_transition (if b then acknowledging p (length_of p) else p) position reply [])
unfolding is_full
known_taken_at true p position reply h = taken (acknowledging p (length_of p)) position reply [] h
known_taken_at false p position reply h = taken p position reply [] h

known_refused_at : (b : Bool) (p : Plain) (position : ℕ) (reply : Reply) → (nat_le position (if b then length_of p else p.past.acknowledged) || not (is_full p)) ≡ false → reply_transition (if b then acknowledging p (length_of p) else p) position reply [] ≡ Err PendingFull
unfolding is_full
known_refused_at true p position reply h = turned_away (acknowledging p (length_of p)) position reply [] h
known_refused_at false p position reply h = turned_away p position reply [] h

-- an update whose number is not new
pub known_taken : (p : Plain) (position : ℕ) (reply : Reply) → has_place p (length_of p) position ≡ true → IsOk (reply_transition (committed_if_last p) position reply [])
known_taken p position reply h = known_taken_at (is_last p) p position reply h

pub known_refused : (p : Plain) (position : ℕ) (reply : Reply) → has_place p (length_of p) position ≡ false → reply_transition (committed_if_last p) position reply [] ≡ Err PendingFull
known_refused p position reply h = known_refused_at (is_last p) p position reply h

-- the history with one more entry
one_more : (p : Plain) (e : Entry) → length_of (with_entry p e) ≡ length_of p + 1
one_more p e = omega (arith, length-append p.past.entries (e ∷ []))

new_taken_at : (b : Bool) (p : Plain) (e : Entry) (sends : List Out) → (nat_le e.position (if b then length_of (with_entry p e) else p.past.acknowledged) || not (is_full p)) ≡ true → IsOk (reply_transition (if b then acknowledging (with_entry p e) (length_of (with_entry p e)) else with_entry p e) e.position e.reply sends)
unfolding is_full
new_taken_at true p e sends h = taken (acknowledging (with_entry p e) (length_of (with_entry p e))) e.position e.reply sends h
new_taken_at false p e sends h = taken (with_entry p e) e.position e.reply sends h

new_refused_at : (b : Bool) (p : Plain) (e : Entry) (sends : List Out) → (nat_le e.position (if b then length_of (with_entry p e) else p.past.acknowledged) || not (is_full p)) ≡ false → reply_transition (if b then acknowledging (with_entry p e) (length_of (with_entry p e)) else with_entry p e) e.position e.reply sends ≡ Err PendingFull
unfolding is_full
new_refused_at true p e sends h = turned_away (acknowledging (with_entry p e) (length_of (with_entry p e))) e.position e.reply sends h
new_refused_at false p e sends h = turned_away (with_entry p e) e.position e.reply sends h

-- a new update with its entry
new_taken : (p : Plain) (e : Entry) → has_place p (length_of p + 1) e.position ≡ true → IsOk (new_update_transition p e)
new_taken p e h =
    new_taken_at (is_last p) p e (to_neighbour (successor p) (λ to. send_all p to (entry_bodies (e ∷ [])))) (subst (λ n. has_place p n e.position ≡ true) (sym (one_more p e)) h)

new_refused : (p : Plain) (e : Entry) → has_place p (length_of p + 1) e.position ≡ false → new_update_transition p e ≡ Err PendingFull
new_refused p e h =
    new_refused_at (is_last p) p e (to_neighbour (successor p) (λ to. send_all p to (entry_bodies (e ∷ [])))) (subst (λ n. has_place p n e.position ≡ false) (sym (one_more p e)) h)

differs : (a b : ℕ) → (a ≡ b → ⊥) → (a == b) ≡ false
differs a b h = grind (arith, h)

-- a new update with a next position and next versions
pub update_taken : (p : Plain) (u : Update) → (length_of p ≡ greatest → ⊥) → some_used_up (newest p).objects (objects_named u.command) ≡ false → has_place p (length_of p + 1) (length_of p + 1) ≡ true → IsOk (update_transition p u None)
unfolding update_transition
update_taken p u room versions h = rw (differs (length_of p) greatest room, versions) (new_taken p (entry_of p u (eval (newest p).objects u.command)) h)

pub update_refused : (p : Plain) (u : Update) → (length_of p ≡ greatest → ⊥) → some_used_up (newest p).objects (objects_named u.command) ≡ false → has_place p (length_of p + 1) (length_of p + 1) ≡ false → update_transition p u None ≡ Err PendingFull
unfolding update_transition
update_refused p u room versions h = rw (differs (length_of p) greatest room, versions) (new_refused p (entry_of p u (eval (newest p).objects u.command)) h)

pub update_entered : (p : Plain) (u : Update) → (length_of p ≡ greatest → ⊥) → some_used_up (newest p).objects (objects_named u.command) ≡ false → update_transition p u None ≡ new_update_transition p (entry_of p u (eval (newest p).objects u.command))
unfolding update_transition
update_entered p u room versions = rw (differs (length_of p) greatest room, versions) refl

-- the node after a new update is the one that the definitions give
no_other : (b : Bool) → (b || false) ≡ b
no_other true = refl
no_other false = refl

added_at : (b : Bool) (p : Plain) (e : Entry) → e.position ≡ length_of p + 1 → changed p (if b then record no_change { history = histories.Grows (e ∷ []); acknowledged = Some e.position } else record no_change { history = histories.Grows (e ∷ []) }) ≡ (if b then acknowledging (with_entry p e) (length_of (with_entry p e)) else with_entry p e)
added_at true p e h = rw (no_other p.ready) (ap (λ n. acknowledging (with_entry p e) n) (h ∙ sym (one_more p e)))
added_at false p e h = rw (no_other p.ready) refl

pub new_plan : (p : Plain) (e : Entry) (es : List Entry) (g c : Change) (count : ℕ) (reply : Reply) (sends : List Out) → es ≡ e ∷ [] → g ≡ no_change → c ≡ (if is_last p then record g { history = histories.Grows es; acknowledged = Some count } else record g { history = histories.Grows es }) → count ≡ e.position → e.position ≡ length_of p + 1 → reply ≡ e.reply → sends ≡ to_neighbour (successor p) (λ to. send_all p to (entry_bodies es)) → reply_transition (changed p c) count reply sends ≡ new_update_transition p e
new_plan p e es g c count reply sends one none is here next said sent =
    rw (is, none, here, said, sent, one) (ap (λ (q : Plain). reply_transition q e.position e.reply (to_neighbour (successor p) (λ to. send_all p to (entry_bodies (e ∷ []))))) (added_at (is_last p) p e next))

-- out of memory in a call that was to succeed
pub lacks_memory : (p : Plain) (r : Result (Change × Step) Refusal) (wanted : Result Transition Refusal) → IsErr r × IsErrAnd r (λ e. e ≡ Memory) → IsOk wanted → Computes p r wanted
lacks_memory p (Ok x) wanted h k = let no = h.0 in cc
lacks_memory p (Err e) wanted h k = inl (h.1, k)
