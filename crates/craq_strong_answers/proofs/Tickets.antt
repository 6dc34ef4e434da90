-- A step answers no ticket twice, and an answered ticket waits no more.
use Rattle.std.proofs.Common.{◌≡◌, ℕ, ◌+◌, ◌≤◌, ◌==◌, nat_le, nat_lt, Bool, true, false, not, cond, ◌&&◌, ◌||◌, List, [], ◌∷◌, ◌++◌, map, filter, find, is_some, Option, Some, None, Result, Ok, Err, refl, ap, sym, subst, ◌∙◌, arith}
use Rattle.std.specs.Prelude.{⊤}
use Rattle.std.specs.List.{AllByRecursion}
use Rattle.std.proofs.lemmas.Bool.{cond_both, eqb-true}
use Rattle.std.proofs.lemmas.List.{map-append}
use Rattle.craq_updates.proofs.Found.{find_true}
use Rattle.craq_names.specs.Limits.{greatest}
use Rattle.craq_names.specs.declared.refusal.Refusal.{Refusal}
use Rattle.craq_names.specs.declared.refusal.Refusal.TheVariants as refusals
use Rattle.craq_commands.specs.declared.command.Update.{Update}
use Rattle.craq_commands.specs.declared.entry.Entry.{Entry}
use Rattle.craq_commands.specs.declared.reply.Reply.{Reply}
use Rattle.craq_commands.specs.declared.read_mode.ReadMode.{ReadMode}
use Rattle.craq_commands.specs.declared.read_mode.ReadMode.TheVariants.{Strong, Eventual, Bounded}
use Rattle.craq_commands.specs.Evaluation.{eval, objects_named, all_of_chain, some_used_up}
use Rattle.craq_commands.specs.declared.state.State.{State}
use Rattle.craq_commands.specs.SingleCopy.{said}
use Rattle.craq_names.specs.Maps.{at_number}
use Rattle.craq_model.specs.declared.gathering.Gathering.{Gathering}
use Rattle.craq_model.specs.declared.message.StatePart.{StatePart}
use Rattle.craq_model.specs.Parts.{gathered_position, gathering_for, is_in_order, with_part, is_whole, joined_state}
use Rattle.craq_model.specs.declared.ask.Ask.{Ask}
use Rattle.craq_model.specs.declared.ask.Ask.TheVariants as asks
use Rattle.craq_model.specs.declared.ask.Answer.{Answer}
use Rattle.craq_model.specs.declared.ask.Answer.TheVariants as answers
use Rattle.craq_model.specs.declared.message.Body.{Body}
use Rattle.craq_model.specs.declared.message.Body.TheVariants as bodies
use Rattle.craq_model.specs.declared.message.LinkMessage.{LinkMessage}
use Rattle.craq_model.specs.declared.step.Out.{Out}
use Rattle.craq_model.specs.declared.step.Out.TheVariants as outs
use Rattle.craq_model.specs.declared.step.Why.{Why}
use Rattle.craq_model.specs.declared.step.Why.TheVariants.{OtherEpoch, NotNeighbour, OutOfOrder, AlreadyHave, NotReadyHere, UnknownTicket, TooFar}
use Rattle.craq_model.specs.declared.waiting.WaitingUpdate.{WaitingUpdate}
use Rattle.craq_model.specs.declared.waiting.WaitingRead.{WaitingRead}
use Rattle.craq_model.specs.Members.{is_member, is_id, first_of, last_of}
use Rattle.craq_model.specs.Plain.{Plain, id_of, successor, predecessor, is_first, is_last, is_tail, length_of, newest, newest_object, clean_object, object_within, position_of, with_entries, acknowledging}
use Rattle.craq_model.specs.Sends.{send, send_all, to_neighbour, entry_bodies, tick_sends}
use Rattle.craq_model.specs.Settle.{Transition, transition_with, transition_ignoring, read_answer, Given, update_given, read_given, by_ticket, all_given, all_committed, answer_outs, is_reached, settling_transition, without_reached, readiness_transition}
use Rattle.craq_model.specs.Asks.{accepted_transition, answered_transition, is_full, is_clean, asked_objects, entry_of, with_entry, committed_if_last, reply_transition, new_update_transition, update_transition, waiting_read_transition, read_transition, accepted_ask_transition, ask_transition}
use Rattle.craq_model.specs.Deliveries.{config_transition, are_applicable, forwarding_transition, taken_entries_transition, first_position, final_position, entries_above, entries_transition, pending_updates, later_updates, acknowledgement_transition, ack_transition, query_transition, read_with, reads_without, answering_version, reported_version_transition, version_transition, fill_bodies, blank_transition, with_copy, copy_transition, gathered_transition, gathering_transition, is_outdated, part_transition, floor_transition, transition_in_epoch, body_transition}
use Rattle.craq_strong_answers.proofs.Outs.{Says, AllReported, reported_sends, reported_neighbour, reported_tick}
use Rattle.craq_strong_answers.proofs.Times.{times, times_cons, times_nil, times_append, update_tickets, read_tickets, open_of, given_in, given_both, given_answers, none_given, sorted_times, parted_times, answered_times}

-- the answered tickets and those that wait are among these
pub record Closes (o : List ℕ) (t : Transition) : Type 0 where
  pub at : (k : ℕ) → times k (given_in t.1.outs) + times k (open_of t.0) ≤ times k o

-- a step without replies, at a node whose tickets are the same
silent : (o : List ℕ) (q : Plain) (os : List Out) → AllReported (λ ticket answer. ⊥) (λ a b c. ⊤) (λ a b c. ⊤) os → open_of q ≡ o → Closes o (transition_with q os)
silent o q os a same = record {
  at = λ k.
      let none : times k (given_in os) ≡ 0 = ap (times k) (none_given (λ a b c. ⊤) (λ a b c. ⊤) os a) ∙ times_nil k in
      let all : times k (open_of q) ≡ times k o = ap (times k) same in
      omega (arith, none, all);
}

ignored : (p : Plain) (why : Why) → Closes (open_of p) (transition_ignoring p why)
ignored p why = record { at = λ k. let none : times k (given_in []) ≡ 0 = ap (times k) (none_given (λ a b c. ⊤) (λ a b c. ⊤) [] tt) ∙ times_nil k in omega (arith, none) }

guard : (p : Plain) (b : Bool) (why : Why) (t : Transition) → Closes (open_of p) t → Closes (open_of p) (cond b (transition_ignoring p why) t)
guard p b why t c = cond_both b (transition_ignoring p why) t (λ (t : Transition). Closes (open_of p) t) (λ e. ignored p why) (λ e. c)

-- messages contain no reply
abbrev NoAnswer : List Out → Type 0
NoAnswer os = AllReported (λ ticket answer. ⊥) (λ a b c. ⊤) (λ a b c. ⊤) os

says_all : (id to : ℕ) (bs : List Body) → AllByRecursion (Says (λ a b c. ⊤) (λ a b c. ⊤) id to) bs
says_all id to [] = tt
says_all id to (b ∷ bs) = (one b, says_all id to bs)
  where
    one : (b : Body) → Says (λ a b c. ⊤) (λ a b c. ⊤) id to b
    one (bodies.Config members) = tt
    one (bodies.Entry e) = tt
    one (bodies.Ack position) = tt
    one (bodies.Query ticket key) = tt
    one (bodies.VersionIs ticket version) = tt
    one (bodies.Blank count) = tt
    one (bodies.Batch es) = tt
    one (bodies.Copy position state) = tt
    one (bodies.Part part) = tt
    one (bodies.Floor count) = tt

no_sends : (p : Plain) (to : ℕ) (bs : List Body) → NoAnswer (send_all p to bs)
no_sends p to bs = reported_sends (λ ticket answer. ⊥) (λ a b c. ⊤) (λ a b c. ⊤) p to bs (says_all (id_of p) to bs)

no_neighbour : (p : Plain) (o : Option ℕ) (bs : List Body) → NoAnswer (to_neighbour o (λ to. send_all p to bs))
no_neighbour p o bs = reported_neighbour (λ ticket answer. ⊥) (λ a b c. ⊤) (λ a b c. ⊤) o (λ to. send_all p to bs) (λ to. no_sends p to bs)

no_ticks : (p : Plain) → NoAnswer (tick_sends p)
no_ticks p = reported_tick (λ ticket answer. ⊥) (λ a b c. ⊤) (λ a b c. ⊤) p (every p.waiting_reads)
  where
    every : {A : Type 0} → (xs : List A) → AllByRecursion (λ (x : A). ⊤) xs
    every [] = tt
    every (x ∷ xs) = (tt, every xs)

map_map : {A B C : Type 0} (f : B → C) (g : A → B) (xs : List A) → map f (map g xs) ≡ map (λ x. f (g x)) xs
map_map f g [] = refl
map_map f g (x ∷ xs) = ap (λ l. f (g x) ∷ l) (map_map f g xs)

-- the replies to all that waits
all_tickets : (p : Plain) (k : ℕ) → times k (given_in (answer_outs (all_given p))) ≡ times k (open_of p)
unfolding all_given
all_tickets p k =
    let us : List Given = map update_given p.waiting_updates in
    let rs : List Given = map (read_given p) p.waiting_reads in
    let f : Given → ℕ = λ g. g.0 in
    ap (times k) (given_answers (by_ticket (us ++ rs)))
    ∙ (sorted_times k (us ++ rs)
    ∙ ap (times k) (map-append f us rs ∙ λ i. map_map f update_given p.waiting_updates i ++ map_map f (read_given p) p.waiting_reads i))

settling : (p : Plain) → Closes (open_of p) (settling_transition p)
unfolding settling_transition
settling p =
    let all : List Out = answer_outs (all_given p) ++ tick_sends (all_committed p) in
    cond_both (is_tail p) (transition_with (all_committed p) all) (transition_with p (tick_sends p)) (λ (t : Transition). Closes (open_of p) t)
    (λ e. record {
      at = λ k.
          let sends : times k (given_in (tick_sends (all_committed p))) ≡ 0 = ap (times k) (none_given (λ a b c. ⊤) (λ a b c. ⊤) (tick_sends (all_committed p)) (no_ticks (all_committed p))) ∙ times_nil k in
          let split : times k (given_in all) ≡ times k (given_in (answer_outs (all_given p))) + times k (given_in (tick_sends (all_committed p))) =
          ap (times k) (given_both (answer_outs (all_given p)) (tick_sends (all_committed p))) ∙ times_append k (given_in (answer_outs (all_given p))) (given_in (tick_sends (all_committed p))) in
          omega (arith, sends, split, all_tickets p k, times_nil k);
    })
    (λ e. silent (open_of p) p (tick_sends p) (no_ticks p) refl)

still_open : (p : Plain) → open_of (without_reached p) ≡ open_of p
unfolding without_reached
still_open p = cond_both (nat_le (gathered_position p.gathering) (length_of p)) (record p { gathering = None }) p (λ (q : Plain). open_of q ≡ open_of p) (λ e. refl) (λ e. refl)

becoming : (p : Plain) → Closes (open_of p) (readiness_transition p)
unfolding readiness_transition
becoming p =
    cond_both (not p.ready && is_reached p.floor (length_of p)) (settling_transition (record p { ready = true; gathering = None })) (transition_with (without_reached p) []) (λ (t : Transition). Closes (open_of p) t)
    (λ e. settling (record p { ready = true; gathering = None }))
    (λ e. silent (open_of p) (without_reached p) [] tt (still_open p))

config_closes : (p : Plain) (epoch : ℕ) (members : List ℕ) → Closes (open_of p) (config_transition p epoch members)
unfolding config_transition
config_closes p epoch members =
    let last : Transition = settling_transition (record p { epoch = epoch; members = members; floor = None; gathering = None }) in
    guard p (nat_le epoch p.epoch) OtherEpoch (cond (not (is_member members (id_of p))) (transition_ignoring p NotNeighbour) last)
    (guard p (not (is_member members (id_of p))) NotNeighbour last (settling (record p { epoch = epoch; members = members; floor = None; gathering = None })))

forwarding : (p : Plain) (es : List Entry) → Closes (open_of p) (forwarding_transition p es)
unfolding forwarding_transition
forwarding p es =
    let q : Plain = acknowledging p (length_of p) in
    let acks : ℕ → List Out = λ to. send p to (bodies.Ack (length_of p)) ∷ [] in
    let entries : ℕ → List Out = λ to. send_all p to (entry_bodies es) in
    cond_both (is_tail p) (transition_with q (to_neighbour (predecessor p) acks)) (transition_with p (to_neighbour (successor p) entries)) (λ (t : Transition). Closes (open_of p) t)
    (λ t. silent (open_of p) q (to_neighbour (predecessor p) acks) (no_neighbour p (predecessor p) (bodies.Ack (length_of p) ∷ [])) refl)
    (λ t. silent (open_of p) p (to_neighbour (successor p) entries) (no_neighbour p (successor p) (entry_bodies es)) refl)

entries_close : (p : Plain) (sender : ℕ) (es : List Entry) → Closes (open_of p) (entries_transition p sender es)
unfolding entries_transition
entries_close p sender es =
    let new : List Entry = entries_above (length_of p) es in
    let q : Plain = with_entries p new in
    let last : Transition = taken_entries_transition q new in
    let third : Transition = cond (are_applicable (newest p) new) last (transition_ignoring p TooFar) in
    let second : Transition = cond (nat_lt (length_of p + 1) (first_position es)) (transition_ignoring p OutOfOrder) third in
    let first : Transition = cond (nat_le (final_position es) (length_of p)) (transition_ignoring p AlreadyHave) second in
    guard p (not (is_id (predecessor p) sender)) NotNeighbour first
    (guard p (nat_le (final_position es) (length_of p)) AlreadyHave second
    (guard p (nat_lt (length_of p + 1) (first_position es)) OutOfOrder third
    (cond_both (are_applicable (newest p) new) last (transition_ignoring p TooFar) (λ (t : Transition). Closes (open_of p) t)
    (λ g. cond_both p.ready (forwarding_transition q new) (readiness_transition q) (λ (t : Transition). Closes (open_of p) t) (λ r. forwarding q new) (λ r. becoming q))
    (λ g. ignored p TooFar))))

hearing : (p : Plain) (position : ℕ) → Closes (open_of p) (acknowledgement_transition p position)
unfolding acknowledgement_transition pending_updates later_updates
hearing p position =
    let pending : List WaitingUpdate = filter (λ (u : WaitingUpdate). nat_le u.position position) p.waiting_updates in
    let later : List WaitingUpdate = filter (λ (u : WaitingUpdate). nat_lt position u.position) p.waiting_updates in
    let given : List Out = answer_outs (map update_given pending) in
    let sends : List Out = to_neighbour (predecessor p) (λ to. send p to (bodies.Ack position) ∷ []) in
    let f : Given → ℕ = λ g. g.0 in
    record {
      at = λ k.
          let none : times k (given_in sends) ≡ 0 = ap (times k) (none_given (λ a b c. ⊤) (λ a b c. ⊤) sends (no_neighbour p (predecessor p) (bodies.Ack position ∷ []))) ∙ times_nil k in
          let split : times k (given_in (given ++ sends)) ≡ times k (given_in given) + times k (given_in sends) = ap (times k) (given_both given sends) ∙ times_append k (given_in given) (given_in sends) in
          let tickets : times k (given_in given) ≡ times k (update_tickets pending) = ap (times k) (given_answers (map update_given pending) ∙ map_map f update_given pending) in
          omega (arith, none, split, tickets, parted_times k position p.waiting_updates, times_append k (update_tickets p.waiting_updates) (read_tickets p.waiting_reads), times_append k (update_tickets later) (read_tickets p.waiting_reads));
    }

ack_closes : (p : Plain) (sender position : ℕ) → Closes (open_of p) (ack_transition p sender position)
unfolding ack_transition
ack_closes p sender position =
    let last : Transition = acknowledgement_transition p position in
    let third : Transition = cond (nat_lt (length_of p) position) (transition_ignoring p TooFar) last in
    let second : Transition = cond (nat_le position p.past.acknowledged) (transition_ignoring p AlreadyHave) third in
    let first : Transition = cond (not p.ready) (transition_ignoring p NotReadyHere) second in
    guard p (not (is_id (successor p) sender)) NotNeighbour first
    (guard p (not p.ready) NotReadyHere second (guard p (nat_le position p.past.acknowledged) AlreadyHave third (guard p (nat_lt (length_of p) position) TooFar last (hearing p position))))

query_closes : (p : Plain) (sender ticket : ℕ) (key : List ℕ) → Closes (open_of p) (query_transition p sender ticket key)
unfolding query_transition
query_closes p sender ticket key =
    let os : List Out = send p sender (bodies.VersionIs ticket (newest_object p key).0) ∷ [] in
    guard p ((sender == id_of p) || not (is_member p.members sender)) NotNeighbour (cond (not (is_tail p)) (transition_ignoring p NotReadyHere) (transition_with p os))
    (guard p (not (is_tail p)) NotReadyHere (transition_with p os) (silent (open_of p) p os (no_sends p sender (bodies.VersionIs ticket (newest_object p key).0 ∷ [])) refl))

reported_closes : (p : Plain) (version ticket : ℕ) (o : Option WaitingRead) → find (λ (r : WaitingRead). r.ticket == ticket) p.waiting_reads ≡ o → Closes (open_of p) (reported_version_transition p version o)
unfolding reported_version_transition reads_without given_in
reported_closes p version ticket None h = ignored p UnknownTicket
reported_closes p version ticket (Some r) h =
    let left : List WaitingRead = filter (λ (x : WaitingRead). not (x.ticket == r.ticket)) p.waiting_reads in
    let q : Plain = record p { waiting_reads = left } in
    let os : List Out = outs.Answer r.ticket (read_answer (object_within p r.key (answering_version p r.key version))) ∷ [] in
    let same : r.ticket ≡ ticket = eqb-true r.ticket ticket (find_true (λ (r : WaitingRead). r.ticket == ticket) p.waiting_reads r h) in
    guard p (nat_lt (newest_object p r.key).0 version) TooFar (transition_with q os)
    (record {
      at = λ k.
          let P : ℕ → Type 0 = λ t. find (λ (x : WaitingRead). x.ticket == t) p.waiting_reads ≡ Some r in
          let one : times k (r.ticket ∷ []) ≡ cond (r.ticket == k) 1 0 + times k [] = times_cons k r.ticket [] in
          omega (arith, one, times_nil k, answered_times k r.ticket p.waiting_reads r (subst P (sym same) h), times_append k (update_tickets p.waiting_updates) (read_tickets p.waiting_reads), times_append k (update_tickets p.waiting_updates) (read_tickets left));
    })

version_closes : (p : Plain) (sender ticket version : ℕ) → Closes (open_of p) (version_transition p sender ticket version)
unfolding version_transition read_with
version_closes p sender ticket version =
    let o : Option WaitingRead = find (λ (r : WaitingRead). r.ticket == ticket) p.waiting_reads in
    guard p (not (sender == last_of p.members)) NotNeighbour (reported_version_transition p version o) (reported_closes p version ticket o refl)

blank_closes : (p : Plain) (sender count : ℕ) → Closes (open_of p) (blank_transition p sender count)
unfolding blank_transition
blank_closes p sender count =
    let last : Transition = transition_with p (send_all p sender (fill_bodies p count)) in
    guard p (not (is_id (successor p) sender)) NotNeighbour (cond (not p.ready) (transition_ignoring p NotReadyHere) last)
    (guard p (not p.ready) NotReadyHere last (silent (open_of p) p (send_all p sender (fill_bodies p count)) (no_sends p sender (fill_bodies p count)) refl))

copy_closes : (p : Plain) (sender position : ℕ) (state : State) → Closes (open_of p) (copy_transition p sender position state)
unfolding copy_transition
copy_closes p sender position state =
    guard p (not (is_id (predecessor p) sender)) NotNeighbour (cond (p.ready || nat_le position (length_of p)) (transition_ignoring p AlreadyHave) (readiness_transition (with_copy p position state)))
    (guard p (p.ready || nat_le position (length_of p)) AlreadyHave (readiness_transition (with_copy p position state)) (becoming (with_copy p position state)))

gathered_closes : (p : Plain) (g : Gathering) → Closes (open_of p) (gathered_transition p g)
gathered_closes p g =
    let q : Plain = with_copy p g.position (joined_state g.parts) in
    let r : Plain = record p { gathering = Some g } in
    cond_both (is_whole g) (readiness_transition q) (transition_with r []) (λ (t : Transition). Closes (open_of p) t) (λ e. becoming q) (λ e. silent (open_of p) r [] tt refl)

part_closes : (p : Plain) (sender : ℕ) (part : StatePart) → Closes (open_of p) (part_transition p sender part)
unfolding part_transition
part_closes p sender part =
    let g : Gathering = gathering_for part p.gathering in
    let last : Transition = gathered_transition p (with_part g part) in
    let fourth : Transition = cond (not (is_in_order g part)) (transition_ignoring p TooFar) last in
    let third : Transition = cond (is_some (at_number g.parts part.number)) (transition_ignoring p AlreadyHave) fourth in
    let second : Transition = gathering_transition p g part in
    let first : Transition = cond (p.ready || is_outdated p part) (transition_ignoring p AlreadyHave) second in
    guard p (not (is_id (predecessor p) sender)) NotNeighbour first
    (guard p (p.ready || is_outdated p part) AlreadyHave second
    (guard p (not (part.count == g.count)) TooFar third
    (guard p (is_some (at_number g.parts part.number)) AlreadyHave fourth
    (guard p (not (is_in_order g part)) TooFar last (gathered_closes p (with_part g part))))))

floor_closes : (p : Plain) (sender count : ℕ) → Closes (open_of p) (floor_transition p sender count)
unfolding floor_transition
floor_closes p sender count =
    guard p (not (is_id (predecessor p) sender)) NotNeighbour (cond p.ready (transition_ignoring p AlreadyHave) (readiness_transition (record p { floor = Some count })))
    (guard p p.ready AlreadyHave (readiness_transition (record p { floor = Some count })) (becoming (record p { floor = Some count })))

in_epoch : (p : Plain) (m : LinkMessage) (t : Transition) → Closes (open_of p) t → Closes (open_of p) (transition_in_epoch p m t)
in_epoch p m t c = cond_both (m.epoch == p.epoch) t (transition_ignoring p OtherEpoch) (λ (t : Transition). Closes (open_of p) t) (λ e. c) (λ e. ignored p OtherEpoch)

pub body_closes : (p : Plain) (m : LinkMessage) (b : Body) → Closes (open_of p) (body_transition p m b)
body_closes p m (bodies.Config members) = config_closes p m.epoch members
body_closes p m (bodies.Entry e) = in_epoch p m (entries_transition p m.sender (e ∷ [])) (entries_close p m.sender (e ∷ []))
body_closes p m (bodies.Batch es) = in_epoch p m (entries_transition p m.sender es) (entries_close p m.sender es)
body_closes p m (bodies.Part part) = in_epoch p m (part_transition p m.sender part) (part_closes p m.sender part)
body_closes p m (bodies.Ack position) = in_epoch p m (ack_transition p m.sender position) (ack_closes p m.sender position)
body_closes p m (bodies.Query ticket key) = in_epoch p m (query_transition p m.sender ticket key) (query_closes p m.sender ticket key)
body_closes p m (bodies.VersionIs ticket version) = in_epoch p m (version_transition p m.sender ticket version) (version_closes p m.sender ticket version)
body_closes p m (bodies.Blank count) = in_epoch p m (blank_transition p m.sender count) (blank_closes p m.sender count)
body_closes p m (bodies.Copy position state) = in_epoch p m (copy_transition p m.sender position state) (copy_closes p m.sender position state)
body_closes p m (bodies.Floor count) = in_epoch p m (floor_transition p m.sender count) (floor_closes p m.sender count)

pub tick_closes : (p : Plain) → Closes (open_of p) (transition_with p (tick_sends p))
tick_closes p = silent (open_of p) p (tick_sends p) (no_ticks p) refl

pub stop_closes : (p : Plain) → Closes (open_of p) (transition_with (record p { running = false }) [])
stop_closes p = silent (open_of p) (record p { running = false }) [] tt refl

-- ---- requests

-- a request takes the next ticket
abbrev IfCloses : List ℕ → ℕ → Result Transition Refusal → Type 0
IfCloses o last (Ok t) = Closes (o ++ (last + 1) ∷ []) t
IfCloses o last (Err e) = ⊤

answered : (p : Plain) (answer : Answer) (sends : List Out) → NoAnswer sends → Closes (open_of p ++ (p.last_ticket + 1) ∷ []) (answered_transition p answer sends)
unfolding given_in
answered p answer sends a = record {
  at = λ k.
      let none : times k (given_in sends) ≡ 0 = ap (times k) (none_given (λ a b c. ⊤) (λ a b c. ⊤) sends a) ∙ times_nil k in
      omega (arith, none, times_cons k (p.last_ticket + 1) (given_in sends), times_append k (open_of p) ((p.last_ticket + 1) ∷ []), times_cons k (p.last_ticket + 1) [], times_nil k);
}

-- one more ticket waits
waiting : (p q : Plain) (sends : List Out) → NoAnswer sends → ((k : ℕ) → times k (open_of q) ≡ times k (open_of p ++ (p.last_ticket + 1) ∷ [])) → Closes (open_of p ++ (p.last_ticket + 1) ∷ []) (accepted_transition q sends)
waiting p q sends a same = record {
  at = λ k.
      let none : times k (given_in sends) ≡ 0 = ap (times k) (none_given (λ a b c. ⊤) (λ a b c. ⊤) sends a) ∙ times_nil k in
      omega (arith, none, same k);
}

reply_closes : (p : Plain) (position : ℕ) (reply : Reply) (sends : List Out) → NoAnswer sends → IfCloses (open_of p) p.last_ticket (reply_transition p position reply sends)
unfolding reply_transition
reply_closes p position reply sends a =
    let u : WaitingUpdate = record { ticket = p.last_ticket + 1; position = position; reply = reply } in
    let q : Plain = record p { waiting_updates = p.waiting_updates ++ u ∷ [] } in
    let rest : Result Transition Refusal = cond (is_full p) (Err refusals.PendingFull) (Ok (accepted_transition q sends)) in
    let f : WaitingUpdate → ℕ = λ u. u.ticket in
    let us : List ℕ = update_tickets p.waiting_updates in
    let rs : List ℕ = read_tickets p.waiting_reads in
    let new : List ℕ = (p.last_ticket + 1) ∷ [] in
    cond_both (nat_le position p.past.acknowledged) (Ok (answered_transition p (answers.Update reply) sends)) rest (λ (r : Result Transition Refusal). IfCloses (open_of p) p.last_ticket r)
    (λ e. answered p (answers.Update reply) sends a)
    (λ e. cond_both (is_full p) (Err refusals.PendingFull) (Ok (accepted_transition q sends)) (λ (r : Result Transition Refusal). IfCloses (open_of p) p.last_ticket r)
    (λ f. tt)
    (λ g. waiting p q sends a
    (λ k.
    let one : times k (update_tickets (p.waiting_updates ++ u ∷ [])) ≡ times k (us ++ new) = ap (times k) (map-append f p.waiting_updates (u ∷ [])) in
    omega (arith, one, times_append k us new, times_append k (update_tickets (p.waiting_updates ++ u ∷ [])) rs, times_append k us rs, times_append k (us ++ rs) new))))

replies_after : (p : Plain) (position : ℕ) (reply : Reply) (sends : List Out) → NoAnswer sends → IfCloses (open_of p) p.last_ticket (reply_transition (committed_if_last p) position reply sends)
replies_after p position reply sends a =
    cond_both (is_last p) (acknowledging p (length_of p)) p (λ (q : Plain). IfCloses (open_of p) p.last_ticket (reply_transition q position reply sends))
    (λ e. reply_closes (acknowledging p (length_of p)) position reply sends a)
    (λ e. reply_closes p position reply sends a)

update_closes : (p : Plain) (u : Update) (r : Option Reply) → IfCloses (open_of p) p.last_ticket (update_transition p u r)
unfolding update_transition
update_closes p u (Some reply) = replies_after p (position_of p u.client) reply [] tt
update_closes p u None =
    let e : Entry = entry_of p u (eval (newest p).objects u.command) in
    cond_both (length_of p == greatest || some_used_up (newest p).objects (objects_named u.command)) (Err refusals.Exhausted) (new_update_transition p e) (λ (r : Result Transition Refusal). IfCloses (open_of p) p.last_ticket r)
    (λ f. tt)
    (λ f. replies_after (with_entry p e) e.position e.reply (to_neighbour (successor p) (λ to. send_all p to (entry_bodies (e ∷ [])))) (no_neighbour p (successor p) (entry_bodies (e ∷ []))))

read_closes : (p : Plain) (mode : ReadMode) (key : List ℕ) → IfCloses (open_of p) p.last_ticket (read_transition p mode key)
unfolding read_transition waiting_read_transition
read_closes p Eventual key = answered p (read_answer (newest_object p key)) [] tt
read_closes p (Bounded k) key = answered p (read_answer (object_within p key ((clean_object p key).0 + k))) [] tt
read_closes p Strong key =
    let r : WaitingRead = record { ticket = p.last_ticket + 1; key = key } in
    let q : Plain = record p { waiting_reads = p.waiting_reads ++ r ∷ [] } in
    let os : List Out = send p (last_of p.members) (bodies.Query (p.last_ticket + 1) key) ∷ [] in
    let rest : Result Transition Refusal = cond (is_full p) (Err refusals.PendingFull) (Ok (accepted_transition q os)) in
    let f : WaitingRead → ℕ = λ r. r.ticket in
    let us : List ℕ = update_tickets p.waiting_updates in
    let rs : List ℕ = read_tickets p.waiting_reads in
    let new : List ℕ = (p.last_ticket + 1) ∷ [] in
    cond_both (is_clean p key) (Ok (answered_transition p (read_answer (newest_object p key)) [])) rest (λ (r : Result Transition Refusal). IfCloses (open_of p) p.last_ticket r)
    (λ e. answered p (read_answer (newest_object p key)) [] tt)
    (λ e. cond_both (is_full p) (Err refusals.PendingFull) (Ok (accepted_transition q os)) (λ (r : Result Transition Refusal). IfCloses (open_of p) p.last_ticket r)
    (λ f. tt)
    (λ g. waiting p q os (no_sends p (last_of p.members) (bodies.Query (p.last_ticket + 1) key ∷ []))
    (λ k.
    let one : times k (read_tickets (p.waiting_reads ++ r ∷ [])) ≡ times k (rs ++ new) = ap (times k) (map-append f p.waiting_reads (r ∷ [])) in
    omega (arith, one, times_append k rs new, times_append k us (read_tickets (p.waiting_reads ++ r ∷ [])), times_append k us rs, times_append k (us ++ rs) new))))

if_refused : (p : Plain) (b : Bool) (e : Refusal) (r : Result Transition Refusal) → IfCloses (open_of p) p.last_ticket r → IfCloses (open_of p) p.last_ticket (cond b (Err e) r)
if_refused p b e r a = cond_both b (Err e) r (λ (r : Result Transition Refusal). IfCloses (open_of p) p.last_ticket r) (λ f. tt) (λ f. a)

accepted_ask : (p : Plain) (ask : Ask) → IfCloses (open_of p) p.last_ticket (accepted_ask_transition p ask)
accepted_ask p (asks.Update u) =
    if_refused p (not (is_first p)) (refusals.NotHead (first_of p.members)) (cond (p.last_ticket == greatest) (Err refusals.Exhausted) (update_transition p u (said (newest p) u.client u.number)))
    (if_refused p (p.last_ticket == greatest) refusals.Exhausted (update_transition p u (said (newest p) u.client u.number)) (update_closes p u (said (newest p) u.client u.number)))
accepted_ask p (asks.Read mode object) = if_refused p (p.last_ticket == greatest) refusals.Exhausted (read_transition p mode object.key) (read_closes p mode object.key)

pub ask_closes : (p : Plain) (ask : Ask) (t : Transition) → ask_transition p ask ≡ Ok t → Closes (open_of p ++ (p.last_ticket + 1) ∷ []) t
unfolding ask_transition
ask_closes p ask t h =
    let all : IfCloses (open_of p) p.last_ticket (ask_transition p ask) =
    if_refused p (not p.ready) refusals.NotReady (cond (not (all_of_chain p.name.chain (asked_objects ask))) (Err refusals.TwoChains) (accepted_ask_transition p ask))
    (if_refused p (not (all_of_chain p.name.chain (asked_objects ask))) refusals.TwoChains (accepted_ask_transition p ask) (accepted_ask p ask)) in
    let P : Result Transition Refusal → Type 0 = λ r. IfCloses (open_of p) p.last_ticket r in
    subst P h all
