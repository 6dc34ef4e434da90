-- A waiting update waits for more than its node knows to be committed: line by line of a node's
-- step.
use Rattle.std.proofs.Common.{◌≡◌, ℕ, ◌+◌, ◌<◌, ◌≤◌, ◌==◌, nat_le, nat_lt, Bool, true, false, not, cond, ◌&&◌, ◌||◌, List, [], ◌∷◌, ◌++◌, is_some, Option, Some, None, Result, Ok, Err, refl, ap, sym, subst, ◌∙◌, arith, length-append}
use Rattle.std.specs.List.{AllByRecursion}
use Rattle.std.proofs.lemmas.Bool.{cond_both, and_from, and_parts, both_ways, leb-false, ltb-true, not-false, or_parts}
use Rattle.craq_names.specs.Limits.{greatest}
use Rattle.craq_names.specs.declared.refusal.Refusal.{Refusal}
use Rattle.craq_names.specs.declared.refusal.Refusal.TheVariants as refusals
use Rattle.craq_names.specs.declared.name.ObjectId.{ObjectId}
use Rattle.craq_commands.specs.declared.command.Update.{Update}
use Rattle.craq_commands.specs.declared.entry.Entry.{Entry}
use Rattle.craq_commands.specs.declared.reply.Reply.{Reply}
use Rattle.craq_commands.specs.declared.read_mode.ReadMode.{ReadMode}
use Rattle.craq_commands.specs.declared.read_mode.ReadMode.TheVariants.{Strong, Eventual, Bounded}
use Rattle.craq_commands.specs.declared.state.State.{State}
use Rattle.craq_commands.specs.SingleCopy.{said}
use Rattle.craq_commands.specs.Evaluation.{objects_named, all_of_chain, some_used_up}
use Rattle.craq_model.specs.declared.message.Body.{Body}
use Rattle.craq_model.specs.declared.message.Body.TheVariants as bodies
use Rattle.craq_model.specs.declared.message.LinkMessage.{LinkMessage}
use Rattle.craq_model.specs.declared.ask.Ask.TheVariants as asks
use Rattle.craq_model.specs.declared.ask.Answer.TheVariants as answers
use Rattle.craq_model.specs.declared.ask.Event.{Event}
use Rattle.craq_model.specs.declared.ask.Event.TheVariants as events
use Rattle.craq_model.specs.declared.step.Out.{Out}
use Rattle.craq_model.specs.declared.step.Why.{Why}
use Rattle.craq_model.specs.declared.step.Why.TheVariants.{OtherEpoch, NotNeighbour, OutOfOrder, AlreadyHave, NotReadyHere, TooFar}
use Rattle.craq_model.specs.declared.waiting.WaitingUpdate.{WaitingUpdate}
use Rattle.craq_model.specs.declared.waiting.WaitingRead.{WaitingRead}
use Rattle.craq_names.specs.Maps.{at_number}
use Rattle.craq_names.proofs.Lists.{all_append}
use Rattle.craq_model.specs.declared.gathering.Gathering.{Gathering}
use Rattle.craq_model.specs.declared.message.StatePart.{StatePart}
use Rattle.craq_model.specs.Parts.{gathered_position, gathering_for, is_in_order, with_part, is_whole, joined_state}
use Rattle.craq_model.specs.Members.{is_member, is_id, first_of, last_of}
use Rattle.craq_model.specs.Plain.{Plain, id_of, successor, predecessor, is_first, is_last, is_tail, length_of, newest, newest_object, position_of, with_entries, acknowledging}
use Rattle.craq_model.specs.Sends.{send, send_all, to_neighbour, entry_bodies}
use Rattle.craq_model.specs.Settle.{Transition, transition_with, transition_ignoring, all_committed, is_reached, settling_transition, without_reached, readiness_transition, read_answer}
use Rattle.craq_model.specs.Asks.{accepted_transition, answered_transition, is_full, is_clean, with_entry, committed_if_last, reply_transition, new_update_transition, update_transition, waiting_read_transition, read_transition, accepted_ask_transition, ask_transition}
use Rattle.craq_model.specs.Deliveries.{config_transition, are_applicable, forwarding_transition, taken_entries_transition, first_position, final_position, entries_above, entries_transition, later_updates, acknowledgement_transition, ack_transition, query_transition, reported_version_transition, version_transition, read_with, blank_transition, with_copy, copy_transition, gathered_transition, gathering_transition, is_outdated, part_transition, floor_transition, transition_in_epoch, body_transition}
use Rattle.craq_model.specs.Node.{event_transition}
use Rattle.craq_refinement.specs.Follows.{IsPlaced}
use Rattle.craq_refinement.proofs.Updates.{refused, transition_same}
use Rattle.craq_updates.proofs.AtNodes.{for_node, tick_same, stop_same}
use Rattle.craq_updates.proofs.EachMove.{entry_for}
use Rattle.craq_strong_answers.proofs.Gives.{all_passing}
use Rattle.craq_strong_answers.proofs.Kept.{IsNewest, newest_position}

-- each of these updates waits for more than this number
abbrev pub AllAbove : ℕ → List WaitingUpdate → Type 0
AllAbove count us = AllByRecursion (λ (u : WaitingUpdate). count < u.position) us

-- a node's updates wait for more than it knows to be committed; at a tail, or if the node is not
-- ready, none waits
pub record WaitAbove (p : Plain) : Type 0 where
  pub above : AllAbove p.past.acknowledged p.waiting_updates
  pub tail : is_tail p ≡ true → p.waiting_updates ≡ []
  pub unready : p.ready ≡ false → p.waiting_updates ≡ []

pub none_waits : (p : Plain) → p.waiting_updates ≡ [] → WaitAbove p
none_waits p none = let P : List WaitingUpdate → Type 0 = λ l. AllAbove p.past.acknowledged l in record { above = subst P (sym none) tt; tail = λ e. none; unready = λ e. none }

-- a node keeps the property if its waiting updates, its commit index, its place as tail and its readiness are unchanged
like : (p q : Plain) → WaitAbove p → q.past.acknowledged ≡ p.past.acknowledged → q.waiting_updates ≡ p.waiting_updates → is_tail q ≡ is_tail p → q.ready ≡ p.ready → WaitAbove q
like p q w a u t r =
    let P : ℕ → Type 0 = λ n. AllAbove n p.waiting_updates in
    let Q : List WaitingUpdate → Type 0 = λ l. AllAbove q.past.acknowledged l in
    record { above = subst Q (sym u) (subst P (sym a) w.above); tail = λ e. u ∙ w.tail (sym t ∙ e); unready = λ e. u ∙ w.unready (sym r ∙ e) }

-- ---- settling

settles : (p : Plain) → AllAbove p.past.acknowledged p.waiting_updates → (p.ready ≡ false → p.waiting_updates ≡ []) → WaitAbove (settling_transition p).0
unfolding settling_transition
settles p above unready =
    cond_both (is_tail p) (transition_with (all_committed p) _) (transition_with p _) (λ (t : Transition). WaitAbove t.0)
    (λ e. none_waits (all_committed p) refl)
    (λ e. record { above = above; tail = λ t. absurd (both_ways (is_tail p) e t); unready = unready })

waits_on : (p : Plain) → WaitAbove p → WaitAbove (without_reached p)
unfolding without_reached
waits_on p w =
    let q : Plain = record p { gathering = None } in
    cond_both (nat_le (gathered_position p.gathering) (length_of p)) q p (λ (x : Plain). WaitAbove x) (λ e. like p q w refl refl refl refl) (λ e. w)

becomes : (p : Plain) → p.waiting_updates ≡ [] → WaitAbove (readiness_transition p).0
unfolding readiness_transition
becomes p none =
    let q : Plain = record p { ready = true; gathering = None } in
    let w : WaitAbove q = none_waits q none in
    cond_both (not p.ready && is_reached p.floor (length_of p)) (settling_transition q) (transition_with (without_reached p) []) (λ (t : Transition). WaitAbove t.0) (λ e. settles q w.above w.unready) (λ e. waits_on p (none_waits p none))

-- ---- messages

-- a test by which a message is ignored
guard : (p : Plain) → WaitAbove p → (b : Bool) (why : Why) (t : Transition) → (b ≡ false → WaitAbove t.0) → WaitAbove (cond b (transition_ignoring p why) t).0
guard p w b why t go = cond_both b (transition_ignoring p why) t (λ (t : Transition). WaitAbove t.0) (λ e. w) go

config_above : (p : Plain) → WaitAbove p → (epoch : ℕ) (members : List ℕ) → WaitAbove (config_transition p epoch members).0
unfolding config_transition
config_above p w epoch members =
    let q : Plain = record p { epoch = epoch; members = members; floor = None; gathering = None } in
    guard p w (nat_le epoch p.epoch) OtherEpoch (cond (not (is_member members (id_of p))) (transition_ignoring p NotNeighbour) (settling_transition q))
    (λ e. guard p w (not (is_member members (id_of p))) NotNeighbour (settling_transition q) (λ f. settles q w.above w.unready))

forwards : (p : Plain) → WaitAbove p → (es : List Entry) → WaitAbove (forwarding_transition p es).0
unfolding forwarding_transition
forwards p w es =
    let q : Plain = acknowledging p (length_of p) in
    cond_both (is_tail p) (transition_with q _) (transition_with p _) (λ (t : Transition). WaitAbove t.0) (λ t. none_waits q (w.tail t)) (λ t. w)

entries_above_all : (p : Plain) → WaitAbove p → (sender : ℕ) (es : List Entry) → WaitAbove (entries_transition p sender es).0
unfolding entries_transition
entries_above_all p w sender es =
    let new : List Entry = entries_above (length_of p) es in
    let q : Plain = with_entries p new in
    let last : Transition = taken_entries_transition q new in
    let third : Transition = cond (are_applicable (newest p) new) last (transition_ignoring p TooFar) in
    let second : Transition = cond (nat_lt (length_of p + 1) (first_position es)) (transition_ignoring p OutOfOrder) third in
    let first : Transition = cond (nat_le (final_position es) (length_of p)) (transition_ignoring p AlreadyHave) second in
    guard p w (not (is_id (predecessor p) sender)) NotNeighbour first
    (λ a. guard p w (nat_le (final_position es) (length_of p)) AlreadyHave second
    (λ b. guard p w (nat_lt (length_of p + 1) (first_position es)) OutOfOrder third
    (λ d. cond_both (are_applicable (newest p) new) last (transition_ignoring p TooFar) (λ (t : Transition). WaitAbove t.0)
    (λ g. cond_both p.ready (forwarding_transition q new) (readiness_transition q) (λ (t : Transition). WaitAbove t.0)
    (λ r. forwards q (like p q w refl refl refl refl) new) (λ r. becomes q (w.unready r)))
    (λ g. w))))

acknowledges : (p : Plain) → WaitAbove p → (position : ℕ) → WaitAbove (acknowledgement_transition p position).0
unfolding acknowledgement_transition later_updates
acknowledges p w position =
    let none : p.waiting_updates ≡ [] → later_updates position p.waiting_updates ≡ [] = λ e. ap (later_updates position) e in
    record {
      above = all_passing (λ (u : WaitingUpdate). p.past.acknowledged < u.position) (λ (u : WaitingUpdate). position < u.position) (λ (u : WaitingUpdate). nat_lt position u.position) p.waiting_updates (λ u h e. ltb-true position u.position e) w.above;
      tail = λ e. none (w.tail e);
      unready = λ e. none (w.unready e);
    }

ack_above : (p : Plain) → WaitAbove p → (sender position : ℕ) → WaitAbove (ack_transition p sender position).0
unfolding ack_transition
ack_above p w sender position =
    let last : Transition = acknowledgement_transition p position in
    let third : Transition = cond (nat_lt (length_of p) position) (transition_ignoring p TooFar) last in
    let second : Transition = cond (nat_le position p.past.acknowledged) (transition_ignoring p AlreadyHave) third in
    let first : Transition = cond (not p.ready) (transition_ignoring p NotReadyHere) second in
    guard p w (not (is_id (successor p) sender)) NotNeighbour first
    (λ a. guard p w (not p.ready) NotReadyHere second
    (λ b. guard p w (nat_le position p.past.acknowledged) AlreadyHave third
    (λ d. guard p w (nat_lt (length_of p) position) TooFar last
    (λ g. acknowledges p w position))))

query_above : (p : Plain) → WaitAbove p → (sender ticket : ℕ) (key : List ℕ) → WaitAbove (query_transition p sender ticket key).0
unfolding query_transition
query_above p w sender ticket key =
    guard p w ((sender == id_of p) || not (is_member p.members sender)) NotNeighbour (cond (not (is_tail p)) (transition_ignoring p NotReadyHere) (transition_with p _))
    (λ e. guard p w (not (is_tail p)) NotReadyHere (transition_with p _) (λ f. w))

reported_above : (p : Plain) → WaitAbove p → (version : ℕ) (o : Option WaitingRead) → WaitAbove (reported_version_transition p version o).0
unfolding reported_version_transition
reported_above p w version None = w
reported_above p w version (Some r) =
    guard p w (nat_lt (newest_object p r.key).0 version) TooFar (transition_with (record p { waiting_reads = _ }) _) (λ e. like p (record p { waiting_reads = _ }) w refl refl refl refl)

version_above : (p : Plain) → WaitAbove p → (sender ticket version : ℕ) → WaitAbove (version_transition p sender ticket version).0
unfolding version_transition
version_above p w sender ticket version =
    guard p w (not (sender == last_of p.members)) NotNeighbour (reported_version_transition p version (read_with ticket p.waiting_reads)) (λ e. reported_above p w version (read_with ticket p.waiting_reads))

blank_above : (p : Plain) → WaitAbove p → (sender count : ℕ) → WaitAbove (blank_transition p sender count).0
unfolding blank_transition
blank_above p w sender count =
    guard p w (not (is_id (successor p) sender)) NotNeighbour (cond (not p.ready) (transition_ignoring p NotReadyHere) (transition_with p _))
    (λ e. guard p w (not p.ready) NotReadyHere (transition_with p _) (λ f. w))

copy_above : (p : Plain) → WaitAbove p → (sender position : ℕ) (state : State) → WaitAbove (copy_transition p sender position state).0
unfolding copy_transition
copy_above p w sender position state =
    let last : Transition = readiness_transition (with_copy p position state) in
    guard p w (not (is_id (predecessor p) sender)) NotNeighbour (cond (p.ready || nat_le position (length_of p)) (transition_ignoring p AlreadyHave) last)
    (λ a. guard p w (p.ready || nat_le position (length_of p)) AlreadyHave last
    (λ b. becomes (with_copy p position state) (w.unready (or_parts p.ready (nat_le position (length_of p)) b).0)))

gathered_above : (p : Plain) → WaitAbove p → p.ready ≡ false → (g : Gathering) → WaitAbove (gathered_transition p g).0
gathered_above p w r g =
    let q : Plain = with_copy p g.position (joined_state g.parts) in
    let h : Plain = record p { gathering = Some g } in
    cond_both (is_whole g) (readiness_transition q) (transition_with h []) (λ (t : Transition). WaitAbove t.0) (λ e. becomes q (w.unready r)) (λ e. like p h w refl refl refl refl)

part_above : (p : Plain) → WaitAbove p → (sender : ℕ) (part : StatePart) → WaitAbove (part_transition p sender part).0
unfolding part_transition
part_above p w sender part =
    let g : Gathering = gathering_for part p.gathering in
    let last : Transition = gathered_transition p (with_part g part) in
    let fourth : Transition = cond (not (is_in_order g part)) (transition_ignoring p TooFar) last in
    let third : Transition = cond (is_some (at_number g.parts part.number)) (transition_ignoring p AlreadyHave) fourth in
    let second : Transition = gathering_transition p g part in
    let first : Transition = cond (p.ready || is_outdated p part) (transition_ignoring p AlreadyHave) second in
    guard p w (not (is_id (predecessor p) sender)) NotNeighbour first
    (λ a. guard p w (p.ready || is_outdated p part) AlreadyHave second
    (λ b. guard p w (not (part.count == g.count)) TooFar third
    (λ d. guard p w (is_some (at_number g.parts part.number)) AlreadyHave fourth
    (λ e. guard p w (not (is_in_order g part)) TooFar last (λ f. gathered_above p w (or_parts p.ready (is_outdated p part) b).0 (with_part g part))))))

floor_above : (p : Plain) → WaitAbove p → (sender count : ℕ) → WaitAbove (floor_transition p sender count).0
unfolding floor_transition
floor_above p w sender count =
    let q : Plain = record p { floor = Some count } in
    guard p w (not (is_id (predecessor p) sender)) NotNeighbour (cond p.ready (transition_ignoring p AlreadyHave) (readiness_transition q))
    (λ a. guard p w p.ready AlreadyHave (readiness_transition q) (λ b. becomes q (w.unready b)))

in_epoch : (p : Plain) → WaitAbove p → (m : LinkMessage) (t : Transition) → WaitAbove t.0 → WaitAbove (transition_in_epoch p m t).0
in_epoch p w m t go = cond_both (m.epoch == p.epoch) t (transition_ignoring p OtherEpoch) (λ (t : Transition). WaitAbove t.0) (λ e. go) (λ e. w)

body_above : (p : Plain) → WaitAbove p → (m : LinkMessage) (b : Body) → WaitAbove (body_transition p m b).0
body_above p w m (bodies.Config members) = config_above p w m.epoch members
body_above p w m (bodies.Entry e) = in_epoch p w m (entries_transition p m.sender (e ∷ [])) (entries_above_all p w m.sender (e ∷ []))
body_above p w m (bodies.Batch es) = in_epoch p w m (entries_transition p m.sender es) (entries_above_all p w m.sender es)
body_above p w m (bodies.Part part) = in_epoch p w m (part_transition p m.sender part) (part_above p w m.sender part)
body_above p w m (bodies.Ack position) = in_epoch p w m (ack_transition p m.sender position) (ack_above p w m.sender position)
body_above p w m (bodies.Query ticket key) = in_epoch p w m (query_transition p m.sender ticket key) (query_above p w m.sender ticket key)
body_above p w m (bodies.VersionIs ticket version) = in_epoch p w m (version_transition p m.sender ticket version) (version_above p w m.sender ticket version)
body_above p w m (bodies.Blank count) = in_epoch p w m (blank_transition p m.sender count) (blank_above p w m.sender count)
body_above p w m (bodies.Copy position state) = in_epoch p w m (copy_transition p m.sender position state) (copy_above p w m.sender position state)
body_above p w m (bodies.Floor count) = in_epoch p w m (floor_transition p m.sender count) (floor_above p w m.sender count)

-- ---- requests

-- a reply pending until a position: a node that is not last waits, unless it knows that the
-- position is committed
replies_not_last : (p : Plain) → WaitAbove p → p.ready ≡ true → is_last p ≡ false → (position : ℕ) (reply : Reply) (sends : List Out) (t : Transition) → reply_transition p position reply sends ≡ Ok t → WaitAbove t.0
unfolding reply_transition
replies_not_last p w ready inner position reply sends t h =
    let u : WaitingUpdate = record { ticket = p.last_ticket + 1; position = position; reply = reply } in
    let now : Transition = answered_transition p (answers.Update reply) sends in
    let q : Plain = record p { waiting_updates = p.waiting_updates ++ u ∷ [] } in
    let later : Transition = accepted_transition q sends in
    let S : Transition → Type 0 = λ t. WaitAbove t.0 in
    cond_both (nat_le position p.past.acknowledged) (Ok now) (cond (is_full p) (Err refusals.PendingFull) (Ok later)) (λ (r : Result Transition Refusal). r ≡ Ok t → WaitAbove t.0)
    (λ e k. subst S (transition_same now t (Ok now) refl k) (like p now.0 w refl refl refl refl))
    (λ e k.
    let g : (is_full p ≡ false) × (Ok later ≡ Ok t) = refused (is_full p) refusals.PendingFull (Ok later) k in
    subst S (transition_same later t (Ok later) refl g.1) (record {
      above = all_append (λ (u : WaitingUpdate). p.past.acknowledged < u.position) p.waiting_updates (u ∷ []) w.above (leb-false position p.past.acknowledged e, tt);
      tail = λ i. absurd (both_ways (is_last p) inner (and_parts p.ready (is_last p) i).1);
      unready = λ i. absurd (both_ways p.ready i ready);
    }))
    h

-- a tail knows that all is committed, and answers at once
replies_last : (p : Plain) → p.waiting_updates ≡ [] → (position : ℕ) → position ≤ p.past.acknowledged → (reply : Reply) (sends : List Out) (t : Transition) → reply_transition p position reply sends ≡ Ok t → WaitAbove t.0
unfolding reply_transition
replies_last p none position le reply sends t h =
    let now : Transition = answered_transition p (answers.Update reply) sends in
    let S : Transition → Type 0 = λ t. WaitAbove t.0 in
    cond_both (nat_le position p.past.acknowledged) (Ok now) (cond (is_full p) (Err refusals.PendingFull) _) (λ (r : Result Transition Refusal). r ≡ Ok t → WaitAbove t.0)
    (λ e k. subst S (transition_same now t (Ok now) refl k) (none_waits now.0 none))
    (λ e k. absurd (omega (arith, le, leb-false position p.past.acknowledged e)))
    h

replies : (p : Plain) → WaitAbove p → p.ready ≡ true → (position : ℕ) → position ≤ length_of p → (reply : Reply) (sends : List Out) (t : Transition) → reply_transition (committed_if_last p) position reply sends ≡ Ok t → WaitAbove t.0
replies p w ready position le reply sends t h =
    let q : Plain = acknowledging p (length_of p) in
    cond_both (is_last p) q p (λ (x : Plain). reply_transition x position reply sends ≡ Ok t → WaitAbove t.0)
    (λ e k. replies_last q (w.tail (and_from p.ready (is_last p) ready e)) position le reply sends t k)
    (λ e k. replies_not_last p w ready e position reply sends t k)
    h

update_above : (p : Plain) → WaitAbove p → IsPlaced p.past.base p.past.entries → (u : Update) (t : Transition) → ask_transition p (asks.Update u) ≡ Ok t → WaitAbove t.0
unfolding ask_transition update_transition
update_above p w placed u t k =
    let a : _ = refused (not p.ready) refusals.NotReady (cond (not (all_of_chain p.name.chain (objects_named u.command))) (Err refusals.TwoChains) (accepted_ask_transition p (asks.Update u))) k in
    let b : _ = refused (not (all_of_chain p.name.chain (objects_named u.command))) refusals.TwoChains (accepted_ask_transition p (asks.Update u)) a.1 in
    let d : _ = refused (not (is_first p)) (refusals.NotHead (first_of p.members)) (cond (p.last_ticket == greatest) (Err refusals.Exhausted) (update_transition p u (said (newest p) u.client u.number))) b.1 in
    let e : _ = refused (p.last_ticket == greatest) refusals.Exhausted (update_transition p u (said (newest p) u.client u.number)) d.1 in
    by_reply (said (newest p) u.client u.number) (not-false p.ready a.0) e.1
  where
    by_reply : (o : Option Reply) → p.ready ≡ true → update_transition p u o ≡ Ok t → WaitAbove t.0
    by_reply (Some reply) ready i =
        let n : IsNewest u.client p.past.base p.past.base p.past.entries = newest_position u.client p.past.base p.past.base p.past.entries placed (omega arith) in
        replies p w ready (position_of p u.client) n.short reply [] t i
    by_reply None ready i =
        let e : Entry = entry_for p u in
        let q : Plain = with_entry p e in
        let g : _ = refused (length_of p == greatest || some_used_up (newest p).objects (objects_named u.command)) refusals.Exhausted (new_update_transition p e) i in
        replies q (like p q w refl refl refl refl) ready e.position (omega (arith, length-append p.past.entries (e ∷ []))) e.reply (to_neighbour (successor p) (λ to. send_all p to (entry_bodies (e ∷ [])))) t g.1

reads_above : (p : Plain) → WaitAbove p → (mode : ReadMode) (key : List ℕ) (t : Transition) → read_transition p mode key ≡ Ok t → WaitAbove t.0
unfolding read_transition waiting_read_transition
reads_above p w Eventual key t k =
    let now : Transition = answered_transition p (read_answer (newest_object p key)) [] in
    let S : Transition → Type 0 = λ t. WaitAbove t.0 in
    subst S (transition_same now t (read_transition p Eventual key) refl k) (like p now.0 w refl refl refl refl)
reads_above p w (Bounded b) key t k =
    let S : Transition → Type 0 = λ t. WaitAbove t.0 in
    subst S (transition_same (answered_transition p _ []) t (read_transition p (Bounded b) key) refl k) (like p (record p { last_ticket = p.last_ticket + 1 }) w refl refl refl refl)
reads_above p w Strong key t k =
    let S : Transition → Type 0 = λ t. WaitAbove t.0 in
    let now : Transition = answered_transition p (read_answer (newest_object p key)) [] in
    let q : Plain = record p { waiting_reads = p.waiting_reads ++ (record { ticket = p.last_ticket + 1; key = key }) ∷ [] } in
    let later : Transition = accepted_transition q (send p (last_of p.members) (bodies.Query (p.last_ticket + 1) key) ∷ []) in
    cond_both (is_clean p key) (Ok now) (cond (is_full p) (Err refusals.PendingFull) (Ok later)) (λ (x : Result Transition Refusal). x ≡ Ok t → WaitAbove t.0)
    (λ e i. subst S (transition_same now t (Ok now) refl i) (like p now.0 w refl refl refl refl))
    (λ e i.
    let f : (is_full p ≡ false) × (Ok later ≡ Ok t) = refused (is_full p) refusals.PendingFull (Ok later) i in
    subst S (transition_same later t (Ok later) refl f.1) (like p later.0 w refl refl refl refl))
    k

read_above : (p : Plain) → WaitAbove p → (mode : ReadMode) (object : ObjectId) (t : Transition) → ask_transition p (asks.Read mode object) ≡ Ok t → WaitAbove t.0
unfolding ask_transition
read_above p w mode object t k =
    let here : Bool = all_of_chain p.name.chain (object ∷ []) in
    let a : _ = refused (not p.ready) refusals.NotReady (cond (not here) (Err refusals.TwoChains) (accepted_ask_transition p (asks.Read mode object))) k in
    let b : _ = refused (not here) refusals.TwoChains (accepted_ask_transition p (asks.Read mode object)) a.1 in
    let d : _ = refused (p.last_ticket == greatest) refusals.Exhausted (read_transition p mode object.key) b.1 in
    reads_above p w mode object.key t d.1

-- ---- every event at the node

pub event_above : (p : Plain) → WaitAbove p → IsPlaced p.past.base p.past.entries → (e : Event) (t : Transition) → event_transition p e ≡ Ok t → WaitAbove t.0
event_above p w placed (events.Ask (asks.Update u)) t h = update_above p w placed u t h
event_above p w placed (events.Ask (asks.Read mode object)) t h = read_above p w mode object t h
event_above p w placed (events.Deliver m) t h = let S : Transition → Type 0 = λ t. WaitAbove t.0 in subst S (for_node p m t h) (body_above p w m m.body)
event_above p w placed events.Tick t h = let S : Transition → Type 0 = λ t. WaitAbove t.0 in subst S (tick_same p t h) w
event_above p w placed events.Stop t h = let S : Transition → Type 0 = λ t. WaitAbove t.0 in subst S (stop_same p t h) (like p (record p { running = false }) w refl refl refl refl)
