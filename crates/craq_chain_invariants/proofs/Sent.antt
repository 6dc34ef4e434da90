-- A node that reports its length holds that number of entries: line by line of its step.
use Rattle.std.proofs.Common.{◌≡◌, ℕ, ◌+◌, ◌≤◌, ◌==◌, nat_le, nat_lt, max, Bool, true, not, cond, ◌&&◌, ◌||◌, List, [], ◌∷◌, ◌++◌, map, is_some, Option, Some, None, Result, Ok, Err, refl, subst, arith}
use Rattle.std.specs.Prelude.{⊤}
use Rattle.std.specs.List.{AllByRecursion}
use Rattle.std.proofs.lemmas.Bool.{cond_both}
use Rattle.craq_names.specs.declared.refusal.Refusal.TheVariants as refusals
use Rattle.craq_names.specs.declared.name.ObjectId.{ObjectId}
use Rattle.craq_commands.specs.declared.command.Update.{Update}
use Rattle.craq_commands.specs.declared.entry.Entry.{Entry}
use Rattle.craq_commands.specs.declared.reply.Reply.{Reply}
use Rattle.craq_commands.specs.declared.read_mode.ReadMode.{ReadMode}
use Rattle.craq_commands.specs.declared.read_mode.ReadMode.TheVariants.{Strong, Eventual, Bounded}
use Rattle.craq_commands.specs.declared.state.State.{State}
use Rattle.craq_commands.specs.SingleCopy.{said}
use Rattle.craq_commands.specs.Evaluation.{objects_named, all_of_chain, some_used_up}
use Rattle.craq_model.specs.declared.message.Body.{Body}
use Rattle.craq_model.specs.declared.message.Body.TheVariants as bodies
use Rattle.craq_model.specs.declared.message.LinkMessage.{LinkMessage}
use Rattle.craq_model.specs.declared.ask.Ask.TheVariants as asks
use Rattle.craq_model.specs.declared.ask.Answer.TheVariants as answers
use Rattle.craq_model.specs.declared.ask.Event.{Event}
use Rattle.craq_model.specs.declared.ask.Event.TheVariants as events
use Rattle.craq_model.specs.declared.step.Out.{Out}
use Rattle.craq_model.specs.declared.step.Out.TheVariants as outs
use Rattle.craq_model.specs.declared.step.Why.{Why}
use Rattle.craq_model.specs.declared.step.Why.TheVariants.{OtherEpoch, NotNeighbour, OutOfOrder, AlreadyHave, NotReadyHere, TooFar}
use Rattle.craq_model.specs.declared.waiting.WaitingRead.{WaitingRead}
use Rattle.craq_model.specs.declared.waiting.WaitingUpdate.{WaitingUpdate}
use Rattle.craq_names.specs.Limits.{greatest, part_limit}
use Rattle.craq_names.specs.Maps.{at_number}
use Rattle.craq_names.proofs.Lists.{all_append}
use Rattle.craq_model.specs.declared.gathering.Gathering.{Gathering}
use Rattle.craq_model.specs.declared.message.StatePart.{StatePart}
use Rattle.craq_model.specs.Parts.{item_count, parts_of, gathering_for, is_in_order, with_part, is_whole, joined_state}
use Rattle.craq_model.specs.Members.{is_member, is_id, first_of, last_of}
use Rattle.craq_model.specs.Plain.{Plain, id_of, successor, predecessor, is_first, is_last, is_tail, length_of, newest, newest_object, clean, position_of, entries_after, with_entries, acknowledging}
use Rattle.craq_model.specs.Sends.{send, send_all, to_neighbour, runs_of, run_body, entry_bodies, copy_bodies, catch_up, queries, ready_sends, unready_sends, tick_sends}
use Rattle.craq_model.specs.Settle.{Transition, Given, transition_with, transition_ignoring, all_committed, all_given, answer_outs, update_given, is_reached, settling_transition, without_reached, readiness_transition, read_answer}
use Rattle.craq_model.specs.Asks.{accepted_transition, answered_transition, is_full, is_clean, with_entry, committed_if_last, reply_transition, new_update_transition, update_transition, waiting_read_transition, read_transition, accepted_ask_transition, ask_transition}
use Rattle.craq_model.specs.Deliveries.{config_transition, are_applicable, forwarding_transition, taken_entries_transition, first_position, final_position, entries_above, entries_transition, pending_updates, acknowledgement_transition, ack_transition, query_transition, reported_version_transition, version_transition, read_with, fill_bodies, blank_transition, with_copy, copy_transition, gathered_transition, gathering_transition, is_outdated, part_transition, floor_transition, transition_in_epoch, body_transition}
use Rattle.craq_model.specs.Node.{event_transition}
use Rattle.craq_refinement.proofs.Updates.{refused, transition_same}
use Rattle.craq_updates.proofs.AtNodes.{for_node, tick_same, stop_same}
use Rattle.craq_updates.proofs.EachMove.{entry_for}

-- the length that a body reports is held
abbrev pub IsWithin : ℕ → Body → Type 0
IsWithin held (bodies.Config members) = ⊤
IsWithin held (bodies.Entry e) = ⊤
IsWithin held (bodies.Ack position) = ⊤
IsWithin held (bodies.Query ticket key) = ⊤
IsWithin held (bodies.VersionIs ticket version) = ⊤
IsWithin held (bodies.Blank count) = count ≤ held
IsWithin held (bodies.Batch es) = ⊤
IsWithin held (bodies.Copy position state) = ⊤
IsWithin held (bodies.Part part) = ⊤
IsWithin held (bodies.Floor count) = ⊤

-- the messages of the node of this id, while it holds this number of entries
abbrev pub AreWithin : ℕ → ℕ → List Out → Type 0
AreWithin id held [] = ⊤
AreWithin id held (outs.Send to m ∷ os) = ((m.sender ≡ id) × IsWithin held m.body) × AreWithin id held os
AreWithin id held (outs.Answer ticket answer ∷ os) = AreWithin id held os

both : (id held : ℕ) (os ps : List Out) → AreWithin id held os → AreWithin id held ps → AreWithin id held (os ++ ps)
both id held [] ps a b = b
both id held (outs.Send to m ∷ os) ps a b = (a.0, both id held os ps a.1 b)
both id held (outs.Answer ticket answer ∷ os) ps a b = both id held os ps a b

given : (id held : ℕ) (gs : List Given) → AreWithin id held (answer_outs gs)
given id held [] = tt
given id held (g ∷ gs) = given id held gs

all_sent : (p : Plain) (held to : ℕ) (bs : List Body) → AllByRecursion (IsWithin held) bs → AreWithin (id_of p) held (send_all p to bs)
all_sent p held to [] a = tt
all_sent p held to (b ∷ bs) a = ((refl, a.0), all_sent p held to bs a.1)

neighbour : (id held : ℕ) (o : Option ℕ) (sends : ℕ → List Out) → ((to : ℕ) → AreWithin id held (sends to)) → AreWithin id held (to_neighbour o sends)
neighbour id held None sends f = tt
neighbour id held (Some to) sends f = f to

run_within : (held : ℕ) (es : List Entry) → IsWithin held (run_body es)
run_within held [] = tt
run_within held (e ∷ []) = tt
run_within held (e ∷ f ∷ es) = tt

runs_within : (held : ℕ) (runs : List (List Entry)) → AllByRecursion (IsWithin held) (map run_body runs)
runs_within held [] = tt
runs_within held (es ∷ runs) = (run_within held es, runs_within held runs)

entries_within : (held : ℕ) (es : List Entry) → AllByRecursion (IsWithin held) (entry_bodies es)
unfolding entry_bodies
entries_within held es = runs_within held (runs_of es)

parts_within : (held : ℕ) (parts : List StatePart) → AllByRecursion (IsWithin held) (map bodies.Part parts)
parts_within held [] = tt
parts_within held (part ∷ parts) = (tt, parts_within held parts)

copies_within : (held position : ℕ) (state : State) → AllByRecursion (IsWithin held) (copy_bodies position state)
unfolding copy_bodies
copies_within held position state =
    cond_both (nat_le (item_count state) part_limit) (bodies.Copy position state ∷ []) (map bodies.Part (parts_of position state)) (λ (bs : List Body). AllByRecursion (IsWithin held) bs)
    (λ e. (tt, tt))
    (λ e. parts_within held (parts_of position state))

catch_up_within : (p : Plain) (held position : ℕ) → AllByRecursion (IsWithin held) (catch_up p position)
unfolding catch_up
catch_up_within p held position = all_append (IsWithin held) (entry_bodies (entries_after p position)) (bodies.Floor (length_of p) ∷ []) (entries_within held (entries_after p position)) (tt, tt)

queries_within : (p : Plain) (held : ℕ) (rs : List WaitingRead) → AreWithin (id_of p) held (map (λ (r : WaitingRead). send p (last_of p.members) (bodies.Query r.ticket r.key)) rs)
queries_within p held [] = tt
queries_within p held (r ∷ rs) = ((refl, tt), queries_within p held rs)

ready_within : (p : Plain) (held : ℕ) → AreWithin (id_of p) held (ready_sends p)
unfolding ready_sends
ready_within p held =
    let id : ℕ = id_of p in
    let first : List Out = to_neighbour (successor p) (λ to. send_all p to (catch_up p p.past.acknowledged)) in
    let second : List Out = to_neighbour (predecessor p) (λ to. send p to (bodies.Ack p.past.acknowledged) ∷ []) in
    both id held (first ++ second) (cond (is_last p) [] (queries p))
    (both id held first second
    (neighbour id held (successor p) (λ to. send_all p to (catch_up p p.past.acknowledged)) (λ to. all_sent p held to (catch_up p p.past.acknowledged) (catch_up_within p held p.past.acknowledged)))
    (neighbour id held (predecessor p) (λ to. send p to (bodies.Ack p.past.acknowledged) ∷ []) (λ to. ((refl, tt), tt))))
    (cond_both (is_last p) [] (queries p) (λ (os : List Out). AreWithin id held os) (λ e. tt) (λ e. queries_within p held p.waiting_reads))

unready_within : (p : Plain) → AreWithin (id_of p) (length_of p) (unready_sends p)
unfolding unready_sends
unready_within p = neighbour (id_of p) (length_of p) (predecessor p) (λ to. send p to (bodies.Blank (length_of p)) ∷ []) (λ to. ((refl, omega arith), tt))

tick_within : (p : Plain) → AreWithin (id_of p) (length_of p) (tick_sends p)
unfolding tick_sends
tick_within p =
    cond_both (p.epoch == 0) [] (cond p.ready (ready_sends p) (unready_sends p)) (λ (os : List Out). AreWithin (id_of p) (length_of p) os)
    (λ e. tt)
    (λ e. cond_both p.ready (ready_sends p) (unready_sends p) (λ (os : List Out). AreWithin (id_of p) (length_of p) os) (λ r. ready_within p (length_of p)) (λ r. unready_within p))

-- ---- messages

-- a step reports no more than what the node holds after it
abbrev pub SaysHeld : Transition → Type 0
SaysHeld t = AreWithin (id_of t.0) (length_of t.0) t.1.outs

settles : (p : Plain) → SaysHeld (settling_transition p)
unfolding settling_transition
settles p =
    let q : Plain = all_committed p in
    cond_both (is_tail p) (transition_with q (answer_outs (all_given p) ++ tick_sends q)) (transition_with p (tick_sends p)) SaysHeld
    (λ e. both (id_of q) (length_of q) (answer_outs (all_given p)) (tick_sends q) (given (id_of q) (length_of q) (all_given p)) (tick_within q))
    (λ e. tick_within p)

becomes : (p : Plain) → SaysHeld (readiness_transition p)
unfolding readiness_transition
becomes p =
    let q : Plain = record p { ready = true; gathering = None } in
    cond_both (not p.ready && is_reached p.floor (length_of p)) (settling_transition q) (transition_with (without_reached p) []) SaysHeld (λ e. settles q) (λ e. tt)

guard : (p : Plain) (b : Bool) (why : Why) (t : Transition) → SaysHeld t → SaysHeld (cond b (transition_ignoring p why) t)
guard p b why t go = cond_both b (transition_ignoring p why) t SaysHeld (λ e. tt) (λ e. go)

config_held : (p : Plain) (epoch : ℕ) (members : List ℕ) → SaysHeld (config_transition p epoch members)
unfolding config_transition
config_held p epoch members =
    let q : Plain = record p { epoch = epoch; members = members; floor = None; gathering = None } in
    guard p (nat_le epoch p.epoch) OtherEpoch (cond (not (is_member members (id_of p))) (transition_ignoring p NotNeighbour) (settling_transition q)) (guard p (not (is_member members (id_of p))) NotNeighbour (settling_transition q) (settles q))

forwards : (p : Plain) (es : List Entry) → SaysHeld (forwarding_transition p es)
unfolding forwarding_transition
forwards p es =
    let id : ℕ = id_of p in
    let held : ℕ = length_of p in
    let acks : ℕ → List Out = λ to. send p to (bodies.Ack (length_of p)) ∷ [] in
    let entries : ℕ → List Out = λ to. send_all p to (entry_bodies es) in
    cond_both (is_tail p) (transition_with (acknowledging p (length_of p)) (to_neighbour (predecessor p) acks)) (transition_with p (to_neighbour (successor p) entries)) SaysHeld
    (λ t. neighbour id held (predecessor p) acks (λ to. ((refl, tt), tt)))
    (λ t. neighbour id held (successor p) entries (λ to. all_sent p held to (entry_bodies es) (entries_within held es)))

entries_held : (p : Plain) (sender : ℕ) (es : List Entry) → SaysHeld (entries_transition p sender es)
unfolding entries_transition
entries_held p sender es =
    let new : List Entry = entries_above (length_of p) es in
    let q : Plain = with_entries p new in
    let last : Transition = taken_entries_transition q new in
    let third : Transition = cond (are_applicable (newest p) new) last (transition_ignoring p TooFar) in
    let second : Transition = cond (nat_lt (length_of p + 1) (first_position es)) (transition_ignoring p OutOfOrder) third in
    let first : Transition = cond (nat_le (final_position es) (length_of p)) (transition_ignoring p AlreadyHave) second in
    guard p (not (is_id (predecessor p) sender)) NotNeighbour first
    (guard p (nat_le (final_position es) (length_of p)) AlreadyHave second
    (guard p (nat_lt (length_of p + 1) (first_position es)) OutOfOrder third
    (cond_both (are_applicable (newest p) new) last (transition_ignoring p TooFar) SaysHeld
    (λ g. cond_both p.ready (forwarding_transition q new) (readiness_transition q) SaysHeld (λ r. forwards q new) (λ r. becomes q))
    (λ g. tt))))

acknowledges : (p : Plain) (position : ℕ) → SaysHeld (acknowledgement_transition p position)
unfolding acknowledgement_transition
acknowledges p position =
    let id : ℕ = id_of p in
    let held : ℕ = length_of p in
    let gs : List Given = map update_given (pending_updates position p.waiting_updates) in
    let acks : ℕ → List Out = λ to. send p to (bodies.Ack position) ∷ [] in
    both id held (answer_outs gs) (to_neighbour (predecessor p) acks) (given id held gs) (neighbour id held (predecessor p) acks (λ to. ((refl, tt), tt)))

ack_held : (p : Plain) (sender position : ℕ) → SaysHeld (ack_transition p sender position)
unfolding ack_transition
ack_held p sender position =
    let last : Transition = acknowledgement_transition p position in
    let third : Transition = cond (nat_lt (length_of p) position) (transition_ignoring p TooFar) last in
    let second : Transition = cond (nat_le position p.past.acknowledged) (transition_ignoring p AlreadyHave) third in
    let first : Transition = cond (not p.ready) (transition_ignoring p NotReadyHere) second in
    guard p (not (is_id (successor p) sender)) NotNeighbour first
    (guard p (not p.ready) NotReadyHere second (guard p (nat_le position p.past.acknowledged) AlreadyHave third (guard p (nat_lt (length_of p) position) TooFar last (acknowledges p position))))

query_held : (p : Plain) (sender ticket : ℕ) (key : List ℕ) → SaysHeld (query_transition p sender ticket key)
unfolding query_transition
query_held p sender ticket key =
    let last : Transition = transition_with p (send p sender (bodies.VersionIs ticket (newest_object p key).0) ∷ []) in
    guard p ((sender == id_of p) || not (is_member p.members sender)) NotNeighbour (cond (not (is_tail p)) (transition_ignoring p NotReadyHere) last) (guard p (not (is_tail p)) NotReadyHere last ((refl, tt), tt))

reported_held : (p : Plain) (version : ℕ) (o : Option WaitingRead) → SaysHeld (reported_version_transition p version o)
unfolding reported_version_transition
reported_held p version None = tt
reported_held p version (Some r) = guard p (nat_lt (newest_object p r.key).0 version) TooFar (transition_with _ (outs.Answer _ _ ∷ [])) tt

version_held : (p : Plain) (sender ticket version : ℕ) → SaysHeld (version_transition p sender ticket version)
unfolding version_transition
version_held p sender ticket version =
    guard p (not (sender == last_of p.members)) NotNeighbour (reported_version_transition p version (read_with ticket p.waiting_reads)) (reported_held p version (read_with ticket p.waiting_reads))

fill_within : (p : Plain) (held count : ℕ) → AllByRecursion (IsWithin held) (fill_bodies p count)
unfolding fill_bodies
fill_within p held count =
    let copies : List Body = copy_bodies p.past.acknowledged (clean p) in
    all_append (IsWithin held) (cond (nat_lt count p.past.acknowledged) copies []) (catch_up p (max count p.past.acknowledged))
    (cond_both (nat_lt count p.past.acknowledged) copies [] (λ (l : List Body). AllByRecursion (IsWithin held) l) (λ e. copies_within held p.past.acknowledged (clean p)) (λ e. tt))
    (catch_up_within p held (max count p.past.acknowledged))

blank_held : (p : Plain) (sender count : ℕ) → SaysHeld (blank_transition p sender count)
unfolding blank_transition
blank_held p sender count =
    let last : Transition = transition_with p (send_all p sender (fill_bodies p count)) in
    guard p (not (is_id (successor p) sender)) NotNeighbour (cond (not p.ready) (transition_ignoring p NotReadyHere) last)
    (guard p (not p.ready) NotReadyHere last (all_sent p (length_of p) sender (fill_bodies p count) (fill_within p (length_of p) count)))

copy_held : (p : Plain) (sender position : ℕ) (state : State) → SaysHeld (copy_transition p sender position state)
unfolding copy_transition
copy_held p sender position state =
    let last : Transition = readiness_transition (with_copy p position state) in
    guard p (not (is_id (predecessor p) sender)) NotNeighbour (cond (p.ready || nat_le position (length_of p)) (transition_ignoring p AlreadyHave) last)
    (guard p (p.ready || nat_le position (length_of p)) AlreadyHave last (becomes (with_copy p position state)))

gathered_held : (p : Plain) (g : Gathering) → SaysHeld (gathered_transition p g)
gathered_held p g =
    let q : Plain = with_copy p g.position (joined_state g.parts) in
    cond_both (is_whole g) (readiness_transition q) (transition_with (record p { gathering = Some g }) []) SaysHeld (λ e. becomes q) (λ e. tt)

part_held : (p : Plain) (sender : ℕ) (part : StatePart) → SaysHeld (part_transition p sender part)
unfolding part_transition
part_held p sender part =
    let g : Gathering = gathering_for part p.gathering in
    let last : Transition = gathered_transition p (with_part g part) in
    let fourth : Transition = cond (not (is_in_order g part)) (transition_ignoring p TooFar) last in
    let third : Transition = cond (is_some (at_number g.parts part.number)) (transition_ignoring p AlreadyHave) fourth in
    let second : Transition = gathering_transition p g part in
    let first : Transition = cond (p.ready || is_outdated p part) (transition_ignoring p AlreadyHave) second in
    guard p (not (is_id (predecessor p) sender)) NotNeighbour first
    (guard p (p.ready || is_outdated p part) AlreadyHave second
    (guard p (not (part.count == g.count)) TooFar third
    (guard p (is_some (at_number g.parts part.number)) AlreadyHave fourth
    (guard p (not (is_in_order g part)) TooFar last (gathered_held p (with_part g part))))))

floor_held : (p : Plain) (sender count : ℕ) → SaysHeld (floor_transition p sender count)
unfolding floor_transition
floor_held p sender count =
    let q : Plain = record p { floor = Some count } in
    guard p (not (is_id (predecessor p) sender)) NotNeighbour (cond p.ready (transition_ignoring p AlreadyHave) (readiness_transition q)) (guard p p.ready AlreadyHave (readiness_transition q) (becomes q))

in_epoch : (p : Plain) (m : LinkMessage) (t : Transition) → SaysHeld t → SaysHeld (transition_in_epoch p m t)
in_epoch p m t go = cond_both (m.epoch == p.epoch) t (transition_ignoring p OtherEpoch) SaysHeld (λ e. go) (λ e. tt)

body_held : (p : Plain) (m : LinkMessage) (b : Body) → SaysHeld (body_transition p m b)
body_held p m (bodies.Config members) = config_held p m.epoch members
body_held p m (bodies.Entry e) = in_epoch p m (entries_transition p m.sender (e ∷ [])) (entries_held p m.sender (e ∷ []))
body_held p m (bodies.Batch es) = in_epoch p m (entries_transition p m.sender es) (entries_held p m.sender es)
body_held p m (bodies.Part part) = in_epoch p m (part_transition p m.sender part) (part_held p m.sender part)
body_held p m (bodies.Ack position) = in_epoch p m (ack_transition p m.sender position) (ack_held p m.sender position)
body_held p m (bodies.Query ticket key) = in_epoch p m (query_transition p m.sender ticket key) (query_held p m.sender ticket key)
body_held p m (bodies.VersionIs ticket version) = in_epoch p m (version_transition p m.sender ticket version) (version_held p m.sender ticket version)
body_held p m (bodies.Blank count) = in_epoch p m (blank_transition p m.sender count) (blank_held p m.sender count)
body_held p m (bodies.Copy position state) = in_epoch p m (copy_transition p m.sender position state) (copy_held p m.sender position state)
body_held p m (bodies.Floor count) = in_epoch p m (floor_transition p m.sender count) (floor_held p m.sender count)

-- ---- requests

-- the messages sent with a reply report no length
reply_held : (p : Plain) (position : ℕ) (reply : Reply) (sends : List Out) (t : Transition) → ((held : ℕ) → AreWithin (id_of p) held sends) → reply_transition p position reply sends ≡ Ok t → SaysHeld t
unfolding reply_transition
reply_held p position reply sends t a h =
    let now : Transition = answered_transition p (answers.Update reply) sends in
    let u : WaitingUpdate = record { ticket = p.last_ticket + 1; position = position; reply = reply } in
    let later : Transition = accepted_transition (record p { waiting_updates = p.waiting_updates ++ u ∷ [] }) sends in
    cond_both (nat_le position p.past.acknowledged) (Ok now) (cond (is_full p) (Err refusals.PendingFull) (Ok later)) (λ (r : Result Transition _). r ≡ Ok t → SaysHeld t)
    (λ e k. subst SaysHeld (transition_same now t (Ok now) refl k) (a (length_of p)))
    (λ e k. subst SaysHeld (transition_same later t (Ok later) refl (refused (is_full p) refusals.PendingFull (Ok later) k).1) (a (length_of p)))
    h

replies_held : (p : Plain) (position : ℕ) (reply : Reply) (sends : List Out) (t : Transition) → ((held : ℕ) → AreWithin (id_of p) held sends) → reply_transition (committed_if_last p) position reply sends ≡ Ok t → SaysHeld t
replies_held p position reply sends t a h =
    cond_both (is_last p) (acknowledging p (length_of p)) p (λ (x : Plain). reply_transition x position reply sends ≡ Ok t → SaysHeld t)
    (λ e k. reply_held (acknowledging p (length_of p)) position reply sends t a k)
    (λ e k. reply_held p position reply sends t a k)
    h

update_held : (p : Plain) (u : Update) (t : Transition) → ask_transition p (asks.Update u) ≡ Ok t → SaysHeld t
unfolding ask_transition update_transition
update_held p u t k =
    let a : _ = refused (not p.ready) refusals.NotReady (cond (not (all_of_chain p.name.chain (objects_named u.command))) (Err refusals.TwoChains) (accepted_ask_transition p (asks.Update u))) k in
    let b : _ = refused (not (all_of_chain p.name.chain (objects_named u.command))) refusals.TwoChains (accepted_ask_transition p (asks.Update u)) a.1 in
    let d : _ = refused (not (is_first p)) (refusals.NotHead (first_of p.members)) (cond (p.last_ticket == greatest) (Err refusals.Exhausted) (update_transition p u (said (newest p) u.client u.number))) b.1 in
    let e : _ = refused (p.last_ticket == greatest) refusals.Exhausted (update_transition p u (said (newest p) u.client u.number)) d.1 in
    by_reply (said (newest p) u.client u.number) e.1
  where
    by_reply : (o : Option Reply) → update_transition p u o ≡ Ok t → SaysHeld t
    by_reply (Some reply) i = replies_held p (position_of p u.client) reply [] t (λ held. tt) i
    by_reply None i =
        let e : Entry = entry_for p u in
        let entries : ℕ → List Out = λ to. send_all p to (entry_bodies (e ∷ [])) in
        let g : _ = refused (length_of p == greatest || some_used_up (newest p).objects (objects_named u.command)) refusals.Exhausted (new_update_transition p e) i in
        replies_held (with_entry p e) e.position e.reply (to_neighbour (successor p) entries) t
        (λ held. neighbour (id_of p) held (successor p) entries (λ to. all_sent p held to (entry_bodies (e ∷ [])) (entries_within held (e ∷ [])))) g.1

reads_held : (p : Plain) (mode : ReadMode) (key : List ℕ) (t : Transition) → read_transition p mode key ≡ Ok t → SaysHeld t
unfolding read_transition waiting_read_transition
reads_held p Eventual key t k = subst SaysHeld (transition_same (answered_transition p (read_answer (newest_object p key)) []) t (read_transition p Eventual key) refl k) tt
reads_held p (Bounded b) key t k = subst SaysHeld (transition_same (answered_transition p _ []) t (read_transition p (Bounded b) key) refl k) tt
reads_held p Strong key t k =
    let now : Transition = answered_transition p (read_answer (newest_object p key)) [] in
    let q : Plain = record p { waiting_reads = p.waiting_reads ++ (record { ticket = p.last_ticket + 1; key = key }) ∷ [] } in
    let later : Transition = accepted_transition q (send p (last_of p.members) (bodies.Query (p.last_ticket + 1) key) ∷ []) in
    cond_both (is_clean p key) (Ok now) (cond (is_full p) (Err refusals.PendingFull) (Ok later)) (λ (x : Result Transition _). x ≡ Ok t → SaysHeld t)
    (λ e i. subst SaysHeld (transition_same now t (Ok now) refl i) tt)
    (λ e i. subst SaysHeld (transition_same later t (Ok later) refl (refused (is_full p) refusals.PendingFull (Ok later) i).1) ((refl, tt), tt))
    k

read_held : (p : Plain) (mode : ReadMode) (object : ObjectId) (t : Transition) → ask_transition p (asks.Read mode object) ≡ Ok t → SaysHeld t
unfolding ask_transition
read_held p mode object t k =
    let here : Bool = all_of_chain p.name.chain (object ∷ []) in
    let a : _ = refused (not p.ready) refusals.NotReady (cond (not here) (Err refusals.TwoChains) (accepted_ask_transition p (asks.Read mode object))) k in
    let b : _ = refused (not here) refusals.TwoChains (accepted_ask_transition p (asks.Read mode object)) a.1 in
    let d : _ = refused (p.last_ticket == greatest) refusals.Exhausted (read_transition p mode object.key) b.1 in
    reads_held p mode object.key t d.1

-- ---- every event at the node

pub event_held : (p : Plain) (e : Event) (t : Transition) → event_transition p e ≡ Ok t → SaysHeld t
event_held p (events.Ask (asks.Update u)) t h = update_held p u t h
event_held p (events.Ask (asks.Read mode object)) t h = read_held p mode object t h
event_held p (events.Deliver m) t h = subst SaysHeld (for_node p m t h) (body_held p m m.body)
event_held p events.Tick t h = subst SaysHeld (tick_same p t h) (tick_within p)
event_held p events.Stop t h = subst SaysHeld (stop_same p t h) tt
