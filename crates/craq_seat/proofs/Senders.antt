-- A node's messages are from it, to the receivers that they name.
use Rattle.std.proofs.Common.{◌≡◌, ℕ, ◌==◌, true, cond, List, [], ◌∷◌, ◌++◌, map, Option, Some, None, Result, Ok, Err, refl, subst, arith}
use Rattle.std.specs.Prelude.{⊤}
use Rattle.std.proofs.lemmas.Bool.{cond_both}
use Rattle.craq_names.specs.declared.refusal.Refusal.{Refusal}
use Rattle.craq_commands.specs.declared.command.Update.{Update}
use Rattle.craq_commands.specs.declared.entry.Entry.{Entry}
use Rattle.craq_commands.specs.declared.reply.Reply.{Reply}
use Rattle.craq_commands.specs.declared.read_mode.ReadMode.{ReadMode}
use Rattle.craq_commands.specs.declared.read_mode.ReadMode.TheVariants.{Strong, Eventual, Bounded}
use Rattle.craq_commands.specs.declared.state.State.{State}
use Rattle.craq_commands.specs.SingleCopy.{said}
use Rattle.craq_commands.specs.Evaluation.{eval}
use Rattle.craq_model.specs.declared.message.Body.{Body}
use Rattle.craq_model.specs.declared.message.Body.TheVariants as bodies
use Rattle.craq_model.specs.declared.message.LinkMessage.{LinkMessage}
use Rattle.craq_model.specs.declared.ask.Ask.{Ask}
use Rattle.craq_model.specs.declared.ask.Ask.TheVariants as asks
use Rattle.craq_model.specs.declared.ask.Event.{Event}
use Rattle.craq_model.specs.declared.ask.Event.TheVariants as events
use Rattle.craq_model.specs.declared.step.Out.{Out}
use Rattle.craq_model.specs.declared.step.Out.TheVariants as outs
use Rattle.craq_model.specs.declared.step.Step.{Step}
use Rattle.craq_model.specs.declared.waiting.WaitingRead.{WaitingRead}
use Rattle.craq_model.specs.Members.{last_of}
use Rattle.craq_model.specs.declared.gathering.Gathering.{Gathering}
use Rattle.craq_model.specs.declared.message.StatePart.{StatePart}
use Rattle.craq_model.specs.Parts.{gathering_for, with_part, joined_state}
use Rattle.craq_model.specs.Plain.{Plain, id_of, successor, predecessor, is_last, is_tail, length_of, newest, position_of, with_entries, acknowledging}
use Rattle.craq_model.specs.Sends.{send, send_all, to_neighbour, entry_bodies, catch_up, queries, ready_sends, unready_sends, tick_sends}
use Rattle.craq_model.specs.Settle.{Transition, Given, transition_with, all_committed, all_given, answer_outs, update_given, settling_transition, without_reached, readiness_transition}
use Rattle.craq_model.specs.Asks.{committed_if_last, with_entry, entry_of, reply_transition, update_transition, waiting_read_transition, read_transition, accepted_ask_transition, ask_transition}
use Rattle.craq_model.specs.Deliveries.{config_transition, forwarding_transition, taken_entries_transition, appending_transition, entries_above, entries_transition, pending_updates, acknowledgement_transition, ack_transition, query_transition, reported_version_transition, version_transition, read_with, fill_bodies, blank_transition, with_copy, copy_transition, gathered_transition, gathering_transition, part_transition, floor_transition, body_transition}
use Rattle.craq_model.specs.Node.{event_transition, within_counts, node_step}
use Rattle.craq_seat.specs.Numbered.{AreFrom}

both : (id : ℕ) (os ps : List Out) → AreFrom id os → AreFrom id ps → AreFrom id (os ++ ps)
both id [] ps a b = b
both id (outs.Send to m ∷ os) ps a b = (a.0, a.1, both id os ps a.2 b)
both id (outs.Answer ticket answer ∷ os) ps a b = both id os ps a b

given : (id : ℕ) (gs : List Given) → AreFrom id (answer_outs gs)
given id [] = tt
given id (g ∷ gs) = given id gs

all_from : (p : Plain) (to : ℕ) (bs : List Body) → AreFrom (id_of p) (send_all p to bs)
all_from p to [] = tt
all_from p to (b ∷ bs) = (refl, refl, all_from p to bs)

neighbour : (id : ℕ) (o : Option ℕ) (sends : ℕ → List Out) → ((to : ℕ) → AreFrom id (sends to)) → AreFrom id (to_neighbour o sends)
neighbour id None sends f = tt
neighbour id (Some to) sends f = f to

queries_from : (p : Plain) (rs : List WaitingRead) → AreFrom (id_of p) (map (λ (r : WaitingRead). send p (last_of p.members) (bodies.Query r.ticket r.key)) rs)
queries_from p [] = tt
queries_from p (r ∷ rs) = (refl, refl, queries_from p rs)

ready_from : (p : Plain) → AreFrom (id_of p) (ready_sends p)
unfolding ready_sends
ready_from p =
    let id : ℕ = id_of p in
    let first : List Out = to_neighbour (successor p) (λ to. send_all p to (catch_up p p.past.acknowledged)) in
    let second : List Out = to_neighbour (predecessor p) (λ to. send p to (bodies.Ack p.past.acknowledged) ∷ []) in
    both id (first ++ second) (cond (is_last p) [] (queries p))
    (both id first second
    (neighbour id (successor p) (λ to. send_all p to (catch_up p p.past.acknowledged)) (λ to. all_from p to (catch_up p p.past.acknowledged)))
    (neighbour id (predecessor p) (λ to. send p to (bodies.Ack p.past.acknowledged) ∷ []) (λ to. (refl, refl, tt))))
    (cond_both (is_last p) [] (queries p) (λ (os : List Out). AreFrom id os) (λ e. tt) (λ e. queries_from p p.waiting_reads))

unready_from : (p : Plain) → AreFrom (id_of p) (unready_sends p)
unfolding unready_sends
unready_from p = neighbour (id_of p) (predecessor p) (λ to. send p to (bodies.Blank (length_of p)) ∷ []) (λ to. (refl, refl, tt))

tick_from : (p : Plain) → AreFrom (id_of p) (tick_sends p)
unfolding tick_sends
tick_from p =
    cond_both (p.epoch == 0) [] (cond p.ready (ready_sends p) (unready_sends p)) (λ (os : List Out). AreFrom (id_of p) os)
    (λ e. tt)
    (λ e. cond_both p.ready (ready_sends p) (unready_sends p) (λ (os : List Out). AreFrom (id_of p) os) (λ r. ready_from p) (λ r. unready_from p))

-- ---- messages

abbrev pub Says : ℕ → Transition → Type 0
Says id t = AreFrom id t.1.outs

settles : (p : Plain) → Says (id_of p) (settling_transition p)
unfolding settling_transition
settles p =
    let q : Plain = all_committed p in
    cond_both (is_tail p) (transition_with q (answer_outs (all_given p) ++ tick_sends q)) (transition_with p (tick_sends p)) (Says (id_of p))
    (λ e. both (id_of q) (answer_outs (all_given p)) (tick_sends q) (given (id_of q) (all_given p)) (tick_from q))
    (λ e. tick_from p)

becomes : (p : Plain) → Says (id_of p) (readiness_transition p)
unfolding readiness_transition without_reached
becomes p = grind (arith, settles (record p { ready = true; gathering = None }))

config_says : (p : Plain) (epoch : ℕ) (members : List ℕ) → Says (id_of p) (config_transition p epoch members)
unfolding config_transition
config_says p epoch members = grind (arith, settles (record p { epoch = epoch; members = members; floor = None; gathering = None }))

forwards : (p : Plain) (es : List Entry) → Says (id_of p) (forwarding_transition p es)
unfolding forwarding_transition
forwards p es =
    let id : ℕ = id_of p in
    let acks : ℕ → List Out = λ to. send p to (bodies.Ack (length_of p)) ∷ [] in
    let entries : ℕ → List Out = λ to. send_all p to (entry_bodies es) in
    cond_both (is_tail p) (transition_with (acknowledging p (length_of p)) (to_neighbour (predecessor p) acks)) (transition_with p (to_neighbour (successor p) entries)) (Says id)
    (λ t. neighbour id (predecessor p) acks (λ to. (refl, refl, tt)))
    (λ t. neighbour id (successor p) entries (λ to. all_from p to (entry_bodies es)))

taken_says : (p : Plain) (es : List Entry) → Says (id_of p) (taken_entries_transition p es)
taken_says p es = grind (arith, forwards p es, becomes p)

appending_says : (p : Plain) (es : List Entry) → Says (id_of p) (appending_transition p es)
appending_says p es = grind (arith, taken_says (with_entries p es) es)

entries_say : (p : Plain) (sender : ℕ) (es : List Entry) → Says (id_of p) (entries_transition p sender es)
unfolding entries_transition
entries_say p sender es = grind (arith, appending_says p (entries_above (length_of p) es))

acknowledges : (p : Plain) (position : ℕ) → Says (id_of p) (acknowledgement_transition p position)
unfolding acknowledgement_transition
acknowledges p position =
    let id : ℕ = id_of p in
    let gs : List Given = map update_given (pending_updates position p.waiting_updates) in
    let acks : ℕ → List Out = λ to. send p to (bodies.Ack position) ∷ [] in
    both id (answer_outs gs) (to_neighbour (predecessor p) acks) (given id gs) (neighbour id (predecessor p) acks (λ to. (refl, refl, tt)))

ack_says : (p : Plain) (sender position : ℕ) → Says (id_of p) (ack_transition p sender position)
unfolding ack_transition
ack_says p sender position = grind (arith, acknowledges p position)

query_says : (p : Plain) (sender ticket : ℕ) (key : List ℕ) → Says (id_of p) (query_transition p sender ticket key)
unfolding query_transition
query_says p sender ticket key = grind (arith)

reported_says : (p : Plain) (version : ℕ) (o : Option WaitingRead) → Says (id_of p) (reported_version_transition p version o)
unfolding reported_version_transition
reported_says p version None = tt
reported_says p version (Some r) = grind (arith)

version_says : (p : Plain) (sender ticket version : ℕ) → Says (id_of p) (version_transition p sender ticket version)
unfolding version_transition
version_says p sender ticket version = grind (arith, reported_says p version (read_with ticket p.waiting_reads))

blank_says : (p : Plain) (sender count : ℕ) → Says (id_of p) (blank_transition p sender count)
unfolding blank_transition
blank_says p sender count = grind (arith, all_from p sender (fill_bodies p count))

copy_says : (p : Plain) (sender position : ℕ) (state : State) → Says (id_of p) (copy_transition p sender position state)
unfolding copy_transition
copy_says p sender position state = grind (arith, becomes (with_copy p position state))

gathered_says : (p : Plain) (g : Gathering) → Says (id_of p) (gathered_transition p g)
gathered_says p g = grind (arith, becomes (with_copy p g.position (joined_state g.parts)))

gathering_says : (p : Plain) (g : Gathering) (part : StatePart) → Says (id_of p) (gathering_transition p g part)
gathering_says p g part = grind (arith, gathered_says p (with_part g part))

part_says : (p : Plain) (sender : ℕ) (part : StatePart) → Says (id_of p) (part_transition p sender part)
unfolding part_transition
part_says p sender part = grind (arith, gathering_says p (gathering_for part p.gathering) part)

floor_says : (p : Plain) (sender count : ℕ) → Says (id_of p) (floor_transition p sender count)
unfolding floor_transition
floor_says p sender count = grind (arith, becomes (record p { floor = Some count }))

body_says : (p : Plain) (m : LinkMessage) (b : Body) → Says (id_of p) (body_transition p m b)
body_says p m (bodies.Config members) = config_says p m.epoch members
body_says p m (bodies.Entry e) = grind (arith, entries_say p m.sender (e ∷ []))
body_says p m (bodies.Batch es) = grind (arith, entries_say p m.sender es)
body_says p m (bodies.Ack position) = grind (arith, ack_says p m.sender position)
body_says p m (bodies.Query ticket key) = grind (arith, query_says p m.sender ticket key)
body_says p m (bodies.VersionIs ticket version) = grind (arith, version_says p m.sender ticket version)
body_says p m (bodies.Blank count) = grind (arith, blank_says p m.sender count)
body_says p m (bodies.Copy position state) = grind (arith, copy_says p m.sender position state)
body_says p m (bodies.Part part) = grind (arith, part_says p m.sender part)
body_says p m (bodies.Floor count) = grind (arith, floor_says p m.sender count)

-- ---- requests

abbrev pub Gives : ℕ → Result Transition Refusal → Type 0
Gives id (Ok t) = Says id t
Gives id (Err e) = ⊤

reply_says : (p : Plain) (position : ℕ) (reply : Reply) (sends : List Out) → AreFrom (id_of p) sends → Gives (id_of p) (reply_transition p position reply sends)
unfolding reply_transition
reply_says p position reply sends a = grind (arith, a)

replies_say : (p : Plain) (position : ℕ) (reply : Reply) (sends : List Out) → AreFrom (id_of p) sends → Gives (id_of p) (reply_transition (committed_if_last p) position reply sends)
replies_say p position reply sends a =
    cond_both (is_last p) (acknowledging p (length_of p)) p (λ (x : Plain). Gives (id_of p) (reply_transition x position reply sends))
    (λ e. reply_says (acknowledging p (length_of p)) position reply sends a)
    (λ e. reply_says p position reply sends a)

update_says : (p : Plain) (u : Update) (r : Option Reply) → Gives (id_of p) (update_transition p u r)
unfolding update_transition
update_says p u None =
    let e : Entry = entry_of p u (eval (newest p).objects u.command) in
    let entries : ℕ → List Out = λ to. send_all p to (entry_bodies (e ∷ [])) in
    grind (arith, replies_say (with_entry p e) e.position e.reply (to_neighbour (successor p) entries) (neighbour (id_of p) (successor p) entries (λ to. all_from p to (entry_bodies (e ∷ [])))))
update_says p u (Some reply) = replies_say p (position_of p u.client) reply [] tt

read_says : (p : Plain) (mode : ReadMode) (key : List ℕ) → Gives (id_of p) (read_transition p mode key)
unfolding read_transition waiting_read_transition
read_says p Eventual key = tt
read_says p (Bounded k) key = tt
read_says p Strong key = grind (arith)

accepted_says : (p : Plain) (ask : Ask) → Gives (id_of p) (accepted_ask_transition p ask)
accepted_says p (asks.Update u) = grind (arith, update_says p u (said (newest p) u.client u.number))
accepted_says p (asks.Read mode object) = grind (arith, read_says p mode object.key)

ask_says : (p : Plain) (ask : Ask) → Gives (id_of p) (ask_transition p ask)
unfolding ask_transition
ask_says p ask = grind (arith, accepted_says p ask)

-- ---- every event

event_says : (p : Plain) (e : Event) → Gives (id_of p) (event_transition p e)
event_says p (events.Ask ask) = ask_says p ask
event_says p (events.Deliver m) = grind (arith, body_says p m m.body)
event_says p events.Tick = tick_from p
event_says p events.Stop = tt

within_says : (id : ℕ) (r : Result Transition Refusal) → Gives id r → Gives id (within_counts r)
within_says id (Ok t) h = grind (arith, h)
within_says id (Err e) h = tt

step_says : (p : Plain) (e : Event) → Gives (id_of p) (node_step p e)
unfolding node_step
step_says p e = grind (arith, within_says (id_of p) (event_transition p e) (event_says p e))

pub sends_from : (p q : Plain) (e : Event) (s : Step) → node_step p e ≡ Ok (q, s) → AreFrom (id_of p) s.outs
sends_from p q e s h = subst (Gives (id_of p)) h (step_says p e)
