-- Each step keeps the node's name, and gives a request that it accepts the next ticket.
use Rattle.std.proofs.Common.{◌≡◌, ◌<◌, ◌≤◌, ℕ, true, Option, Some, None, List, [], ◌∷◌, Result, Ok, Err, refl, subst, arith}
use Rattle.std.specs.Prelude.{⊤}
use Rattle.craq_names.specs.declared.refusal.Refusal.{Refusal}
use Rattle.craq_names.specs.declared.name.NodeName.{NodeName}
use Rattle.craq_commands.specs.declared.command.Update.{Update}
use Rattle.craq_commands.specs.declared.entry.Entry.{Entry}
use Rattle.craq_commands.specs.declared.reply.Reply.{Reply}
use Rattle.craq_commands.specs.declared.read_mode.ReadMode.{ReadMode}
use Rattle.craq_commands.specs.declared.read_mode.ReadMode.TheVariants.{Strong, Eventual, Bounded}
use Rattle.craq_commands.specs.declared.state.State.{State}
use Rattle.craq_commands.specs.SingleCopy.{said}
use Rattle.craq_model.specs.declared.message.Body.{Body}
use Rattle.craq_model.specs.declared.message.Body.TheVariants as bodies
use Rattle.craq_model.specs.declared.message.LinkMessage.{LinkMessage}
use Rattle.craq_model.specs.declared.ask.Ask.{Ask}
use Rattle.craq_model.specs.declared.ask.Ask.TheVariants as asks
use Rattle.craq_model.specs.declared.ask.Event.{Event}
use Rattle.craq_model.specs.declared.ask.Event.TheVariants as events
use Rattle.craq_model.specs.declared.step.Out.{Out}
use Rattle.craq_model.specs.declared.step.Step.{Step}
use Rattle.craq_commands.specs.Evaluation.{eval}
use Rattle.craq_model.specs.declared.waiting.WaitingRead.{WaitingRead}
use Rattle.craq_model.specs.declared.gathering.Gathering.{Gathering}
use Rattle.craq_model.specs.declared.message.StatePart.{StatePart}
use Rattle.craq_model.specs.Parts.{gathering_for, with_part, joined_state}
use Rattle.craq_model.specs.Plain.{Plain, length_of, newest, successor, position_of, with_entries}
use Rattle.craq_model.specs.Sends.{to_neighbour, send_all, entry_bodies}
use Rattle.craq_model.specs.Settle.{Transition, settling_transition, without_reached, readiness_transition}
use Rattle.craq_model.specs.Asks.{with_entry, entry_of, committed_if_last, reply_transition, update_transition, waiting_read_transition, read_transition, accepted_ask_transition, ask_transition}
use Rattle.craq_model.specs.Deliveries.{config_transition, forwarding_transition, taken_entries_transition, appending_transition, entries_above, entries_transition, acknowledgement_transition, ack_transition, query_transition, reported_version_transition, version_transition, blank_transition, copy_transition, with_copy, gathered_transition, gathering_transition, part_transition, floor_transition, body_transition, read_with}
use Rattle.craq_model.specs.Node.{event_transition, within_counts, node_step}

-- a new ticket is above the last, and is the last from then on
abbrev pub IsNextTicket : ℕ → Option ℕ → ℕ → Type 0
IsNextTicket last None new = last ≤ new
IsNextTicket last (Some ticket) new = (last < ticket) × (ticket ≤ new)

abbrev Keeps : NodeName → ℕ → Transition → Type 0
Keeps name last t = (t.0.name ≡ name) × IsNextTicket last t.1.ticket t.0.last_ticket

abbrev Gives : NodeName → ℕ → Result Transition Refusal → Type 0
Gives name last (Ok t) = Keeps name last t
Gives name last (Err e) = ⊤

settling_transition-kept : (p : Plain) → Keeps p.name p.last_ticket (settling_transition p)
unfolding settling_transition
settling_transition-kept p = grind (arith)

readiness_transition-kept : (p : Plain) → Keeps p.name p.last_ticket (readiness_transition p)
unfolding readiness_transition without_reached
readiness_transition-kept p = grind (arith, settling_transition-kept (record p { ready = true; gathering = None }))

config_transition-kept : (p : Plain) (e : ℕ) (ms : List ℕ) → Keeps p.name p.last_ticket (config_transition p e ms)
unfolding config_transition
config_transition-kept p e ms = grind (arith, settling_transition-kept (record p { epoch = e; members = ms; floor = None; gathering = None }))

forwarding_transition-kept : (p : Plain) (es : List Entry) → Keeps p.name p.last_ticket (forwarding_transition p es)
unfolding forwarding_transition
forwarding_transition-kept p es = grind (arith)

taken_entries_transition-kept : (p : Plain) (es : List Entry) → Keeps p.name p.last_ticket (taken_entries_transition p es)
taken_entries_transition-kept p es = grind (arith, forwarding_transition-kept p es, readiness_transition-kept p)

appending_transition-kept : (p : Plain) (es : List Entry) → Keeps p.name p.last_ticket (appending_transition p es)
appending_transition-kept p es = grind (arith, taken_entries_transition-kept (with_entries p es) es)

entries_transition-kept : (p : Plain) (sender : ℕ) (es : List Entry) → Keeps p.name p.last_ticket (entries_transition p sender es)
unfolding entries_transition
entries_transition-kept p sender es = grind (arith, appending_transition-kept p (entries_above (length_of p) es))

ack_transition-kept : (p : Plain) (sender position : ℕ) → Keeps p.name p.last_ticket (ack_transition p sender position)
unfolding ack_transition acknowledgement_transition
ack_transition-kept p sender position = grind (arith)

query_transition-kept : (p : Plain) (sender ticket : ℕ) (key : List ℕ) → Keeps p.name p.last_ticket (query_transition p sender ticket key)
unfolding query_transition
query_transition-kept p sender ticket key = grind (arith)

learns-kept : (p : Plain) (version : ℕ) (r : Option WaitingRead) → Keeps p.name p.last_ticket (reported_version_transition p version r)
unfolding reported_version_transition
learns-kept p version None = (refl, omega arith)
learns-kept p version (Some r) = grind (arith)

version_transition-kept : (p : Plain) (sender ticket version : ℕ) → Keeps p.name p.last_ticket (version_transition p sender ticket version)
unfolding version_transition
version_transition-kept p sender ticket version = grind (arith, learns-kept p version (read_with ticket p.waiting_reads))

blank_transition-kept : (p : Plain) (sender count : ℕ) → Keeps p.name p.last_ticket (blank_transition p sender count)
unfolding blank_transition
blank_transition-kept p sender count = grind (arith)

copy_transition-kept : (p : Plain) (sender position : ℕ) (state : State) → Keeps p.name p.last_ticket (copy_transition p sender position state)
unfolding copy_transition
copy_transition-kept p sender position state = grind (arith, readiness_transition-kept (with_copy p position state))

gathered_transition-kept : (p : Plain) (g : Gathering) → Keeps p.name p.last_ticket (gathered_transition p g)
gathered_transition-kept p g = grind (arith, readiness_transition-kept (with_copy p g.position (joined_state g.parts)))

gathering_transition-kept : (p : Plain) (g : Gathering) (part : StatePart) → Keeps p.name p.last_ticket (gathering_transition p g part)
gathering_transition-kept p g part = grind (arith, gathered_transition-kept p (with_part g part))

part_transition-kept : (p : Plain) (sender : ℕ) (part : StatePart) → Keeps p.name p.last_ticket (part_transition p sender part)
unfolding part_transition
part_transition-kept p sender part = grind (arith, gathering_transition-kept p (gathering_for part p.gathering) part)

floor_transition-kept : (p : Plain) (sender count : ℕ) → Keeps p.name p.last_ticket (floor_transition p sender count)
unfolding floor_transition
floor_transition-kept p sender count = grind (arith, readiness_transition-kept (record p { floor = Some count }))

body_transition-kept : (p : Plain) (m : LinkMessage) (b : Body) → Keeps p.name p.last_ticket (body_transition p m b)
body_transition-kept p m (bodies.Config members) = config_transition-kept p m.epoch members
body_transition-kept p m (bodies.Entry e) = grind (arith, entries_transition-kept p m.sender (e ∷ []))
body_transition-kept p m (bodies.Batch es) = grind (arith, entries_transition-kept p m.sender es)
body_transition-kept p m (bodies.Ack position) = grind (arith, ack_transition-kept p m.sender position)
body_transition-kept p m (bodies.Query ticket key) = grind (arith, query_transition-kept p m.sender ticket key)
body_transition-kept p m (bodies.VersionIs ticket version) = grind (arith, version_transition-kept p m.sender ticket version)
body_transition-kept p m (bodies.Blank count) = grind (arith, blank_transition-kept p m.sender count)
body_transition-kept p m (bodies.Copy position state) = grind (arith, copy_transition-kept p m.sender position state)
body_transition-kept p m (bodies.Part part) = grind (arith, part_transition-kept p m.sender part)
body_transition-kept p m (bodies.Floor count) = grind (arith, floor_transition-kept p m.sender count)

commits_name : (p : Plain) → (committed_if_last p).name ≡ p.name
commits_name p = grind (arith)

commits_ticket : (p : Plain) → (committed_if_last p).last_ticket ≡ p.last_ticket
commits_ticket p = grind (arith)

reply_transition-kept : (p : Plain) (position : ℕ) (reply : Reply) (sends : List Out) → Gives p.name p.last_ticket (reply_transition p position reply sends)
unfolding reply_transition
reply_transition-kept p position reply sends = grind (arith)

-- a node that has committed gives a reply under its next ticket
replies_after : (p : Plain) (position : ℕ) (reply : Reply) (sends : List Out) → Gives p.name p.last_ticket (reply_transition (committed_if_last p) position reply sends)
replies_after p position reply sends =
    let after : Result Transition Refusal = reply_transition (committed_if_last p) position reply sends in
    let own : Gives (committed_if_last p).name (committed_if_last p).last_ticket after = reply_transition-kept (committed_if_last p) position reply sends in
    let named : Gives p.name (committed_if_last p).last_ticket after = subst (λ (n : NodeName). Gives n (committed_if_last p).last_ticket after) (commits_name p) own in
    subst (λ (last : ℕ). Gives p.name last after) (commits_ticket p) named

update_transition-kept : (p : Plain) (u : Update) (r : Option Reply) → Gives p.name p.last_ticket (update_transition p u r)
unfolding update_transition
update_transition-kept p u None = let e : Entry = entry_of p u (eval (newest p).objects u.command) in grind (arith, replies_after (with_entry p e) e.position e.reply (to_neighbour (successor p) (λ to. send_all p to (entry_bodies (e ∷ [])))))
update_transition-kept p u (Some reply) = replies_after p (position_of p u.client) reply []

read_transition-kept : (p : Plain) (mode : ReadMode) (key : List ℕ) → Gives p.name p.last_ticket (read_transition p mode key)
unfolding read_transition waiting_read_transition
read_transition-kept p Eventual key = (refl, (omega arith, omega arith))
read_transition-kept p (Bounded k) key = (refl, (omega arith, omega arith))
read_transition-kept p Strong key = grind (arith)

accepted_ask_transition-kept : (p : Plain) (ask : Ask) → Gives p.name p.last_ticket (accepted_ask_transition p ask)
accepted_ask_transition-kept p (asks.Update u) = grind (arith, update_transition-kept p u (said (newest p) u.client u.number))
accepted_ask_transition-kept p (asks.Read mode object) = grind (arith, read_transition-kept p mode object.key)

ask_transition-kept : (p : Plain) (ask : Ask) → Gives p.name p.last_ticket (ask_transition p ask)
unfolding ask_transition
ask_transition-kept p ask = grind (arith, accepted_ask_transition-kept p ask)

event_transition-kept : (p : Plain) (e : Event) → Gives p.name p.last_ticket (event_transition p e)
event_transition-kept p (events.Ask ask) = ask_transition-kept p ask
event_transition-kept p (events.Deliver m) = grind (arith, body_transition-kept p m m.body)
event_transition-kept p events.Tick = (refl, omega arith)
event_transition-kept p events.Stop = (refl, omega arith)

pub event_keeps_name : (p : Plain) (e : Event) (t : Transition) → event_transition p e ≡ Ok t → t.0.name ≡ p.name
event_keeps_name p e t is = (subst (Gives p.name p.last_ticket) is (event_transition-kept p e)).0

within-kept : (name : NodeName) (last : ℕ) (r : Result Transition Refusal) → Gives name last r → Gives name last (within_counts r)
within-kept name last (Ok t) h = grind (arith, h)
within-kept name last (Err e) h = tt

node_step-kept : (p : Plain) (e : Event) → Gives p.name p.last_ticket (node_step p e)
unfolding node_step
node_step-kept p e = grind (arith, within-kept p.name p.last_ticket (event_transition p e) (event_transition-kept p e))

pub name_kept : (p q : Plain) (e : Event) (s : Step) → node_step p e ≡ Ok (q, s) → q.name ≡ p.name
name_kept p q e s h = (subst (Gives p.name p.last_ticket) h (node_step-kept p e)).0

pub next_ticket : (p q : Plain) (e : Event) (s : Step) → node_step p e ≡ Ok (q, s) → IsNextTicket p.last_ticket s.ticket q.last_ticket
next_ticket p q e s h = (subst (Gives p.name p.last_ticket) h (node_step-kept p e)).1
