-- Each step but a stop keeps the node running.
use Rattle.std.proofs.Common.{◌≡◌, ◌≢◌, ◌∙◌, ℕ, Bool, true, false, true≢false, sym, Option, Some, None, List, [], ◌∷◌, Result, Ok, Err, refl, subst, arith}
use Rattle.std.specs.Prelude.{⊤}
use Rattle.craq_names.specs.declared.refusal.Refusal.{Refusal}
use Rattle.craq_commands.specs.declared.command.Update.{Update}
use Rattle.craq_commands.specs.declared.entry.Entry.{Entry}
use Rattle.craq_commands.specs.declared.reply.Reply.{Reply}
use Rattle.craq_commands.specs.declared.read_mode.ReadMode.{ReadMode}
use Rattle.craq_commands.specs.declared.read_mode.ReadMode.TheVariants.{Strong, Eventual, Bounded}
use Rattle.craq_commands.specs.declared.state.State.{State}
use Rattle.craq_commands.specs.SingleCopy.{said}
use Rattle.craq_model.specs.declared.message.Body.{Body}
use Rattle.craq_model.specs.declared.message.Body.TheVariants as bodies
use Rattle.craq_model.specs.declared.message.LinkMessage.{LinkMessage}
use Rattle.craq_model.specs.declared.ask.Ask.{Ask}
use Rattle.craq_model.specs.declared.ask.Ask.TheVariants as asks
use Rattle.craq_model.specs.declared.ask.Event.{Event}
use Rattle.craq_model.specs.declared.ask.Event.TheVariants as events
use Rattle.craq_model.specs.declared.step.Out.{Out}
use Rattle.craq_model.specs.declared.step.Step.{Step}
use Rattle.craq_commands.specs.Evaluation.{eval}
use Rattle.craq_model.specs.declared.waiting.WaitingRead.{WaitingRead}
use Rattle.craq_model.specs.Plain.{Plain, newest, successor, position_of, length_of, with_entries}
use Rattle.craq_model.specs.Sends.{to_neighbour, send_all, entry_bodies}
use Rattle.craq_model.specs.Parts.{gathering_for, with_part, joined_state}
use Rattle.craq_model.specs.declared.gathering.Gathering.{Gathering}
use Rattle.craq_model.specs.declared.message.StatePart.{StatePart}
use Rattle.craq_model.specs.Settle.{Transition, settling_transition, without_reached, readiness_transition}
use Rattle.craq_model.specs.Asks.{with_entry, entry_of, committed_if_last, reply_transition, update_transition, waiting_read_transition, read_transition, accepted_ask_transition, ask_transition}
use Rattle.craq_model.specs.Deliveries.{config_transition, forwarding_transition, taken_entries_transition, appending_transition, entries_above, entries_transition, gathered_transition, gathering_transition, part_transition, acknowledgement_transition, ack_transition, query_transition, reported_version_transition, version_transition, blank_transition, copy_transition, with_copy, floor_transition, body_transition, read_with}
use Rattle.craq_model.specs.Node.{event_transition, within_counts, node_step}
use Rattle.craq_causality.proofs.Nodes.{runs}

abbrev pub Stays : Bool → Transition → Type 0
Stays runs t = t.0.running ≡ runs

abbrev pub Gives : Bool → Result Transition Refusal → Type 0
Gives runs (Ok t) = Stays runs t
Gives runs (Err e) = ⊤

settling_transition-running : (p : Plain) → Stays p.running (settling_transition p)
unfolding settling_transition
settling_transition-running p = grind (arith)

readiness_transition-running : (p : Plain) → Stays p.running (readiness_transition p)
unfolding readiness_transition without_reached
readiness_transition-running p = grind (arith, settling_transition-running (record p { ready = true; gathering = None }))

config_transition-running : (p : Plain) (e : ℕ) (ms : List ℕ) → Stays p.running (config_transition p e ms)
unfolding config_transition
config_transition-running p e ms = grind (arith, settling_transition-running (record p { epoch = e; members = ms; floor = None; gathering = None }))

forwarding_transition-running : (p : Plain) (es : List Entry) → Stays p.running (forwarding_transition p es)
unfolding forwarding_transition
forwarding_transition-running p es = grind (arith)

taken_entries_transition-running : (p : Plain) (es : List Entry) → Stays p.running (taken_entries_transition p es)
taken_entries_transition-running p es = grind (arith, forwarding_transition-running p es, readiness_transition-running p)

appending_transition-running : (p : Plain) (es : List Entry) → Stays p.running (appending_transition p es)
appending_transition-running p es = grind (arith, taken_entries_transition-running (with_entries p es) es)

entries_transition-running : (p : Plain) (sender : ℕ) (es : List Entry) → Stays p.running (entries_transition p sender es)
unfolding entries_transition
entries_transition-running p sender es = grind (arith, appending_transition-running p (entries_above (length_of p) es))

ack_transition-running : (p : Plain) (sender position : ℕ) → Stays p.running (ack_transition p sender position)
unfolding ack_transition acknowledgement_transition
ack_transition-running p sender position = grind (arith)

query_transition-running : (p : Plain) (sender ticket : ℕ) (key : List ℕ) → Stays p.running (query_transition p sender ticket key)
unfolding query_transition
query_transition-running p sender ticket key = grind (arith)

learns-running : (p : Plain) (version : ℕ) (r : Option WaitingRead) → Stays p.running (reported_version_transition p version r)
unfolding reported_version_transition
learns-running p version None = refl
learns-running p version (Some r) = grind (arith)

version_transition-running : (p : Plain) (sender ticket version : ℕ) → Stays p.running (version_transition p sender ticket version)
unfolding version_transition
version_transition-running p sender ticket version = grind (arith, learns-running p version (read_with ticket p.waiting_reads))

blank_transition-running : (p : Plain) (sender count : ℕ) → Stays p.running (blank_transition p sender count)
unfolding blank_transition
blank_transition-running p sender count = grind (arith)

copy_transition-running : (p : Plain) (sender position : ℕ) (state : State) → Stays p.running (copy_transition p sender position state)
unfolding copy_transition
copy_transition-running p sender position state = grind (arith, readiness_transition-running (with_copy p position state))

gathered_transition-running : (p : Plain) (g : Gathering) → Stays p.running (gathered_transition p g)
gathered_transition-running p g = grind (arith, readiness_transition-running (with_copy p g.position (joined_state g.parts)))

gathering_transition-running : (p : Plain) (g : Gathering) (part : StatePart) → Stays p.running (gathering_transition p g part)
gathering_transition-running p g part = grind (arith, gathered_transition-running p (with_part g part))

part_transition-running : (p : Plain) (sender : ℕ) (part : StatePart) → Stays p.running (part_transition p sender part)
unfolding part_transition
part_transition-running p sender part = grind (arith, gathering_transition-running p (gathering_for part p.gathering) part)

floor_transition-running : (p : Plain) (sender count : ℕ) → Stays p.running (floor_transition p sender count)
unfolding floor_transition
floor_transition-running p sender count = grind (arith, readiness_transition-running (record p { floor = Some count }))

body_transition-running : (p : Plain) (m : LinkMessage) (b : Body) → Stays p.running (body_transition p m b)
body_transition-running p m (bodies.Config members) = config_transition-running p m.epoch members
body_transition-running p m (bodies.Entry e) = grind (arith, entries_transition-running p m.sender (e ∷ []))
body_transition-running p m (bodies.Batch es) = grind (arith, entries_transition-running p m.sender es)
body_transition-running p m (bodies.Part part) = grind (arith, part_transition-running p m.sender part)
body_transition-running p m (bodies.Ack position) = grind (arith, ack_transition-running p m.sender position)
body_transition-running p m (bodies.Query ticket key) = grind (arith, query_transition-running p m.sender ticket key)
body_transition-running p m (bodies.VersionIs ticket version) = grind (arith, version_transition-running p m.sender ticket version)
body_transition-running p m (bodies.Blank count) = grind (arith, blank_transition-running p m.sender count)
body_transition-running p m (bodies.Copy position state) = grind (arith, copy_transition-running p m.sender position state)
body_transition-running p m (bodies.Floor count) = grind (arith, floor_transition-running p m.sender count)

commits-running : (p : Plain) → (committed_if_last p).running ≡ p.running
commits-running p = grind (arith)

reply_transition-running : (p : Plain) (position : ℕ) (reply : Reply) (sends : List Out) → Gives p.running (reply_transition p position reply sends)
unfolding reply_transition
reply_transition-running p position reply sends = grind (arith)

-- a reply at a node that commits first if it is last
replies_after : (p : Plain) (position : ℕ) (reply : Reply) (sends : List Out) → Gives p.running (reply_transition (committed_if_last p) position reply sends)
replies_after p position reply sends = subst (λ (n : Bool). Gives n (reply_transition (committed_if_last p) position reply sends)) (commits-running p) (reply_transition-running (committed_if_last p) position reply sends)

update_transition-running : (p : Plain) (u : Update) (r : Option Reply) → Gives p.running (update_transition p u r)
unfolding update_transition
update_transition-running p u None = let e : Entry = entry_of p u (eval (newest p).objects u.command) in grind (arith, replies_after (with_entry p e) e.position e.reply (to_neighbour (successor p) (λ to. send_all p to (entry_bodies (e ∷ [])))))
update_transition-running p u (Some reply) = replies_after p (position_of p u.client) reply []

read_transition-running : (p : Plain) (mode : ReadMode) (key : List ℕ) → Gives p.running (read_transition p mode key)
unfolding read_transition waiting_read_transition
read_transition-running p Eventual key = refl
read_transition-running p (Bounded k) key = refl
read_transition-running p Strong key = grind (arith)

accepted_ask_transition-running : (p : Plain) (ask : Ask) → Gives p.running (accepted_ask_transition p ask)
accepted_ask_transition-running p (asks.Update u) = grind (arith, update_transition-running p u (said (newest p) u.client u.number))
accepted_ask_transition-running p (asks.Read mode object) = grind (arith, read_transition-running p mode object.key)

ask_transition-running : (p : Plain) (ask : Ask) → Gives p.running (ask_transition p ask)
unfolding ask_transition
ask_transition-running p ask = grind (arith, accepted_ask_transition-running p ask)

event_transition-running : (p : Plain) (e : Event) → e ≢ events.Stop → Gives p.running (event_transition p e)
event_transition-running p (events.Ask ask) n = ask_transition-running p ask
event_transition-running p (events.Deliver m) n = grind (arith, body_transition-running p m m.body)
event_transition-running p events.Tick n = refl
event_transition-running p events.Stop n = absurd (n refl)

within-running : (runs : Bool) (r : Result Transition Refusal) → Gives runs r → Gives runs (within_counts r)
within-running runs (Ok t) h = grind (arith, h)
within-running runs (Err e) h = tt

node_step-running : (p : Plain) (e : Event) → e ≢ events.Stop → Gives p.running (node_step p e)
unfolding node_step
node_step-running p e n = grind (arith, within-running p.running (event_transition p e) (event_transition-running p e n))

keeps_running : (p q : Plain) (e : Event) (s : Step) → e ≢ events.Stop → node_step p e ≡ Ok (q, s) → q.running ≡ p.running
keeps_running p q e s n h = subst (Gives p.running) h (node_step-running p e n)

-- only a running node takes a step, and only a stop ends its run
goes_on : (p q : Plain) (e : Event) (s : Step) → e ≢ events.Stop → node_step p e ≡ Ok (q, s) → q.running ≡ false → ⊥
goes_on p q e s n h off = true≢false (sym (runs p q e s h) ∙ (sym (keeps_running p q e s n h) ∙ off))

pub stop_alone : (p q : Plain) (e : Event) (s : Step) → node_step p e ≡ Ok (q, s) → q.running ≡ false → e ≡ events.Stop
stop_alone p q events.Stop s h off = refl
stop_alone p q (events.Ask ask) s h off = absurd (goes_on p q (events.Ask ask) s (λ is. cc) h off)
stop_alone p q (events.Deliver m) s h off = absurd (goes_on p q (events.Deliver m) s (λ is. cc) h off)
stop_alone p q events.Tick s h off = absurd (goes_on p q events.Tick s (λ is. cc) h off)
