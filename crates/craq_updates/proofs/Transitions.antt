-- The changes of a step to a node's base and tickets.
use Rattle.std.proofs.Common.{◌≡◌, ◌⊎◌, inl, inr, ⊎_elim, ℕ, ◌+◌, ◌==◌, nat_le, nat_lt, Bool, true, false, not, cond, ◌||◌, Option, Some, None, List, [], ◌∷◌, ◌++◌, Result, Ok, Err, refl, sym, subst, arith}
use Rattle.std.specs.Prelude.{⊤}
use Rattle.std.proofs.lemmas.Bool.{cond_both, or_parts}
use Rattle.craq_names.specs.Limits.{greatest}
use Rattle.craq_names.specs.declared.refusal.Refusal.{Refusal}
use Rattle.craq_names.specs.declared.refusal.Refusal.TheVariants as refusals
use Rattle.craq_commands.specs.declared.command.Update.{Update}
use Rattle.craq_commands.specs.declared.entry.Entry.{Entry}
use Rattle.craq_commands.specs.declared.reply.Reply.{Reply}
use Rattle.craq_commands.specs.declared.read_mode.ReadMode.{ReadMode}
use Rattle.craq_commands.specs.declared.read_mode.ReadMode.TheVariants.{Strong, Eventual, Bounded}
use Rattle.craq_commands.specs.declared.state.State.{State}
use Rattle.craq_commands.specs.SingleCopy.{said}
use Rattle.craq_model.specs.declared.message.Body.{Body}
use Rattle.craq_model.specs.declared.message.Body.TheVariants as bodies
use Rattle.craq_model.specs.declared.message.LinkMessage.{LinkMessage}
use Rattle.craq_model.specs.declared.ask.Ask.{Ask}
use Rattle.craq_model.specs.declared.ask.Ask.TheVariants as asks
use Rattle.craq_model.specs.declared.ask.Answer.TheVariants as answers
use Rattle.craq_model.specs.declared.step.Out.{Out}
use Rattle.craq_model.specs.declared.step.Why.{Why}
use Rattle.craq_commands.specs.Evaluation.{eval, objects_named, all_of_chain, some_used_up}
use Rattle.craq_model.specs.Members.{is_id, first_of, last_of}
use Rattle.craq_model.specs.declared.step.Why.TheVariants.{OtherEpoch, NotNeighbour, AlreadyHave}
use Rattle.craq_model.specs.declared.waiting.WaitingRead.{WaitingRead}
use Rattle.craq_model.specs.declared.gathering.Gathering.{Gathering}
use Rattle.craq_model.specs.declared.message.StatePart.{StatePart}
use Rattle.craq_model.specs.Parts.{gathered_position, gathering_for, with_part, joined_state}
use Rattle.craq_model.specs.Plain.{Plain, newest, newest_object, length_of, successor, predecessor, is_first, is_last, position_of, with_entries, acknowledging}
use Rattle.craq_model.specs.Sends.{to_neighbour, send, send_all, entry_bodies}
use Rattle.craq_model.specs.Settle.{Transition, transition_ignoring, read_answer, settling_transition, without_reached, readiness_transition}
use Rattle.craq_model.specs.Asks.{accepted_transition, answered_transition, is_full, is_clean, asked_objects, new_update_transition, with_entry, entry_of, committed_if_last, reply_transition, update_transition, waiting_read_transition, read_transition, accepted_ask_transition, ask_transition}
use Rattle.craq_refinement.proofs.Gathered.{gathered_at}
use Rattle.craq_model.specs.Deliveries.{config_transition, forwarding_transition, taken_entries_transition, appending_transition, entries_above, entries_transition, gathered_transition, gathering_transition, is_outdated, part_transition, acknowledgement_transition, ack_transition, query_transition, reported_version_transition, version_transition, blank_transition, copy_transition, with_copy, floor_transition, transition_in_epoch, body_transition, read_with}

-- the fields that the step of a message keeps
pub record Keeps (base tickets : ℕ) (running : Bool) (t : Transition) : Type 0 where
  pub based : t.0.past.base ≡ base
  pub last : t.0.last_ticket ≡ tickets
  pub runs : t.0.running ≡ running
  pub none : t.1.ticket ≡ None

settling_keeps : (p : Plain) → Keeps p.past.base p.last_ticket p.running (settling_transition p)
unfolding settling_transition
settling_keeps p = grind (arith)

readiness_keeps : (p : Plain) → Keeps p.past.base p.last_ticket p.running (readiness_transition p)
unfolding readiness_transition without_reached
readiness_keeps p = grind (arith, settling_keeps (record p { ready = true; gathering = None }))

config_keeps : (p : Plain) (e : ℕ) (ms : List ℕ) → Keeps p.past.base p.last_ticket p.running (config_transition p e ms)
unfolding config_transition
config_keeps p e ms = grind (arith, settling_keeps (record p { epoch = e; members = ms; floor = None; gathering = None }))

forwarding_keeps : (p : Plain) (es : List Entry) → Keeps p.past.base p.last_ticket p.running (forwarding_transition p es)
unfolding forwarding_transition
forwarding_keeps p es = grind (arith)

taken_entries_keep : (p : Plain) (es : List Entry) → Keeps p.past.base p.last_ticket p.running (taken_entries_transition p es)
taken_entries_keep p es = grind (arith, forwarding_keeps p es, readiness_keeps p)

appending_keeps : (p : Plain) (es : List Entry) → Keeps p.past.base p.last_ticket p.running (appending_transition p es)
appending_keeps p es = grind (arith, taken_entries_keep (with_entries p es) es)

entries_keep : (p : Plain) (sender : ℕ) (es : List Entry) → Keeps p.past.base p.last_ticket p.running (entries_transition p sender es)
unfolding entries_transition
entries_keep p sender es = grind (arith, appending_keeps p (entries_above (length_of p) es))

ack_keeps : (p : Plain) (sender position : ℕ) → Keeps p.past.base p.last_ticket p.running (ack_transition p sender position)
unfolding ack_transition acknowledgement_transition
ack_keeps p sender position = grind (arith)

query_keeps : (p : Plain) (sender ticket : ℕ) (key : List ℕ) → Keeps p.past.base p.last_ticket p.running (query_transition p sender ticket key)
unfolding query_transition
query_keeps p sender ticket key = grind (arith)

reported_keeps : (p : Plain) (version : ℕ) (r : Option WaitingRead) → Keeps p.past.base p.last_ticket p.running (reported_version_transition p version r)
unfolding reported_version_transition
reported_keeps p version None = grind (arith)
reported_keeps p version (Some r) = grind (arith)

version_keeps : (p : Plain) (sender ticket version : ℕ) → Keeps p.past.base p.last_ticket p.running (version_transition p sender ticket version)
unfolding version_transition
version_keeps p sender ticket version = grind (arith, reported_keeps p version (read_with ticket p.waiting_reads))

blank_keeps : (p : Plain) (sender count : ℕ) → Keeps p.past.base p.last_ticket p.running (blank_transition p sender count)
unfolding blank_transition
blank_keeps p sender count = grind (arith)

floor_keeps : (p : Plain) (sender count : ℕ) → Keeps p.past.base p.last_ticket p.running (floor_transition p sender count)
unfolding floor_transition
floor_keeps p sender count = grind (arith, readiness_keeps (record p { floor = Some count }))

copy_keeps : (p : Plain) (sender position : ℕ) (state : State) → Keeps p.past.base p.last_ticket p.running (copy_transition p sender position state) ⊎ Keeps position p.last_ticket p.running (copy_transition p sender position state)
unfolding copy_transition
copy_keeps p sender position state = grind (arith, readiness_keeps (with_copy p position state))

-- the base after a part: the node's, or the position whose state is gathered
abbrev GathersTo : Plain → ℕ → Transition → Type 0
GathersTo p position t = Keeps p.past.base p.last_ticket p.running t ⊎ Keeps position p.last_ticket p.running t

gathered_keeps : (p : Plain) (g : Gathering) → GathersTo p g.position (gathered_transition p g)
gathered_keeps p g = grind (arith, readiness_keeps (with_copy p g.position (joined_state g.parts)))

gathering_keeps : (p : Plain) (g : Gathering) (part : StatePart) → GathersTo p g.position (gathering_transition p g part)
gathering_keeps p g part = grind (arith, gathered_keeps p (with_part g part))

part_keeps : (p : Plain) (sender : ℕ) (part : StatePart) → GathersTo p part.position (part_transition p sender part)
unfolding part_transition
part_keeps p sender part =
    let ignored : (why : Why) → GathersTo p part.position (transition_ignoring p why) = λ why. inl (record { based = refl; last = refl; runs = refl; none = refl }) in
    let go : Transition = gathering_transition p (gathering_for part p.gathering) part in
    let rest : Transition = cond (p.ready || is_outdated p part) (transition_ignoring p AlreadyHave) go in
    cond_both (not (is_id (predecessor p) sender)) (transition_ignoring p NotNeighbour) rest (λ (t : Transition). GathersTo p part.position t)
    (λ e. ignored NotNeighbour)
    (λ e. cond_both (p.ready || is_outdated p part) (transition_ignoring p AlreadyHave) go (λ (t : Transition). GathersTo p part.position t)
    (λ o. ignored AlreadyHave)
    (λ o.
    let held : is_outdated p part ≡ false = (or_parts p.ready (is_outdated p part) o).1 in
    let same : part.position ≡ (gathering_for part p.gathering).position = gathered_at part p.gathering (or_parts (nat_le part.position (length_of p)) (nat_lt part.position (gathered_position p.gathering)) held).1 in
    subst (λ (n : ℕ). GathersTo p n go) (sym same) (gathering_keeps p (gathering_for part p.gathering) part)))

-- the base after a message: the node's, or that of the state
abbrev pub IsBaseOf : Body → ℕ → ℕ → Type 0
IsBaseOf (bodies.Copy position state) old base = (base ≡ old) ⊎ (base ≡ position)
IsBaseOf (bodies.Part part) old base = (base ≡ old) ⊎ (base ≡ part.position)
IsBaseOf body old base = base ≡ old

pub record Delivers (p : Plain) (b : Body) (t : Transition) : Type 0 where
  pub based : IsBaseOf b p.past.base t.0.past.base
  pub last : t.0.last_ticket ≡ p.last_ticket
  pub runs : t.0.running ≡ p.running
  pub none : t.1.ticket ≡ None

from_keeps : {p : Plain} {t : Transition} (b : Body) → Keeps p.past.base p.last_ticket p.running t → IsBaseOf b p.past.base t.0.past.base → Delivers p b t
from_keeps b k i = record { based = i; last = k.last; runs = k.runs; none = k.none }

ignoring : (p : Plain) (why : Why) → Keeps p.past.base p.last_ticket p.running (transition_ignoring p why)
ignoring p why = record { based = refl; last = refl; runs = refl; none = refl }

-- a message that may be of another epoch
in_epoch : (p : Plain) (m : LinkMessage) (t : Transition) → Keeps p.past.base p.last_ticket p.running t → Keeps p.past.base p.last_ticket p.running (transition_in_epoch p m t)
in_epoch p m t k = cond_both (m.epoch == p.epoch) t (transition_ignoring p OtherEpoch) (λ (t : Transition). Keeps p.past.base p.last_ticket p.running t) (λ e. k) (λ e. ignoring p OtherEpoch)

copy_delivers : (p : Plain) (m : LinkMessage) (position : ℕ) (state : State) → Delivers p (bodies.Copy position state) (transition_in_epoch p m (copy_transition p m.sender position state))
copy_delivers p m position state =
    let b : Body = bodies.Copy position state in
    let t : Transition = copy_transition p m.sender position state in
    cond_both (m.epoch == p.epoch) t (transition_ignoring p OtherEpoch) (λ (t : Transition). Delivers p b t)
    (λ e. ⊎_elim (λ k. from_keeps b k (inl k.based)) (λ k. record { based = inr k.based; last = k.last; runs = k.runs; none = k.none }) (copy_keeps p m.sender position state))
    (λ e. from_keeps b (ignoring p OtherEpoch) (inl refl))

part_delivers : (p : Plain) (m : LinkMessage) (part : StatePart) → Delivers p (bodies.Part part) (transition_in_epoch p m (part_transition p m.sender part))
part_delivers p m part =
    let b : Body = bodies.Part part in
    let t : Transition = part_transition p m.sender part in
    cond_both (m.epoch == p.epoch) t (transition_ignoring p OtherEpoch) (λ (t : Transition). Delivers p b t)
    (λ e. ⊎_elim (λ k. from_keeps b k (inl k.based)) (λ k. record { based = inr k.based; last = k.last; runs = k.runs; none = k.none }) (part_keeps p m.sender part))
    (λ e. from_keeps b (ignoring p OtherEpoch) (inl refl))

pub body_delivers : (p : Plain) (m : LinkMessage) (b : Body) → Delivers p b (body_transition p m b)
body_delivers p m (bodies.Config members) = let k : _ = config_keeps p m.epoch members in from_keeps (bodies.Config members) k k.based
body_delivers p m (bodies.Entry e) = let k : _ = in_epoch p m (entries_transition p m.sender (e ∷ [])) (entries_keep p m.sender (e ∷ [])) in from_keeps (bodies.Entry e) k k.based
body_delivers p m (bodies.Batch es) = let k : _ = in_epoch p m (entries_transition p m.sender es) (entries_keep p m.sender es) in from_keeps (bodies.Batch es) k k.based
body_delivers p m (bodies.Part part) = part_delivers p m part
body_delivers p m (bodies.Ack position) = let k : _ = in_epoch p m (ack_transition p m.sender position) (ack_keeps p m.sender position) in from_keeps (bodies.Ack position) k k.based
body_delivers p m (bodies.Query ticket key) = let k : _ = in_epoch p m (query_transition p m.sender ticket key) (query_keeps p m.sender ticket key) in from_keeps (bodies.Query ticket key) k k.based
body_delivers p m (bodies.VersionIs ticket version) = let k : _ = in_epoch p m (version_transition p m.sender ticket version) (version_keeps p m.sender ticket version) in from_keeps (bodies.VersionIs ticket version) k k.based
body_delivers p m (bodies.Blank count) = let k : _ = in_epoch p m (blank_transition p m.sender count) (blank_keeps p m.sender count) in from_keeps (bodies.Blank count) k k.based
body_delivers p m (bodies.Copy position state) = copy_delivers p m position state
body_delivers p m (bodies.Floor count) = let k : _ = in_epoch p m (floor_transition p m.sender count) (floor_keeps p m.sender count) in from_keeps (bodies.Floor count) k k.based

-- ---- requests

-- an accepted request takes the next ticket
pub record Accepts (p : Plain) (t : Transition) : Type 0 where
  pub based : t.0.past.base ≡ p.past.base
  pub last : t.0.last_ticket ≡ p.last_ticket + 1
  pub runs : t.0.running ≡ p.running
  pub given : t.1.ticket ≡ Some (p.last_ticket + 1)

abbrev IfAccepted : ℕ → ℕ → Bool → Result Transition Refusal → Type 0
IfAccepted base tickets running (Ok t) = (t.0.past.base ≡ base) × (t.0.last_ticket ≡ tickets + 1) × (t.1.ticket ≡ Some (tickets + 1)) × (t.0.running ≡ running)
IfAccepted base tickets running (Err e) = ⊤

reply_accepts : (p : Plain) (position : ℕ) (reply : Reply) (sends : List Out) → IfAccepted p.past.base p.last_ticket p.running (reply_transition p position reply sends)
unfolding reply_transition
reply_accepts p position reply sends =
    let now : Transition = answered_transition p (answers.Update reply) sends in
    let q : Plain = record p { waiting_updates = p.waiting_updates ++ (record { ticket = p.last_ticket + 1; position = position; reply = reply }) ∷ [] } in
    let rest : Result Transition Refusal = cond (is_full p) (Err refusals.PendingFull) (Ok (accepted_transition q sends)) in
    cond_both (nat_le position p.past.acknowledged) (Ok now) rest (λ (r : Result Transition Refusal). IfAccepted p.past.base p.last_ticket p.running r)
    (λ e. (refl, refl, refl, refl))
    (λ e. cond_both (is_full p) (Err refusals.PendingFull) (Ok (accepted_transition q sends)) (λ (r : Result Transition Refusal). IfAccepted p.past.base p.last_ticket p.running r) (λ f. tt) (λ f. (refl, refl, refl, refl)))

-- a node that may have committed accepts an update with this reply
replies_after : (p : Plain) (position : ℕ) (reply : Reply) (sends : List Out) → IfAccepted p.past.base p.last_ticket p.running (reply_transition (committed_if_last p) position reply sends)
replies_after p position reply sends =
    cond_both (is_last p) (acknowledging p (length_of p)) p (λ (q : Plain). IfAccepted p.past.base p.last_ticket p.running (reply_transition q position reply sends))
    (λ e. reply_accepts (acknowledging p (length_of p)) position reply sends)
    (λ e. reply_accepts p position reply sends)

update_accepts : (p : Plain) (u : Update) (r : Option Reply) → IfAccepted p.past.base p.last_ticket p.running (update_transition p u r)
unfolding update_transition
update_accepts p u None =
    let e : Entry = entry_of p u (eval (newest p).objects u.command) in
    cond_both (length_of p == greatest || some_used_up (newest p).objects (objects_named u.command)) (Err refusals.Exhausted) (new_update_transition p e) (λ (r : Result Transition Refusal). IfAccepted p.past.base p.last_ticket p.running r)
    (λ f. tt)
    (λ f. replies_after (with_entry p e) e.position e.reply (to_neighbour (successor p) (λ to. send_all p to (entry_bodies (e ∷ [])))))
update_accepts p u (Some reply) = replies_after p (position_of p u.client) reply []

read_accepts : (p : Plain) (mode : ReadMode) (key : List ℕ) → IfAccepted p.past.base p.last_ticket p.running (read_transition p mode key)
unfolding read_transition waiting_read_transition
read_accepts p Eventual key = (refl, refl, refl, refl)
read_accepts p (Bounded k) key = (refl, refl, refl, refl)
read_accepts p Strong key =
    let q : Plain = record p { waiting_reads = p.waiting_reads ++ (record { ticket = p.last_ticket + 1; key = key }) ∷ [] } in
    let os : List Out = send p (last_of p.members) (bodies.Query (p.last_ticket + 1) key) ∷ [] in
    let answered : Result Transition Refusal = Ok (answered_transition p (read_answer (newest_object p key)) []) in
    let waits : Result Transition Refusal = cond (is_full p) (Err refusals.PendingFull) (Ok (accepted_transition q os)) in
    cond_both (is_clean p key) answered waits (λ (r : Result Transition Refusal). IfAccepted p.past.base p.last_ticket p.running r)
    (λ e. (refl, refl, refl, refl))
    (λ e. cond_both (is_full p) (Err refusals.PendingFull) (Ok (accepted_transition q os)) (λ (r : Result Transition Refusal). IfAccepted p.past.base p.last_ticket p.running r) (λ f. tt) (λ f. (refl, refl, refl, refl)))

if_refused : (p : Plain) (b : Bool) (e : Refusal) (r : Result Transition Refusal) → IfAccepted p.past.base p.last_ticket p.running r → IfAccepted p.past.base p.last_ticket p.running (cond b (Err e) r)
if_refused p b e r a = cond_both b (Err e) r (λ (r : Result Transition Refusal). IfAccepted p.past.base p.last_ticket p.running r) (λ f. tt) (λ f. a)

accepted_ask : (p : Plain) (ask : Ask) → IfAccepted p.past.base p.last_ticket p.running (accepted_ask_transition p ask)
accepted_ask p (asks.Update u) =
    if_refused p (not (is_first p)) (refusals.NotHead (first_of p.members)) (cond (p.last_ticket == greatest) (Err refusals.Exhausted) (update_transition p u (said (newest p) u.client u.number)))
    (if_refused p (p.last_ticket == greatest) refusals.Exhausted (update_transition p u (said (newest p) u.client u.number)) (update_accepts p u (said (newest p) u.client u.number)))
accepted_ask p (asks.Read mode object) = if_refused p (p.last_ticket == greatest) refusals.Exhausted (read_transition p mode object.key) (read_accepts p mode object.key)

asks_accept : (p : Plain) (ask : Ask) → IfAccepted p.past.base p.last_ticket p.running (ask_transition p ask)
unfolding ask_transition
asks_accept p ask =
    if_refused p (not p.ready) refusals.NotReady (cond (not (all_of_chain p.name.chain (asked_objects ask))) (Err refusals.TwoChains) (accepted_ask_transition p ask))
    (if_refused p (not (all_of_chain p.name.chain (asked_objects ask))) refusals.TwoChains (accepted_ask_transition p ask) (accepted_ask p ask))

pub ask_accepts : (p : Plain) (ask : Ask) (t : Transition) → ask_transition p ask ≡ Ok t → Accepts p t
ask_accepts p ask t h =
    let Q : Result Transition Refusal → Type 0 = λ r. IfAccepted p.past.base p.last_ticket p.running r in
    let a : IfAccepted p.past.base p.last_ticket p.running (Ok t) = subst Q h (asks_accept p ask) in
    record { based = a.0; last = a.1; runs = a.3; given = a.2 }
