-- Preserves a property of a node through the step of a message or a request, line by line of the
-- rules.
use Rattle.std.proofs.Common.{◌≡◌, ℕ, ◌+◌, ◌≤◌, Bool, true, false, not, cond, List, [], ◌∷◌, ◌++◌, is_some, Option, Some, None, Result, Ok, Err, refl, ap, sym, arith}
use Rattle.std.proofs.lemmas.Bool.{cond_both, eqb-true, ltb-false, not-false}
use Rattle.std.specs.Prelude.{◌==◌, ◌||◌, nat_lt, nat_le, ⊤}
use Rattle.craq_names.specs.Limits.{greatest}
use Rattle.craq_names.specs.Maps.{at_number}
use Rattle.craq_names.specs.declared.refusal.Refusal.{Refusal}
use Rattle.craq_commands.specs.declared.command.Update.{Update}
use Rattle.craq_commands.specs.declared.entry.Entry.{Entry}
use Rattle.craq_commands.specs.declared.read_mode.ReadMode.{ReadMode}
use Rattle.craq_commands.specs.declared.read_mode.ReadMode.TheVariants.{Strong, Eventual, Bounded}
use Rattle.craq_commands.specs.declared.reply.Reply.{Reply}
use Rattle.craq_commands.specs.declared.state.State.{State}
use Rattle.craq_commands.specs.SingleCopy.{said}
use Rattle.craq_commands.specs.Evaluation.{all_of_chain, eval, objects_named, some_used_up}
use Rattle.craq_model.specs.declared.ask.Answer.{Answer}
use Rattle.craq_model.specs.declared.ask.Ask.{Ask}
use Rattle.craq_model.specs.declared.ask.Ask.TheVariants as asks
use Rattle.craq_model.specs.declared.gathering.Gathering.{Gathering}
use Rattle.craq_model.specs.declared.message.Body.{Body}
use Rattle.craq_model.specs.declared.message.Body.TheVariants as bodies
use Rattle.craq_model.specs.declared.message.LinkMessage.{LinkMessage}
use Rattle.craq_model.specs.declared.message.StatePart.{StatePart}
use Rattle.craq_model.specs.declared.step.Out.TheVariants as outs
use Rattle.craq_model.specs.declared.step.Why.{Why}
use Rattle.craq_model.specs.declared.waiting.WaitingRead.{WaitingRead}
use Rattle.craq_model.specs.declared.waiting.WaitingUpdate.{WaitingUpdate}
use Rattle.craq_model.specs.Asks.{accepted_ask_transition, accepted_transition, answered_transition, ask_transition, asked_objects, committed_if_last, entry_of, is_clean, is_full, read_transition, reply_transition, update_transition, waiting_read_transition, with_entry}
use Rattle.craq_model.specs.Deliveries.{ack_transition, acknowledgement_transition, appending_transition, blank_transition, body_transition, config_transition, copy_transition, delivery_transition, entries_above, entries_transition, final_position, first_position, floor_transition, forwarding_transition, gathering_transition, is_outdated, part_transition, query_transition, read_with, reads_without, reported_version_transition, transition_in_epoch, version_transition}
use Rattle.craq_model.specs.Members.{is_id, is_member, last_of}
use Rattle.craq_model.specs.declared.ask.Event.{Event}
use Rattle.craq_model.specs.Node.{event_transition, node_step, outs_fit, within_counts}
use Rattle.craq_model.specs.Parts.{gathered_position, gathering_for, is_in_order, is_whole, with_part}
use Rattle.craq_model.specs.Past.{Past}
use Rattle.craq_model.specs.Plain.{Plain, acknowledging, id_of, is_first, is_tail, length_of, newest, newest_object, predecessor, successor, with_entries}
use Rattle.craq_model.specs.Sends.{entry_bodies, send_all, to_neighbour}
use Rattle.craq_model.specs.Settle.{Transition, readiness_transition, settling_transition, transition_ignoring, transition_with, without_reached}

pub by_test : {A : Type 0} (b : Bool) (Q : A → Type 0) (x y : A) → Q x → Q y → Q (cond b x y)
by_test true Q x y h k = h
by_test false Q x y h k = k

or_right : (a b : Bool) → (a || b) ≡ false → b ≡ false
or_right true b h = absurd (cc)
or_right false b h = h

is_it : (o : Option ℕ) (id : ℕ) → not (is_id o id) ≡ false → o ≡ Some id
is_it None id h = absurd (cc)
is_it (Some k) id h = ap Some (eqb-true k id (not-false (k == id) h))

-- a part that is not outdated goes on with the gathering of its position, or begins it
pub for_position : (part : StatePart) (o : Option Gathering) → nat_lt part.position (gathered_position o) ≡ false → (gathering_for part o).position ≡ part.position
for_position part None late = refl
for_position part (Some g) late =
    cond_both (nat_lt g.position part.position) (record { position = part.position; count = part.count; parts = [] }) g (λ (k : Gathering). k.position ≡ part.position)
    (λ e. refl)
    (λ e. let a : part.position ≤ g.position = ltb-false g.position part.position e in let b : g.position ≤ part.position = ltb-false part.position g.position late in omega (arith, a, b))

-- ---- a message

-- the proof obligations: if S holds of a node, A holds of its step by this message, in each line of
-- the rules
pub record ByMessage (S : Plain → Type 0) (A : Transition → Type 0) (m : LinkMessage) : Type 0 where
  pub silent : (t : Transition) → t.1.outs ≡ [] → S t.0 → A t
  pub sends : (p : Plain) (past : Past) (to : Option ℕ) (bs : List Body) → S p → A (transition_with (record p { past = past }) (to_neighbour to (λ to. send_all p to bs)))
  pub joins : (p : Plain) (epoch : ℕ) (members : List ℕ) → S p → A (settling_transition (record p { epoch = epoch; members = members; floor = None; gathering = None }))
  pub readies : (p : Plain) → S p → A (settling_transition (record p { ready = true; gathering = None }))
  pub commits : (p : Plain) (position : ℕ) → S p → A (acknowledgement_transition p position)
  pub answers : (p : Plain) (r : WaitingRead) (answer : Answer) → S p → A (transition_with (record p { waiting_reads = reads_without r.ticket p.waiting_reads }) (outs.Answer r.ticket answer ∷ []))
  pub takes : (p : Plain) (past : Past) (floor : Option ℕ) → S p → S (record p { past = past; floor = floor })
  pub drops : (p : Plain) → S p → S (record p { gathering = None })
  pub gathers : (p : Plain) (part : StatePart) (g : Gathering) → m.body ≡ bodies.Part part → predecessor p ≡ Some m.sender → g.position ≡ part.position → g.count ≡ part.count → is_whole g ≡ false
      → S p → S (record p { gathering = Some g })

module _ (S : Plain → Type 0) (A : Transition → Type 0) (m : LinkMessage) (by : ByMessage S A m) where
  -- it is ignored, or the next line of the rules takes it
  unless : {p : Plain} (b : Bool) (why : Why) (t : Transition) → S p → (b ≡ false → A t) → A (cond b (transition_ignoring p why) t)
  unless {p} b why t s next = cond_both b (transition_ignoring p why) t A (λ e. by.silent (transition_ignoring p why) refl s) next

  readiness : (p : Plain) → S p → A (readiness_transition p)
  unfolding readiness_transition without_reached
  readiness p s = by_test _ A _ _ (by.readies p s) (by_test _ (λ (q : Plain). A (transition_with q [])) _ _ (by.silent _ refl (by.drops p s)) (by.silent _ refl s))

  configured : (p : Plain) (epoch : ℕ) (members : List ℕ) → S p → A (config_transition p epoch members)
  unfolding config_transition
  configured p epoch members s = unless (nat_le epoch p.epoch) _ _ s (λ e. unless (not (is_member members (id_of p))) _ _ s (λ e. by.joins p epoch members s))

  forwarded : (p : Plain) (es : List Entry) → S p → A (forwarding_transition p es)
  unfolding forwarding_transition
  forwarded p es s = by_test _ A _ _ (by.sends p (acknowledging p (length_of p)).past (predecessor p) (bodies.Ack (length_of p) ∷ []) s) (by.sends p p.past (successor p) (entry_bodies es) s)

  appended : (p : Plain) (es : List Entry) → S p → A (appending_transition p es)
  appended p es s =
      let q : Plain = with_entries p es in
      let t : S q = by.takes p q.past p.floor s in
      by_test _ A _ _ (by_test q.ready A _ _ (forwarded q es t) (readiness q t)) (by.silent _ refl s)

  entries : (p : Plain) (es : List Entry) → S p → A (entries_transition p m.sender es)
  unfolding entries_transition
  entries p es s = unless (not (is_id (predecessor p) m.sender)) _ _ s (λ e. unless (nat_le (final_position es) (length_of p)) _ _ s (λ e. unless (nat_lt (length_of p + 1) (first_position es)) _ _ s (λ e. appended p (entries_above (length_of p) es) s)))

  acknowledged : (p : Plain) (position : ℕ) → S p → A (ack_transition p m.sender position)
  unfolding ack_transition
  acknowledged p position s = unless (not (is_id (successor p) m.sender)) _ _ s (λ e. unless (not p.ready) _ _ s (λ e. unless (nat_le position p.past.acknowledged) _ _ s (λ e. unless (nat_lt (length_of p) position) _ _ s (λ e. by.commits p position s))))

  queried : (p : Plain) (ticket : ℕ) (key : List ℕ) → S p → A (query_transition p m.sender ticket key)
  unfolding query_transition
  queried p ticket key s = unless ((m.sender == id_of p) || not (is_member p.members m.sender)) _ _ s (λ e. unless (not (is_tail p)) _ _ s (λ e. by.sends p p.past (Some m.sender) (_ ∷ []) s))

  reported : (p : Plain) (version : ℕ) (o : Option WaitingRead) → S p → A (reported_version_transition p version o)
  unfolding reported_version_transition
  reported p version None s = by.silent _ refl s
  reported p version (Some r) s = unless (nat_lt (newest_object p r.key).0 version) _ _ s (λ e. by.answers p r _ s)

  versioned : (p : Plain) (ticket version : ℕ) → S p → A (version_transition p m.sender ticket version)
  unfolding version_transition
  versioned p ticket version s = unless (not (m.sender == last_of p.members)) _ _ s (λ e. reported p version (read_with ticket p.waiting_reads) s)

  blank : (p : Plain) (count : ℕ) → S p → A (blank_transition p m.sender count)
  unfolding blank_transition
  blank p count s = unless (not (is_id (successor p) m.sender)) _ _ s (λ e. unless (not p.ready) _ _ s (λ e. by.sends p p.past (Some m.sender) _ s))

  copied : (p : Plain) (past : Past) → S p → A (readiness_transition (record p { past = past }))
  copied p past s = readiness (record p { past = past }) (by.takes p past p.floor s)

  copy : (p : Plain) (position : ℕ) (state : State) → S p → A (copy_transition p m.sender position state)
  unfolding copy_transition
  copy p position state s = unless (not (is_id (predecessor p) m.sender)) _ _ s (λ e. unless (p.ready || nat_le position (length_of p)) _ _ s (λ e. copied p _ s))

  gathering : (p : Plain) (g : Gathering) (part : StatePart) → S p → m.body ≡ bodies.Part part → predecessor p ≡ Some m.sender → g.position ≡ part.position → A (gathering_transition p g part)
  gathering p g part s says from at =
      unless (not (part.count == g.count)) _ _ s (λ same. unless (is_some (at_number g.parts part.number)) _ _ s (λ e. unless (not (is_in_order g part)) _ _ s (λ e.
      let k : Gathering = with_part g part in
      let count : part.count ≡ g.count = eqb-true part.count g.count (not-false (part.count == g.count) same) in
      cond_both (is_whole k) _ _ A (λ w. copied p _ s) (λ w. by.silent _ refl (by.gathers p part k says from at (sym count) w s)))))

  parted : (p : Plain) (part : StatePart) → S p → m.body ≡ bodies.Part part → A (part_transition p m.sender part)
  unfolding part_transition
  parted p part s says =
      unless (not (is_id (predecessor p) m.sender)) _ _ s (λ from. unless (p.ready || is_outdated p part) _ _ s (λ late.
      let last : nat_lt part.position (gathered_position p.gathering) ≡ false = or_right (nat_le part.position (length_of p)) _ (or_right p.ready (is_outdated p part) late) in
      gathering p (gathering_for part p.gathering) part s says (is_it (predecessor p) m.sender from) (for_position part p.gathering last)))

  floored : (p : Plain) (count : ℕ) → S p → A (floor_transition p m.sender count)
  unfolding floor_transition
  floored p count s = unless (not (is_id (predecessor p) m.sender)) _ _ s (λ e. unless p.ready _ _ s (λ e. readiness (record p { floor = Some count }) (by.takes p p.past (Some count) s)))

  in_epoch : {p : Plain} {t : Transition} → S p → A t → A (transition_in_epoch p m t)
  in_epoch {p} {t} s h = by_test (m.epoch == p.epoch) A t _ h (by.silent _ refl s)

  by_body : (p : Plain) (b : Body) → m.body ≡ b → S p → A (body_transition p m b)
  by_body p (bodies.Config members) says s = configured p m.epoch members s
  by_body p (bodies.Entry e) says s = in_epoch s (entries p (e ∷ []) s)
  by_body p (bodies.Batch es) says s = in_epoch s (entries p es s)
  by_body p (bodies.Part x) says s = in_epoch s (parted p x s says)
  by_body p (bodies.Ack position) says s = in_epoch s (acknowledged p position s)
  by_body p (bodies.Query ticket key) says s = in_epoch s (queried p ticket key s)
  by_body p (bodies.VersionIs ticket version) says s = in_epoch s (versioned p ticket version s)
  by_body p (bodies.Blank count) says s = in_epoch s (blank p count s)
  by_body p (bodies.Copy position state) says s = in_epoch s (copy p position state s)
  by_body p (bodies.Floor count) says s = in_epoch s (floored p count s)

  pub by_message : (p : Plain) → S p → A (delivery_transition p m)
  by_message p s = by_body p m.body refl s

-- ---- a request

-- the proof obligations: if S holds of a node, A holds of its step by a request
pub record ByAsk (S : Plain → Type 0) (A : Transition → Type 0) : Type 0 where
  pub answered : (p : Plain) (past : Past) (answer : Answer) (to : Option ℕ) (bs : List Body) → S p → A (answered_transition (record p { past = past }) answer (to_neighbour to (λ to. send_all p to bs)))
  pub waits : (p : Plain) (past : Past) (us : List WaitingUpdate) (to : Option ℕ) (bs : List Body) → S p
      → A (accepted_transition (record p { past = past; waiting_updates = us }) (to_neighbour to (λ to. send_all p to bs)))
  pub asks : (p : Plain) (r : WaitingRead) (bs : List Body) → is_clean p r.key ≡ false → S p → A (accepted_transition (record p { waiting_reads = p.waiting_reads ++ r ∷ [] }) (send_all p (last_of p.members) bs))

abbrev pub IfTaken : (Transition → Type 0) → Result Transition Refusal → Type 0
IfTaken A (Ok t) = A t
IfTaken A (Err e) = ⊤

module _ (S : Plain → Type 0) (A : Transition → Type 0) (by : ByAsk S A) where
  refuses : (b : Bool) (e : Refusal) (r : Result Transition Refusal) → IfTaken A r → IfTaken A (cond b (Err e) r)
  refuses b e r h = by_test b (IfTaken A) (Err e) r tt h

  replied : (p : Plain) (past : Past) (position : ℕ) (reply : Reply) (to : Option ℕ) (bs : List Body) → S p → IfTaken A (reply_transition (record p { past = past }) position reply (to_neighbour to (λ to. send_all p to bs)))
  unfolding reply_transition
  replied p past position reply to bs s = by_test (nat_le position past.acknowledged) (IfTaken A) _ _ (by.answered p past _ to bs s) (refuses (is_full (record p { past = past })) _ _ (by.waits p past _ to bs s))

  committed : (p : Plain) (past : Past) (position : ℕ) (reply : Reply) (to : Option ℕ) (bs : List Body) → S p
      → IfTaken A (reply_transition (committed_if_last (record p { past = past })) position reply (to_neighbour to (λ to. send_all p to bs)))
  committed p past position reply to bs s = by_test _ (λ (q : Plain). IfTaken A (reply_transition q position reply (to_neighbour to (λ to. send_all p to bs)))) _ _ (replied p _ position reply to bs s) (replied p past position reply to bs s)

  updated : (p : Plain) (u : Update) (r : Option Reply) → S p → IfTaken A (update_transition p u r)
  unfolding update_transition
  updated p u (Some reply) s = committed p p.past _ reply None [] s
  updated p u None s = let e : Entry = entry_of p u (eval (newest p).objects u.command) in refuses (length_of p == greatest || some_used_up (newest p).objects (objects_named u.command)) _ _ (committed p (with_entry p e).past e.position e.reply _ _ s)

  read : (p : Plain) (mode : ReadMode) (key : List ℕ) → S p → IfTaken A (read_transition p mode key)
  unfolding read_transition waiting_read_transition
  read p Eventual key s = by.answered p p.past _ None [] s
  read p (Bounded k) key s = by.answered p p.past _ None [] s
  read p Strong key s = cond_both (is_clean p key) _ _ (IfTaken A) (λ e. by.answered p p.past _ None [] s) (λ dirty. refuses (is_full p) _ _ (by.asks p (record { ticket = p.last_ticket + 1; key = key }) (_ ∷ []) dirty s))

  accepted : (p : Plain) (ask : Ask) → S p → IfTaken A (accepted_ask_transition p ask)
  accepted p (asks.Update u) s = refuses (not (is_first p)) _ _ (refuses (p.last_ticket == greatest) _ _ (updated p u (said (newest p) u.client u.number) s))
  accepted p (asks.Read mode object) s = refuses (p.last_ticket == greatest) _ _ (read p mode object.key s)

  pub by_ask : (p : Plain) (ask : Ask) → S p → IfTaken A (ask_transition p ask)
  unfolding ask_transition
  by_ask p ask s = refuses (not p.ready) _ _ (refuses (not (all_of_chain p.name.chain (asked_objects ask))) _ _ (accepted p ask s))

-- ---- a step

pub in_step : (A : Transition → Type 0) (p : Plain) (e : Event) → IfTaken A (event_transition p e) → IfTaken A (node_step p e)
unfolding node_step
in_step A p e h = by_test p.running (IfTaken A) _ _ (within (event_transition p e) h) tt
  where
    within : (r : Result Transition Refusal) → IfTaken A r → IfTaken A (within_counts r)
    within (Ok t) h = by_test (outs_fit t.1.outs) (IfTaken A) _ _ h tt
    within (Err e) h = tt
