-- The lines that make no protocol move of their own, and stops.
use Rattle.std.proofs.Common.{◌≡◌, ℕ, ◌+◌, ◌==◌, nat_lt, Bool, false, not, cond, ◌||◌, List, [], ◌∷◌, ◌++◌, Option, Some, None, Result, Ok, Err, refl, subst}
use Rattle.std.proofs.lemmas.Bool.{cond_both}
use Rattle.craq_names.specs.Limits.{greatest}
use Rattle.craq_names.specs.declared.name.ObjectId.{ObjectId}
use Rattle.craq_names.specs.declared.refusal.Refusal.{Refusal}
use Rattle.craq_names.specs.declared.refusal.Refusal.TheVariants as refusals
use Rattle.craq_commands.specs.declared.entry.Entry.{Entry}
use Rattle.craq_commands.specs.declared.read_mode.ReadMode.{ReadMode}
use Rattle.craq_commands.specs.declared.read_mode.ReadMode.TheVariants.{Strong, Eventual, Bounded}
use Rattle.craq_commands.specs.Evaluation.{all_of_chain}
use Rattle.craq_model.specs.declared.message.Body.TheVariants as bodies
use Rattle.craq_model.specs.declared.message.LinkMessage.{LinkMessage}
use Rattle.craq_model.specs.declared.ask.Ask.TheVariants as asks
use Rattle.craq_model.specs.declared.ask.Answer.{Answer}
use Rattle.craq_model.specs.declared.step.Out.{Out}
use Rattle.craq_model.specs.declared.step.Out.TheVariants as outs
use Rattle.craq_model.specs.declared.step.Why.TheVariants.{NotNeighbour, NotReadyHere, UnknownTicket, TooFar}
use Rattle.craq_model.specs.declared.waiting.WaitingRead.{WaitingRead}
use Rattle.craq_model.specs.Members.{is_member, last_of}
use Rattle.craq_model.specs.Plain.{Plain, id_of, is_tail, newest_object, clean_object, object_within}
use Rattle.craq_model.specs.Sends.{send, tick_sends}
use Rattle.craq_model.specs.Settle.{Transition, transition_ignoring, transition_with, read_answer}
use Rattle.craq_model.specs.Asks.{accepted_transition, answered_transition, is_full, is_clean, waiting_read_transition, read_transition, accepted_ask_transition, ask_transition}
use Rattle.craq_model.specs.Deliveries.{query_transition, read_with, reads_without, answering_version, reported_version_transition, version_transition, transition_in_epoch}
use Rattle.craq_protocol.specs.Members.{with_value}
use Rattle.craq_protocol.specs.Machine.{MachineState, Stop}
use Rattle.craq_protocol.proofs.Lists.{put_same, put_other}
use Rattle.craq_runs.specs.Chain.{Chain, sent_in}
use Rattle.craq_refinement.specs.Follows.{seen_of, NodeFollows}
use Rattle.craq_refinement.specs.Lines.{IsNothing}
use Rattle.craq_refinement.proofs.Sends.{AfterSends}
use Rattle.craq_refinement.proofs.Stages.{TransitionFollows, Changed, Stage, changed_transition, stage_transition, stage_before, ignored_follows}
use Rattle.craq_refinement.proofs.Ticks.{sendable_one, tick_sendable}
use Rattle.craq_refinement.proofs.Here.{Here, here_node, guard, in_epoch}
use Rattle.craq_refinement.proofs.Updates.{refused, transition_same, accepts}

before : {c : Chain} {w : MachineState Entry} (p : Plain) → Here c w p → Stage c w [] w p
before p h = stage_before h.follows p h.at h.running

pub query_follows : {c : Chain} {w : MachineState Entry} (p : Plain) → Here c w p → (m : LinkMessage) (ticket : ℕ) (key : List ℕ) → TransitionFollows IsNothing c w (transition_in_epoch p m (query_transition p m.sender ticket key))
unfolding query_transition
query_follows {c} {w} p h m ticket key =
    let none : IsNothing [] = refl in
    let last : Transition = transition_with p (send p m.sender (bodies.VersionIs ticket (newest_object p key).0) ∷ []) in
    in_epoch p h none m (query_transition p m.sender ticket key)
    (λ ep. guard p h none ((m.sender == id_of p) || not (is_member p.members m.sender)) NotNeighbour (cond (not (is_tail p)) (transition_ignoring p NotReadyHere) last)
    (λ a. guard p h none (not (is_tail p)) NotReadyHere last
    (λ b. stage_transition h.follows (before p h) none (record { ticket = None; outs = send p m.sender (bodies.VersionIs ticket (newest_object p key).0) ∷ []; ignored = None })
    (sendable_one p (here_node p h) m.sender (bodies.VersionIs ticket (newest_object p key).0) tt))))

reported_follows : {c : Chain} {w : MachineState Entry} (p : Plain) → Here c w p → (version : ℕ) (o : Option WaitingRead) → TransitionFollows IsNothing c w (reported_version_transition p version o)
unfolding reported_version_transition sent_in
reported_follows p h version None = ignored_follows h.follows p h.at h.running refl UnknownTicket
reported_follows {c} {w} p h version (Some r) =
    let q : Plain = record p { waiting_reads = reads_without r.ticket p.waiting_reads } in
    let os : List Out = outs.Answer r.ticket (read_answer (object_within p r.key (answering_version p r.key version))) ∷ [] in
    let s : Stage c w [] w p = before p h in
    let t : Stage c w [] w q = record { was = s.was; at = s.at; is = s.is; only = s.only; node = s.node; running = s.running } in
    guard p h refl (nat_lt (newest_object p r.key).0 version) TooFar (transition_with q os)
    (λ a. stage_transition h.follows t refl (record { ticket = None; outs = os; ignored = None }) tt)

pub version_follows : {c : Chain} {w : MachineState Entry} (p : Plain) → Here c w p → (m : LinkMessage) (ticket version : ℕ) → TransitionFollows IsNothing c w (transition_in_epoch p m (version_transition p m.sender ticket version))
unfolding version_transition
version_follows p h m ticket version =
    in_epoch p h refl m (version_transition p m.sender ticket version)
    (λ ep. guard p h refl (not (m.sender == last_of p.members)) NotNeighbour (reported_version_transition p version (read_with ticket p.waiting_reads))
    (λ a. reported_follows p h version (read_with ticket p.waiting_reads)))

pub tick_follows : {c : Chain} {w : MachineState Entry} (p : Plain) → Here c w p → TransitionFollows IsNothing c w (transition_with p (tick_sends p))
tick_follows p h = stage_transition h.follows (before p h) refl (record { ticket = None; outs = tick_sends p; ignored = None }) (tick_sendable p (here_node p h))

-- ---- reads

answer_now : {c : Chain} {w : MachineState Entry} (p : Plain) → Here c w p → (answer : Answer) → TransitionFollows IsNothing c w (answered_transition p answer [])
unfolding sent_in
answer_now p h answer = accepts p h.follows (before p h) refl (outs.Answer (p.last_ticket + 1) answer ∷ []) tt

read_waits : {c : Chain} {w : MachineState Entry} (p : Plain) → Here c w p → (key : List ℕ) (t : Transition) → waiting_read_transition p key ≡ Ok t → TransitionFollows IsNothing c w t
unfolding waiting_read_transition
read_waits {c} {w} p h key t k =
    let q : Plain = record p { waiting_reads = p.waiting_reads ++ (record { ticket = p.last_ticket + 1; key = key }) ∷ [] } in
    let os : List Out = send p (last_of p.members) (bodies.Query (p.last_ticket + 1) key) ∷ [] in
    let g : (is_full p ≡ false) × (Ok (accepted_transition q os) ≡ Ok t) = refused (is_full p) refusals.PendingFull (Ok (accepted_transition q os)) k in
    let s : Stage c w [] w p = before p h in
    let r : Stage c w [] w q = record { was = s.was; at = s.at; is = s.is; only = s.only; node = s.node; running = s.running } in
    let P : Transition → Type 0 = λ t. TransitionFollows IsNothing c w t in
    subst P (transition_same (accepted_transition q os) t (Ok (accepted_transition q os)) refl g.1)
    (accepts q h.follows r refl os (sendable_one p (here_node p h) (last_of p.members) (bodies.Query (p.last_ticket + 1) key) tt))

same_transition : (c : Chain) (w : MachineState Entry) (s t : Transition) (r : Result Transition Refusal) → r ≡ Ok s → TransitionFollows IsNothing c w s → r ≡ Ok t → TransitionFollows IsNothing c w t
same_transition c w s t r e a k = let P : Transition → Type 0 = λ t. TransitionFollows IsNothing c w t in subst P (transition_same s t r e k) a

reads : {c : Chain} {w : MachineState Entry} (p : Plain) → Here c w p → (mode : ReadMode) (key : List ℕ) (t : Transition) → read_transition p mode key ≡ Ok t → TransitionFollows IsNothing c w t
unfolding read_transition
reads {c} {w} p h Eventual key t k =
    let answer : Answer = read_answer (newest_object p key) in same_transition c w (answered_transition p answer []) t (Ok (answered_transition p answer [])) refl (answer_now p h answer) k
reads {c} {w} p h (Bounded b) key t k =
    let answer : Answer = read_answer (object_within p key ((clean_object p key).0 + b)) in same_transition c w (answered_transition p answer []) t (Ok (answered_transition p answer [])) refl (answer_now p h answer) k
reads {c} {w} p h Strong key t k =
    let answer : Answer = read_answer (newest_object p key) in
    cond_both (is_clean p key) (Ok (answered_transition p answer [])) (waiting_read_transition p key) (λ (r : Result Transition Refusal). r ≡ Ok t → TransitionFollows IsNothing c w t)
    (λ e i. same_transition c w (answered_transition p answer []) t (Ok (answered_transition p answer [])) refl (answer_now p h answer) i)
    (λ e i. read_waits p h key t i)
    k

pub read_follows : {c : Chain} {w : MachineState Entry} (p : Plain) → Here c w p → (mode : ReadMode) (object : ObjectId) (t : Transition) → ask_transition p (asks.Read mode object) ≡ Ok t → TransitionFollows IsNothing c w t
unfolding ask_transition
read_follows {c} {w} p h mode object t k =
    let here : Bool = all_of_chain p.name.chain (object ∷ []) in
    let a : _ = refused (not p.ready) refusals.NotReady (cond (not here) (Err refusals.TwoChains) (accepted_ask_transition p (asks.Read mode object))) k in
    let b : _ = refused (not here) refusals.TwoChains (accepted_ask_transition p (asks.Read mode object)) a.1 in
    let d : _ = refused (p.last_ticket == greatest) refusals.Exhausted (read_transition p mode object.key) b.1 in
    reads p h mode object.key t d.1

-- ---- stops

pub stop_follows : {c : Chain} {w : MachineState Entry} (p : Plain) → Here c w p → TransitionFollows (λ own. own ≡ Stop (id_of p) ∷ []) c w (transition_with (record p { running = false }) [])
unfolding sent_in
stop_follows {c} {w} p h =
    let id : ℕ = id_of p in
    let n : NodeFollows w (seen_of p) = here_node p h in
    let v : MachineState Entry = record w { running = with_value w.running id false } in
    let s : Changed c w (Stop id ∷ []) v (record p { running = false }) = record {
      was = p;
      at = h.at;
      is = refl;
      only = record {
        memberships = refl;
        joined = refl;
        messages = refl;
        running = λ n ne. put_other w.running id false n ne;
        epoch = λ n ne. refl;
        ready = λ n ne. refl;
        history = λ n ne. refl;
        acknowledged = λ n ne. refl;
        floor = λ n ne. refl;
      };
      node = record {
        running = put_same w.running id false;
        epoch = n.epoch;
        members = n.members;
        ready = n.ready;
        history = n.history;
        placed = n.placed;
        acknowledged = n.acknowledged;
        based = n.based;
        floor = n.floor;
        gathering = n.gathering;
      };
    } in
    let nothing : AfterSends v [] [] = record { messages = v.messages; is = refl; kept = λ m i. i; said = tt } in
    changed_transition h.follows s refl (record { ticket = None; outs = []; ignored = None }) nothing
