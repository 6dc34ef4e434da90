-- A version that the tail reports does not change the clean state of the node that receives it.
use Rattle.std.proofs.Common.{◌≡◌, ◌+◌, ◌-◌, ℕ, Bool, true, false, List, [], ◌∷◌, ◌++◌, map, Option, Some, None, Result, Ok, Err, refl, sym, ap, subst, ◌∙◌}
use Rattle.std.specs.Prelude.{◌==◌, not, nat_lt, if◌then◌else◌, slice_index}
use Rattle.craq_names.specs.declared.refusal.Refusal.{Refusal}
use Rattle.craq_names.specs.declared.refusal.Refusal.TheVariants.{Exhausted, Stopped, WrongNode}
use Rattle.craq_commands.specs.declared.entry.Entry.{Entry}
use Rattle.craq_commands.specs.Objects.{object_of}
use Rattle.craq_commands.specs.declared.state.State.{State}
use Rattle.craq_model.specs.declared.ask.Event.TheVariants as events
use Rattle.craq_model.specs.declared.message.Body.{Body}
use Rattle.craq_model.specs.declared.message.Body.TheVariants as bodies
use Rattle.craq_model.specs.declared.message.LinkMessage.{LinkMessage}
use Rattle.craq_model.specs.declared.step.Out.TheVariants as outs
use Rattle.craq_model.specs.declared.step.Why.TheVariants.{NotNeighbour, OtherEpoch, TooFar}
use Rattle.craq_model.specs.declared.waiting.WaitingRead.{WaitingRead}
use Rattle.craq_model.specs.Members.{last_of}
use Rattle.craq_model.specs.Plain.{Plain, clean, id_of, newest_object, object_within}
use Rattle.craq_model.specs.Settle.{Transition, read_answer, transition_ignoring, transition_with}
use Rattle.craq_model.specs.Deliveries.{answering_version, body_transition, read_with, reads_without, reported_version_transition, version_transition}
use Rattle.craq_model.specs.Node.{event_transition, is_for, node_step, outs_fit, within_counts}
use Rattle.craq_laws.proofs.Kept.{name_kept}
use Rattle.craq_laws.proofs.Nodes.{node_here, node_id}
use Rattle.craq_runs.specs.declared.run.Move.{Move}
use Rattle.craq_runs.specs.declared.run.Move.TheVariants as moves
use Rattle.craq_runs.specs.Chain.{Chain, Progress, chain_step, counted_progress, message_at, node_at, node_progress, numbers_left, sent_in, set_node, transition_progress}
use Rattle.craq_runs.specs.Explain.{Account, clean_at, read_place, tail_word, word_in, word_of}
use Rattle.craq_runs.specs.Runs.{after_move, progressed}
use Rattle.craq_runs.specs.Seen.{node_of, receiver_of}
use Rattle.craq_chain.proofs.Received.{sent_to}

by_test : (b : Bool) (t u : Transition) (p : Plain) → clean t.0 ≡ clean p → clean u.0 ≡ clean p → clean (if b then t else u).0 ≡ clean p
by_test true t u p h k = h
by_test false t u p h k = k

reported_clean : (p : Plain) (version : ℕ) (r : Option WaitingRead) → clean (reported_version_transition p version r).0 ≡ clean p
unfolding reported_version_transition clean
reported_clean p version None = refl
reported_clean p version (Some r) =
    by_test (nat_lt (newest_object p r.key).0 version) (transition_ignoring p TooFar)
    (transition_with (record p { waiting_reads = reads_without r.ticket p.waiting_reads }) (outs.Answer r.ticket (read_answer (object_within p r.key (answering_version p r.key version))) ∷ []))
    p refl refl

version_clean : (p : Plain) (sender ticket version : ℕ) → clean (version_transition p sender ticket version).0 ≡ clean p
unfolding version_transition
version_clean p sender ticket version = by_test (not (sender == last_of p.members)) (transition_ignoring p NotNeighbour) (reported_version_transition p version (read_with ticket p.waiting_reads)) p refl (reported_clean p version (read_with ticket p.waiting_reads))

body_clean : (p : Plain) (m : LinkMessage) (ticket version : ℕ) → clean (body_transition p m (bodies.VersionIs ticket version)).0 ≡ clean p
body_clean p m ticket version = by_test (m.epoch == p.epoch) (version_transition p m.sender ticket version) (transition_ignoring p OtherEpoch) p (version_clean p m.sender ticket version) refl

-- a step keeps the clean state, or is refused
abbrev Cleans : Plain → Result Transition Refusal → Type 0
Cleans p (Ok t) = clean t.0 ≡ clean p
Cleans p (Err e) = Unit {0}

one_of : (p : Plain) (b : Bool) (r s : Result Transition Refusal) → Cleans p r → Cleans p s → Cleans p (if b then r else s)
one_of p true r s h k = h
one_of p false r s h k = k

within : (p : Plain) (r : Result Transition Refusal) → Cleans p r → Cleans p (within_counts r)
within p (Ok t) h = one_of p (outs_fit t.1.outs) (Ok t) (Err Exhausted) h tt
within p (Err e) h = tt

step_clean : (p : Plain) (m : LinkMessage) (ticket version : ℕ) → m.body ≡ bodies.VersionIs ticket version → Cleans p (node_step p (events.Deliver m))
unfolding node_step
step_clean p m ticket version e =
    one_of p p.running (within_counts (event_transition p (events.Deliver m))) (Err Stopped)
    (within p (event_transition p (events.Deliver m))
    (one_of p (is_for p m) (Ok (body_transition p m m.body)) (Err WrongNode) (subst (λ b. clean (body_transition p m b).0 ≡ clean p) (sym e) (body_clean p m ticket version)) tt))
    tt

after_transition : (nodes : List Plain) (id : ℕ) (p : Plain) (t : Transition) → node_at nodes id ≡ Some p → t.0.name ≡ p.name → node_at (set_node nodes t.0) id ≡ Some t.0
after_transition nodes id p t h name =
    let same : id_of t.0 ≡ id = ap (λ x. x.node) name ∙ node_id nodes id p h in
    subst (λ i. node_at (set_node nodes t.0) i ≡ Some t.0) same (node_here nodes t.0 p (ap (node_at nodes) same ∙ h))

module _ (c : Chain) (m : LinkMessage) (key : List ℕ) where
  unchanged : (found : Option Plain) → node_at c.nodes m.receiver ≡ found → clean_at found key ≡ clean_at (node_at c.nodes m.receiver) key
  unchanged found e = ap (λ (x : Option Plain). clean_at x key) (sym e)

  counted_clean : (p : Plain) (t : Transition) (b : Bool) → node_at c.nodes m.receiver ≡ Some p → t.0.name ≡ p.name → clean t.0 ≡ clean p → clean_at (Some p) key ≡ clean_at (node_at (progressed c (if b then (let r : Result Progress Refusal = Ok (record c { nodes = set_node c.nodes t.0; messages = c.messages ++ sent_in t.1.outs; moves = c.moves + 1 }, t.1) in r) else Err Exhausted)).nodes m.receiver) key
  counted_clean p t true e name same =
      ap (λ (s : State). (object_of s.objects key).0) (sym same)
      ∙ ap (λ (x : Option Plain). clean_at x key) (sym (after_transition c.nodes m.receiver p t e name))
  counted_clean p t false e name same = unchanged (Some p) e

  turned_clean : (p : Plain) (r : Result Transition Refusal) → node_at c.nodes m.receiver ≡ Some p → node_step p (events.Deliver m) ≡ r → Cleans p r → clean_at (Some p) key ≡ clean_at (node_at (progressed c (counted_progress c (transition_progress c r))).nodes m.receiver) key
  turned_clean p (Ok t) e step same = counted_clean p t (numbers_left c t.1) e (name_kept p t.0 (events.Deliver m) t.1 step) same
  turned_clean p (Err x) e step same = unchanged (Some p) e

  met_clean : (ticket version : ℕ) → m.body ≡ bodies.VersionIs ticket version → (found : Option Plain) → node_at c.nodes m.receiver ≡ found → clean_at found key ≡ clean_at (node_at (progressed c (counted_progress c (node_progress c found (events.Deliver m)))).nodes m.receiver) key
  met_clean ticket version w None e = unchanged None e
  met_clean ticket version w (Some p) e = turned_clean p (node_step p (events.Deliver m)) e refl (step_clean p m ticket version w)

-- the receiver's clean state is the same after the report arrives
arrived_clean : (c : Chain) (number : ℕ) (m : LinkMessage) (key : List ℕ) (ticket version : ℕ) → message_at c.messages number ≡ Some m → m.body ≡ bodies.VersionIs ticket version → clean_at (node_at c.nodes m.receiver) key ≡ clean_at (node_at (after_move c (moves.Deliver number)).nodes m.receiver) key
unfolding chain_step
arrived_clean c number m key ticket version e w = rw e (met_clean c m key ticket version w (node_at c.nodes m.receiver) refl)

word_place : (entries : List Entry) (c : Chain) (number sent : ℕ) (key : List ℕ) (m : LinkMessage) (b : Body) → message_at c.messages number ≡ Some m → m.body ≡ b → read_place entries (node_at (after_move c (moves.Deliver number)).nodes m.receiver) (word_of sent b) key ≡ read_place entries (node_at c.nodes m.receiver) (word_of sent b) key
word_place entries c number sent key m (bodies.VersionIs ticket version) e w = rw (sym (arrived_clean c number m key ticket version e w)) refl
word_place entries c number sent key m (bodies.Config members) e w = refl
word_place entries c number sent key m (bodies.Entry x) e w = refl
word_place entries c number sent key m (bodies.Batch xs) e w = refl
word_place entries c number sent key m (bodies.Ack position) e w = refl
word_place entries c number sent key m (bodies.Query ticket k) e w = refl
word_place entries c number sent key m (bodies.Blank count) e w = refl
word_place entries c number sent key m (bodies.Copy position state) e w = refl
word_place entries c number sent key m (bodies.Part part) e w = refl
word_place entries c number sent key m (bodies.Floor count) e w = refl

message_place : (entries : List Entry) (c : Chain) (number sent : ℕ) (key : List ℕ) (r : Option LinkMessage) → message_at c.messages number ≡ r → let node = receiver_of (map (λ (x : LinkMessage). x.receiver) c.messages) number in read_place entries (node_at (after_move c (moves.Deliver number)).nodes node) (word_in sent r) key ≡ read_place entries (node_at c.nodes node) (word_in sent r) key
message_place entries c number sent key None e = refl
message_place entries c number sent key (Some m) e =
    subst (λ node. read_place entries (node_at (after_move c (moves.Deliver number)).nodes node) (word_of sent m.body) key ≡ read_place entries (node_at c.nodes node) (word_of sent m.body) key) (sym (sent_to c.messages number m e)) (word_place entries c number sent key m m.body e refl)

-- a read has the same place by the node before the move and by the node after it
pub same_reads : (w : Account) (m : Move) (entries : List Entry) (key : List ℕ) → let node = node_of (map (λ (x : LinkMessage). x.receiver) w.chain.messages) m in read_place entries (node_at (after_move w.chain m).nodes node) (tail_word w m) key ≡ read_place entries (node_at w.chain.nodes node) (tail_word w m) key
same_reads w (moves.Deliver number) entries key = message_place entries w.chain number (slice_index w.sent_at (number - 1)) key (message_at w.chain.messages number) refl
same_reads w (moves.Ask node ask) entries key = refl
same_reads w (moves.Tick node) entries key = refl
same_reads w (moves.Stop node) entries key = refl
same_reads w (moves.Remove node) entries key = refl
same_reads w (moves.Join node) entries key = refl
