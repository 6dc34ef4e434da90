-- The fields that ticks and arrivals preserve.
use Rattle.std.proofs.Common.{◌≡◌, ⊎_elim, ℕ, ◌+◌, ◌==◌, List, [], ◌∷◌, ◌++◌, append_assoc, append-nil, Option, Some, None, Result, Ok, Err, refl, ap, sym, subst, ◌∙◌}
use Rattle.std.proofs.lemmas.Bool.{cases_eq, cond_both, cond-true}
use Rattle.std.specs.Prelude.{⊤}
use Rattle.std.specs.List.{AllByRecursion}
use Rattle.craq_names.specs.declared.refusal.Refusal.{Refusal}
use Rattle.craq_names.specs.declared.refusal.Refusal.TheVariants as refusals
use Rattle.craq_names.specs.declared.name.NodeName.{NodeName}
use Rattle.craq_model.specs.declared.ask.Event.{Event}
use Rattle.craq_model.specs.declared.ask.Event.TheVariants as events
use Rattle.craq_model.specs.declared.message.LinkMessage.{LinkMessage}
use Rattle.craq_model.specs.Deliveries.{delivery_transition}
use Rattle.craq_model.specs.Node.{event_transition, is_for, node_step}
use Rattle.craq_model.specs.Plain.{Plain, id_of}
use Rattle.craq_model.specs.Settle.{Transition}
use Rattle.craq_laws.proofs.Nodes.{node_here, node_elsewhere, node_id}
use Rattle.craq_runs.specs.declared.run.Move.{Move}
use Rattle.craq_runs.specs.declared.run.Move.TheVariants as moves
use Rattle.craq_runs.specs.Chain.{Chain, Progress, arrival_progress, chain_step, config_progress, counted_progress, is_running, message_at, node_at, node_progress, numbers_left, sent_in, set_node, tick_progress, transition_progress}
use Rattle.craq_runs.specs.Runs.{after_move, progressed}
use Rattle.craq_recovery.specs.Rounds.{after_moves_by}
use Rattle.craq_recovery.proofs.Running.{delivery_transition-runs}
use Rattle.craq_laws.proofs.Kept.{event_keeps_name}
use Rattle.craq_recovery.proofs.Sound.{Sound, sound_move}
use Rattle.craq_recovery.proofs.Lines.{IfTaken, by_test, in_step}

-- the master is unchanged, the messages that were sent stay, and no node begins or ends to run
pub record Onward (c d : Chain) : Type 0 where
  pub chain : d.chain ≡ c.chain
  pub epoch : d.epoch ≡ c.epoch
  pub members : d.members ≡ c.members
  pub sent : List LinkMessage
  pub messages : c.messages ++ sent ≡ d.messages
  pub running : (id : ℕ) → is_running (node_at d.nodes id) ≡ is_running (node_at c.nodes id)

pub onward_self : (c : Chain) → Onward c c
onward_self c = record { chain = refl; epoch = refl; members = refl; sent = []; messages = append-nil c.messages; running = λ id. refl }

pub onward_on : {b c d : Chain} → Onward b c → Onward c d → Onward b d
onward_on {b} {c} {d} f g = record {
  chain = g.chain ∙ f.chain;
  epoch = g.epoch ∙ f.epoch;
  members = g.members ∙ f.members;
  sent = f.sent ++ g.sent;
  messages = sym (append_assoc b.messages f.sent g.sent) ∙ (ap (λ l. l ++ g.sent) f.messages ∙ g.messages);
  running = λ id. g.running id ∙ f.running id;
}

-- a move's result, before it is counted, has the chain's master, its messages and its running nodes
record Leaves (c : Chain) (x : Progress) : Type 0 where
  chain : x.0.chain ≡ c.chain
  epoch : x.0.epoch ≡ c.epoch
  members : x.0.members ≡ c.members
  running : (id : ℕ) → is_running (node_at x.0.nodes id) ≡ is_running (node_at c.nodes id)

abbrev LeavesIfAny : Chain → Result Progress Refusal → Type 0
LeavesIfAny c (Ok x) = Leaves c x
LeavesIfAny c (Err e) = ⊤

-- an event that is no request and no stop
abbrev IsQuiet : Event → Type 0
IsQuiet (events.Ask ask) = ⊥
IsQuiet (events.Deliver m) = ⊤
IsQuiet events.Tick = ⊤
IsQuiet events.Stop = ⊥

-- a node keeps its name, and runs as before
abbrev Stays : Plain → Transition → Type 0
Stays p t = (t.0.name ≡ p.name) × (t.0.running ≡ p.running)

event_stays : (p : Plain) (e : Event) → IsQuiet e → IfTaken (Stays p) (event_transition p e)
event_stays p (events.Ask ask) q = absurd q
event_stays p (events.Deliver m) q =
    cond_both (is_for p m) (Ok (delivery_transition p m)) (Err refusals.WrongNode) (IfTaken (Stays p))
    (λ is. (event_keeps_name p (events.Deliver m) (delivery_transition p m) (cond-true (is_for p m) (Ok (delivery_transition p m)) (Err refusals.WrongNode) is), delivery_transition-runs p m))
    (λ e. tt)
event_stays p events.Tick q = (refl, refl)
event_stays p events.Stop q = absurd q

step_stays : (p : Plain) (e : Event) → IsQuiet e → IfTaken (Stays p) (node_step p e)
step_stays p e q = in_step (Stays p) p e (event_stays p e q)

-- a node that replaces the one of its name runs as that did
runs_alike : (nodes : List Plain) (p q : Plain) → node_at nodes (id_of p) ≡ Some p → q.name ≡ p.name → q.running ≡ p.running
    → (id : ℕ) → is_running (node_at (set_node nodes q) id) ≡ is_running (node_at nodes id)
runs_alike nodes p q at named runs id =
    let own : id_of q ≡ id_of p = ap (λ (n : NodeName). n.node) named in
    let P : ℕ → Type 0 = λ k. node_at nodes k ≡ Some p in
    let there : node_at nodes (id_of q) ≡ Some p = subst P (sym own) at in
    ⊎_elim
    (λ (e : id ≡ id_of q).
    let Q : ℕ → Type 0 = λ k. is_running (node_at (set_node nodes q) k) ≡ is_running (node_at nodes k) in
    subst Q (sym e) (ap is_running (node_here nodes q p there) ∙ (runs ∙ sym (ap is_running there))))
    (λ ne. ap is_running (node_elsewhere nodes q id ne))
    (cases_eq id (id_of q))

transition_leaves : (c : Chain) (p : Plain) (r : Result Transition Refusal) → node_at c.nodes (id_of p) ≡ Some p → IfTaken (Stays p) r → LeavesIfAny c (transition_progress c r)
transition_leaves c p (Ok t) at s = record { chain = refl; epoch = refl; members = refl; running = runs_alike c.nodes p t.0 at s.0 s.1 }
transition_leaves c p (Err e) at s = tt

node_leaves : (c : Chain) (id : ℕ) (o : Option Plain) (e : Event) → node_at c.nodes id ≡ o → IsQuiet e → LeavesIfAny c (node_progress c o e)
node_leaves c id None e at q = tt
node_leaves c id (Some p) e at q =
    let P : ℕ → Type 0 = λ k. node_at c.nodes k ≡ Some p in
    transition_leaves c p (node_step p e) (subst P (sym (node_id c.nodes id p at)) at) (step_stays p e q)

arrival_leaves : (c : Chain) (o : Option LinkMessage) → LeavesIfAny c (arrival_progress c o)
arrival_leaves c None = tt
arrival_leaves c (Some m) = node_leaves c m.receiver (node_at c.nodes m.receiver) (events.Deliver m) refl tt

tick_leaves : (c : Chain) (id : ℕ) → LeavesIfAny c (tick_progress c id)
tick_leaves c id =
    by_test (id == 0) (LeavesIfAny c) (Ok (config_progress c)) (node_progress c (node_at c.nodes id) events.Tick)
    (record { chain = refl; epoch = refl; members = refl; running = λ k. refl })
    (node_leaves c id (node_at c.nodes id) events.Tick refl tt)

counted_onward : (c : Chain) (r : Result Progress Refusal) → LeavesIfAny c r → Onward c (progressed c (counted_progress c r))
counted_onward c (Ok x) l =
    let y : Chain = record x.0 { messages = c.messages ++ sent_in x.1.outs; moves = c.moves + 1 } in
    by_test (numbers_left c x.1) (λ (r : Result Progress Refusal). Onward c (progressed c r)) (Ok (y, x.1)) (Err refusals.Exhausted)
    (record { chain = l.chain; epoch = l.epoch; members = l.members; sent = sent_in x.1.outs; messages = refl; running = l.running })
    (onward_self c)
counted_onward c (Err e) l = onward_self c

-- a tick or an arrival
abbrev pub IsTravel : Move → Type 0
IsTravel (moves.Ask node ask) = ⊥
IsTravel (moves.Deliver number) = ⊤
IsTravel (moves.Tick node) = ⊤
IsTravel (moves.Stop node) = ⊥
IsTravel (moves.Remove node) = ⊥
IsTravel (moves.Join node) = ⊥

pub onward_move : (c : Chain) (m : Move) → IsTravel m → Onward c (after_move c m)
unfolding chain_step
onward_move c (moves.Ask node ask) t = absurd t
onward_move c (moves.Deliver number) t = counted_onward c (arrival_progress c (message_at c.messages number)) (arrival_leaves c (message_at c.messages number))
onward_move c (moves.Tick node) t = counted_onward c (tick_progress c node) (tick_leaves c node)
onward_move c (moves.Stop node) t = absurd t
onward_move c (moves.Remove node) t = absurd t
onward_move c (moves.Join node) t = absurd t

pub onward_moves : (ms : List Move) (c : Chain) → AllByRecursion IsTravel ms → Onward c (after_moves_by after_move c ms)
onward_moves [] c a = onward_self c
onward_moves (m ∷ ms) c a = onward_on (onward_move c m a.0) (onward_moves ms (after_move c m) a.1)

pub sound_moves : (ms : List Move) (c : Chain) → Sound c → Sound (after_moves_by after_move c ms)
sound_moves [] c s = s
sound_moves (m ∷ ms) c s = sound_moves ms (after_move c m) (sound_move c m s)
