-- A step of a node, from the moves that it makes to the messages that it sends.
use Rattle.std.proofs.Common.{◌≡◌, ⊎_elim, ℕ, zero, suc, ◌+◌, true, List, [], ◌++◌, length, Option, Some, None, Result, Ok, Err, refl, ap, sym, subst, ◌∙◌}
use Rattle.std.proofs.lemmas.Bool.{cond_both, cases_eq}
use Rattle.std.specs.List.{AllByRecursion}
use Rattle.craq_names.specs.declared.refusal.Refusal.{Refusal}
use Rattle.craq_names.specs.declared.refusal.Refusal.TheVariants as refusals
use Rattle.craq_names.proofs.Lists.{all_append, all_like}
use Rattle.craq_commands.specs.declared.entry.Entry.{Entry}
use Rattle.craq_model.specs.declared.message.LinkMessage.{LinkMessage}
use Rattle.craq_model.specs.declared.ask.Event.{Event}
use Rattle.craq_model.specs.declared.ask.Event.TheVariants as events
use Rattle.craq_model.specs.declared.step.Step.{Step}
use Rattle.craq_model.specs.declared.step.Why.{Why}
use Rattle.craq_model.specs.Plain.{Plain, id_of}
use Rattle.craq_model.specs.Settle.{Transition, transition_ignoring}
use Rattle.craq_model.specs.Deliveries.{delivery_transition}
use Rattle.craq_model.specs.Node.{is_for, event_transition, outs_fit, within_counts, node_step}
use Rattle.craq_protocol.specs.Members.{membership_of}
use Rattle.craq_protocol.specs.Machine.{MachineState, Message, MachineMove, after_moves}
use Rattle.craq_protocol.specs.Promises.{Sent}
use Rattle.craq_protocol.proofs.Reached.{after_moves-append}
use Rattle.craq_runs.specs.declared.run.Move.TheVariants.{Deliver}
use Rattle.craq_runs.specs.Chain.{Chain, Progress, node_at, set_node, message_at, sent_in, transition_progress, node_progress, arrival_progress, numbers_left, counted_progress, chain_step}
use Rattle.craq_laws.proofs.Nodes.{node_here, node_elsewhere, node_id, ids_stay}
use Rattle.craq_refinement.specs.Follows.{ProtocolView, seen_of, NodeFollows, MessageFollows, Follows}
use Rattle.craq_refinement.specs.Lines.{moves_of_sends, StandsFor}
use Rattle.craq_refinement.proofs.Lists.{all_at}
use Rattle.craq_refinement.proofs.Worlds.{OnlyAt, only_self, gathered_later, others_follow}
use Rattle.craq_refinement.proofs.Sends.{Sendable, AfterSends, body_stays, sends_all}

-- the chain after a step of a node
abbrev pub moved : Chain → Transition → Chain
moved c t = record c { nodes = set_node c.nodes t.0; messages = c.messages ++ sent_in t.1.outs; moves = c.moves + 1 }

abbrev pub TransitionFollows : (List (MachineMove Entry) → Type 0) → Chain → MachineState Entry → Transition → Type 0
TransitionFollows Own c w t = StandsFor Own w (moved c t, t.1)

-- a node made its own moves, and sends nothing yet
pub record Changed (c : Chain) (w : MachineState Entry) (own : List (MachineMove Entry)) (v : MachineState Entry) (q : Plain) : Type 0 where
  pub was : Plain
  pub at : node_at c.nodes (id_of q) ≡ Some was
  pub is : after_moves w own ≡ v
  pub only : OnlyAt (id_of q) w v
  pub node : NodeFollows v (seen_of q)

-- a node that runs made its own moves, and sends nothing yet
pub record Stage (c : Chain) (w : MachineState Entry) (own : List (MachineMove Entry)) (v : MachineState Entry) (q : Plain) : Type 0 where
  pub was : Plain
  pub at : node_at c.nodes (id_of q) ≡ Some was
  pub is : after_moves w own ≡ v
  pub only : OnlyAt (id_of q) w v
  pub node : NodeFollows v (seen_of q)
  pub running : q.running ≡ true

messages_later : {v : MachineState Entry} {s : ProtocolView} (messages : List (Message Entry)) → ((m : Message Entry) → Sent v.messages m → Sent messages m) → NodeFollows v s → NodeFollows (record v { messages = messages }) s
messages_later {v} {s} messages kept n = record {
  running = n.running;
  epoch = n.epoch;
  members = n.members;
  ready = n.ready;
  history = n.history;
  placed = n.placed;
  acknowledged = n.acknowledged;
  based = n.based;
  floor = n.floor;
  gathering = gathered_later v.messages messages kept s.gathering n.gathering;
}

nodes_follow : {c : Chain} {w : MachineState Entry} {own : List (MachineMove Entry)} {v : MachineState Entry} {q : Plain} → Follows c w → Changed c w own v q
    → (id : ℕ) (p : Plain) → node_at (set_node c.nodes q) id ≡ Some p → NodeFollows v (seen_of p)
nodes_follow {c} {w} {own} {v} {q} f s id p h =
    ⊎_elim
    (λ e.
    let P : ℕ → Type 0 = λ k. node_at (set_node c.nodes q) k ≡ Some p in
    let same : q ≡ p = let a : Some q ≡ Some p = sym (node_here c.nodes q s.was s.at) ∙ subst P e h in cc in
    let Q : Plain → Type 0 = λ x. NodeFollows v (seen_of x) in subst Q same s.node)
    (λ ne.
    let old : node_at c.nodes id ≡ Some p = sym (node_elsewhere c.nodes q id ne) ∙ h in
    let same : id_of p ≡ id = node_id c.nodes id p old in
    others_follow s.only (seen_of p) (λ e. ne (sym same ∙ e)) (f.nodes id p old))
    (cases_eq id (id_of q))

-- then the messages are sent
pub changed_transition : {Own : List (MachineMove Entry) → Type 0} {c : Chain} {w : MachineState Entry} {own : List (MachineMove Entry)} {v : MachineState Entry} {q : Plain} → Follows c w → Changed c w own v q
    → Own own → (step : Step) → AfterSends v (moves_of_sends (sent_in step.outs)) (sent_in step.outs) → TransitionFollows Own c w (q, step)
changed_transition {Own} {c} {w} {own} {v} {q} f s line step sends =
    let ms : List LinkMessage = sent_in step.outs in
    let is : after_moves w (own ++ moves_of_sends ms) ≡ record v { messages = sends.messages } =
    after_moves-append own (moves_of_sends ms) w ∙ (ap (λ (x : MachineState Entry). after_moves x (moves_of_sends ms)) s.is ∙ sends.is)
    in
    let kept : (m : Message Entry) → Sent w.messages m → Sent sends.messages m =
    λ m i. let P : List (Message Entry) → Type 0 = λ l. Sent l m in sends.kept m (subst P (sym s.only.messages) i)
    in
    let M : List (List ℕ) → LinkMessage → Type 0 = λ cs. MessageFollows cs sends.messages in
    let P : List (List ℕ) → Type 0 = λ cs. AllByRecursion (M cs) c.messages in
    let old : AllByRecursion (M w.memberships) c.messages =
    all_like (MessageFollows w.memberships w.messages) (M w.memberships) c.messages
    (λ m b. body_stays w.memberships w.messages sends.messages kept m.epoch m.sender m.receiver m.body b) f.messages
    in
    let follows : Follows (moved c (q, step)) (record v { messages = sends.messages }) = record {
      epoch = ap length s.only.memberships ∙ f.epoch;
      members = ap (λ (cs : List (List ℕ)). membership_of cs (length cs)) s.only.memberships ∙ f.members;
      joined = s.only.joined ∙ (f.joined ∙ sym (ids_stay c.nodes q));
      nodes = λ id p h. messages_later sends.messages sends.kept (nodes_follow f s id p h);
      messages = all_append (M v.memberships) c.messages ms (subst P (sym s.only.memberships) old) sends.said;
    } in
    let Q : MachineState Entry → Type 0 = λ x. Follows (moved c (q, step)) x in
    record { own = own; line = line; follows = subst Q (sym is) follows }

-- and the node may send them
pub stage_transition : {Own : List (MachineMove Entry) → Type 0} {c : Chain} {w : MachineState Entry} {own : List (MachineMove Entry)} {v : MachineState Entry} {q : Plain} → Follows c w → Stage c w own v q
    → Own own → (step : Step) → AllByRecursion (Sendable v (id_of q)) (sent_in step.outs) → TransitionFollows Own c w (q, step)
stage_transition {Own} {c} {w} {own} {v} {q} f s line step a =
    let changed : Changed c w own v q = record { was = s.was; at = s.at; is = s.is; only = s.only; node = s.node } in
    changed_transition f changed line step (sends_all (sent_in step.outs) v (id_of q) (s.node.running ∙ s.running) a)

-- a node before its step
pub stage_before : {c : Chain} {w : MachineState Entry} → Follows c w → (p : Plain) → node_at c.nodes (id_of p) ≡ Some p → p.running ≡ true → Stage c w [] w p
stage_before {c} {w} f p at u = record { was = p; at = at; is = refl; only = only_self (id_of p) w; node = f.nodes (id_of p) p at; running = u }

-- a message that is ignored
pub ignored_follows : {Own : List (MachineMove Entry) → Type 0} {c : Chain} {w : MachineState Entry} → Follows c w → (p : Plain) → node_at c.nodes (id_of p) ≡ Some p → p.running ≡ true
    → Own [] → (why : Why) → TransitionFollows Own c w (transition_ignoring p why)
unfolding sent_in
ignored_follows f p at u line why = stage_transition f (stage_before f p at u) line (record { ticket = None; outs = []; ignored = Some why }) tt

-- ---- the parts of a move of a chain

pub record Took (c : Chain) (o : Option Plain) (e : Event) (x : Progress) : Type 0 where
  pub node : Plain
  pub there : o ≡ Some node
  pub running : node.running ≡ true
  pub transition : Transition
  pub does : event_transition node e ≡ Ok transition
  pub is : x ≡ (moved c transition, transition.1)

ok_same : {A B : Type 0} (x y : A) (r : Result A B) → r ≡ Ok x → r ≡ Ok y → x ≡ y
ok_same x y r d e = cc

took_counted : (c : Chain) (p : Plain) (e : Event) (x : Progress) → p.running ≡ true → (r : Result Transition Refusal) → event_transition p e ≡ r
    → counted_progress c (transition_progress c (within_counts r)) ≡ Ok x → Took c (Some p) e x
took_counted c p e x u (Err err) is k = absurd (cc)
took_counted c p e x u (Ok t) is k =
    cond_both (outs_fit t.1.outs) (Ok t) (Err refusals.Exhausted) (λ (r : Result Transition Refusal). counted_progress c (transition_progress c r) ≡ Ok x → Took c (Some p) e x)
    (λ fit.
    cond_both (numbers_left c t.1) (Ok (moved c t, t.1)) (Err refusals.Exhausted) (λ (r : Result Progress Refusal). r ≡ Ok x → Took c (Some p) e x)
    (λ left k. record { node = p; there = refl; running = u; transition = t; does = is; is = sym (ok_same (moved c t, t.1) x (Ok (moved c t, t.1)) refl k) })
    (λ left k. absurd (cc)))
    (λ fit k. absurd (cc))
    k

pub took : (c : Chain) (o : Option Plain) (e : Event) (x : Progress) → counted_progress c (node_progress c o e) ≡ Ok x → Took c o e x
unfolding node_step
took c None e x h = absurd (cc)
took c (Some p) e x h =
    cond_both p.running (within_counts (event_transition p e)) (Err refusals.Stopped) (λ (r : Result Transition Refusal). counted_progress c (transition_progress c r) ≡ Ok x → Took c (Some p) e x)
    (λ u k. took_counted c p e x u (event_transition p e) refl k)
    (λ u k. absurd (cc))
    h

-- a message arrived
pub record Arrived (c : Chain) (m : LinkMessage) (x : Progress) : Type 0 where
  pub node : Plain
  pub at : node_at c.nodes (id_of node) ≡ Some node
  pub running : node.running ≡ true
  pub own : m.receiver ≡ id_of node
  pub is : x ≡ (moved c (delivery_transition node m), (delivery_transition node m).1)

pub arrived : (c : Chain) (number : ℕ) (m : LinkMessage) (x : Progress) → message_at c.messages number ≡ Some m → chain_step c (Deliver number) ≡ Ok x → Arrived c m x
unfolding chain_step
arrived c number m x h k =
    let t : Took c (node_at c.nodes m.receiver) (events.Deliver m) x =
    took c (node_at c.nodes m.receiver) (events.Deliver m) x (sym (ap (λ o. counted_progress c (arrival_progress c o)) h) ∙ k)
    in
    let id : id_of t.node ≡ m.receiver = node_id c.nodes m.receiver t.node t.there in
    let P : ℕ → Type 0 = λ j. node_at c.nodes j ≡ Some t.node in
    let same : delivery_transition t.node m ≡ t.transition =
    cond_both (is_for t.node m) (Ok (delivery_transition t.node m)) (Err refusals.WrongNode) (λ (r : Result Transition Refusal). r ≡ Ok t.transition → delivery_transition t.node m ≡ t.transition)
    (λ e i. ok_same (delivery_transition t.node m) t.transition (Ok (delivery_transition t.node m)) refl i) (λ e i. absurd (cc)) t.does
    in
    record {
      node = t.node;
      at = subst P (sym id) t.there;
      running = t.running;
      own = sym id;
      is = t.is ∙ sym (ap (λ (t : Transition). (moved c t, t.1)) same);
    }

-- the content of the message was sent in the world
pub message_said : {c : Chain} {w : MachineState Entry} → Follows c w → (number : ℕ) (m : LinkMessage) → message_at c.messages number ≡ Some m → MessageFollows w.memberships w.messages m
message_said f zero m h = absurd (cc)
message_said {c} {w} f (suc i) m h = all_at (MessageFollows w.memberships w.messages) c.messages i m h f.messages
