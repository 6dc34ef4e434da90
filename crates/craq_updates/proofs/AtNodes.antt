-- The changes of a step at its node, for every event.
use Rattle.std.proofs.Common.{◌≡◌, ◌≢◌, ◌⊎◌, inl, inr, ⊎_elim, ℕ, ◌≤◌, true, false, [], length, Some, Result, Ok, Err, refl, ap, sym, subst, ◌∙◌, arith}
use Rattle.std.proofs.lemmas.Bool.{cond_both}
use Rattle.craq_names.specs.declared.refusal.Refusal.{Refusal}
use Rattle.craq_names.specs.declared.refusal.Refusal.TheVariants as refusals
use Rattle.craq_names.specs.declared.name.NodeName.{NodeName}
use Rattle.craq_commands.specs.declared.entry.Entry.{Entry}
use Rattle.craq_model.specs.declared.message.Body.{Body}
use Rattle.craq_model.specs.declared.message.Body.TheVariants as bodies
use Rattle.craq_model.specs.declared.message.LinkMessage.{LinkMessage}
use Rattle.craq_model.specs.declared.ask.Event.{Event}
use Rattle.craq_model.specs.declared.ask.Event.TheVariants as events
use Rattle.craq_model.specs.Plain.{Plain, id_of}
use Rattle.craq_model.specs.Settle.{Transition, transition_with}
use Rattle.craq_model.specs.Sends.{tick_sends}
use Rattle.craq_model.specs.Deliveries.{delivery_transition}
use Rattle.craq_model.specs.Node.{is_for, event_transition}
use Rattle.craq_protocol.specs.Machine as machine
use Rattle.craq_protocol.specs.Machine.{MachineState}
use Rattle.craq_protocol.specs.Promises.{IsReached, IsSafe, Sent, IsPrefix}
use Rattle.craq_protocol.proofs.Prefix.{prefix_length}
use Rattle.craq_protocol.proofs.Reached.{reached_safe}
use Rattle.craq_runs.specs.declared.run.Move.{Move}
use Rattle.craq_runs.specs.declared.run.Move.TheVariants as moves
use Rattle.craq_runs.specs.Chain.{Chain, Progress, node_at, set_node, message_at}
use Rattle.craq_refinement.specs.Follows.{seen_of, PartFollows, NodeFollows, Follows, BodyFollows, said}
use Rattle.craq_refinement.proofs.EachLine.{said_as}
use Rattle.craq_refinement.proofs.Updates.{transition_same}
use Rattle.craq_laws.proofs.Kept.{event_keeps_name}
use Rattle.craq_laws.proofs.Nodes.{node_id, node_here, node_elsewhere}
use Rattle.craq_updates.proofs.EachMove.{place_of}
use Rattle.craq_updates.proofs.Transitions.{Delivers, body_delivers, Accepts, ask_accepts}
use Rattle.craq_updates.proofs.Places.{EventOf, AtNode}

pub was_id : {c : Chain} {chosen : Move} {x : Progress} (a : AtNode c chosen x) → id_of a.was ≡ place_of c chosen
was_id {c} {chosen} a = node_id c.nodes (place_of c chosen) a.was a.at

pub now_name : {c : Chain} {chosen : Move} {x : Progress} (a : AtNode c chosen x) → a.transition.0.name ≡ a.was.name
now_name a = event_keeps_name a.was a.event a.transition a.does

pub now_id : {c : Chain} {chosen : Move} {x : Progress} (a : AtNode c chosen x) → id_of a.transition.0 ≡ place_of c chosen
now_id a = ap (λ (n : NodeName). n.node) (now_name a) ∙ was_id a

pub nodes_after : {c : Chain} {chosen : Move} {x : Progress} (a : AtNode c chosen x) → x.0.nodes ≡ set_node c.nodes a.transition.0
nodes_after a = ap (λ (y : Progress). y.0.nodes) a.is

-- the node is found again
pub now_at : {c : Chain} {chosen : Move} {x : Progress} (a : AtNode c chosen x) → node_at x.0.nodes (place_of c chosen) ≡ Some a.transition.0
now_at {c} {chosen} {x} a =
    let id : ℕ = id_of a.transition.0 in
    let P : ℕ → Type 0 = λ j. node_at c.nodes j ≡ Some a.was in
    let Q : ℕ → Type 0 = λ j. node_at (set_node c.nodes a.transition.0) j ≡ Some a.transition.0 in
    ap (λ l. node_at l (place_of c chosen)) (nodes_after a) ∙ subst Q (now_id a) (node_here c.nodes a.transition.0 a.was (subst P (sym (now_id a)) a.at))

-- and the others stay
pub others_stay : {c : Chain} {chosen : Move} {x : Progress} (a : AtNode c chosen x) (id : ℕ) → id ≢ place_of c chosen → node_at x.0.nodes id ≡ node_at c.nodes id
others_stay {c} {chosen} {x} a id ne =
    ap (λ l. node_at l id) (nodes_after a) ∙ node_elsewhere c.nodes a.transition.0 id (λ e. ne (e ∙ now_id a))

-- ---- base and tickets

-- a message for the node
pub for_node : (p : Plain) (m : LinkMessage) (t : Transition) → event_transition p (events.Deliver m) ≡ Ok t → delivery_transition p m ≡ t
for_node p m t h =
    cond_both (is_for p m) (Ok (delivery_transition p m)) (Err refusals.WrongNode) (λ (r : Result Transition Refusal). r ≡ Ok t → delivery_transition p m ≡ t)
    (λ e i. transition_same (delivery_transition p m) t (Ok (delivery_transition p m)) refl i) (λ e i. absurd (cc)) h

pub tick_same : (p : Plain) (t : Transition) → event_transition p events.Tick ≡ Ok t → transition_with p (tick_sends p) ≡ t
tick_same p t h = transition_same (transition_with p (tick_sends p)) t (event_transition p events.Tick) refl h

pub stop_same : (p : Plain) (t : Transition) → event_transition p events.Stop ≡ Ok t → transition_with (record p { running = false }) [] ≡ t
stop_same p t h = transition_same (transition_with (record p { running = false }) []) t (event_transition p events.Stop) refl h

tickets_by : (p : Plain) (e : Event) (t : Transition) → event_transition p e ≡ Ok t → p.last_ticket ≤ t.0.last_ticket
tickets_by p (events.Ask ask) t h = let a : Accepts p t = ask_accepts p ask t h in omega (arith, a.last)
tickets_by p (events.Deliver m) t h =
    let d : Delivers p m.body (delivery_transition p m) = body_delivers p m m.body in
    let P : Transition → Type 0 = λ t. p.last_ticket ≤ t.0.last_ticket in
    subst P (for_node p m t h) (omega (arith, d.last))
tickets_by p events.Tick t h = let P : Transition → Type 0 = λ t. p.last_ticket ≤ t.0.last_ticket in subst P (tick_same p t h) (omega arith)
tickets_by p events.Stop t h = let P : Transition → Type 0 = λ t. p.last_ticket ≤ t.0.last_ticket in subst P (stop_same p t h) (omega arith)

pub tickets_rise : {c : Chain} {chosen : Move} {x : Progress} (a : AtNode c chosen x) → a.was.last_ticket ≤ a.transition.0.last_ticket
tickets_rise a = tickets_by a.was a.event a.transition a.does

-- the base is no more than the number committed before the step
based_before : {c : Chain} {w : MachineState Entry} → Follows c w → IsReached w → (id : ℕ) (p : Plain) → node_at c.nodes id ≡ Some p → p.past.base ≤ length w.log
based_before {c} {w} f r id p at =
    let n : NodeFollows w (seen_of p) = f.nodes id p at in
    let s : IsSafe w = reached_safe r in
    let k : w.acknowledged (id_of p) ≤ length w.log = (s.acknowledged (id_of p)).1 in
    omega (arith, n.based, n.acknowledged, k)

based_body : {c : Chain} {w : MachineState Entry} → Follows c w → IsReached w → (p : Plain) (number : ℕ) (m : LinkMessage) (b : Body) (t : Transition) → message_at c.messages number ≡ Some m → m.body ≡ b → p.past.base ≤ length w.log
    → Delivers p b t → t.0.past.base ≤ length w.log
based_body f r p number m (bodies.Config members) t at is le d = omega (arith, d.based, le)
based_body f r p number m (bodies.Entry e) t at is le d = omega (arith, d.based, le)
based_body f r p number m (bodies.Ack position) t at is le d = omega (arith, d.based, le)
based_body f r p number m (bodies.Query ticket key) t at is le d = omega (arith, d.based, le)
based_body f r p number m (bodies.VersionIs ticket version) t at is le d = omega (arith, d.based, le)
based_body f r p number m (bodies.Blank count) t at is le d = omega (arith, d.based, le)
based_body f r p number m (bodies.Batch es) t at is le d = omega (arith, d.based, le)
based_body {c} {w} f r p number m (bodies.Part part) t at is le d =
    let s : IsSafe w = reached_safe r in
    let b : PartFollows w.messages m.epoch m.sender m.receiver part = said_as f number m (bodies.Part part) at is in
    let short : length b.entries ≤ length w.log = prefix_length (s.copy (said m.epoch m.sender m.receiver (machine.Copy b.entries)) b.entries b.sent refl) in
    ⊎_elim (λ e. omega (arith, e, le)) (λ e. omega (arith, e, short, b.count)) d.based
based_body {c} {w} f r p number m (bodies.Copy position state) t at is le d =
    let s : IsSafe w = reached_safe r in
    let b : BodyFollows w.memberships w.messages m.epoch m.sender m.receiver (bodies.Copy position state) = said_as f number m (bodies.Copy position state) at is in
    let sent : Sent w.messages (said m.epoch m.sender m.receiver (machine.Copy b.0)) = b.4 in
    let p : IsPrefix b.0 w.log = s.copy (said m.epoch m.sender m.receiver (machine.Copy b.0)) b.0 sent refl in
    let short : length b.0 ≤ length w.log = prefix_length p in
    let count : length b.0 ≡ position = b.1 in
    ⊎_elim (λ e. omega (arith, e, le)) (λ e. omega (arith, e, short, count)) d.based
based_body f r p number m (bodies.Floor count) t at is le d = omega (arith, d.based, le)

based_by : {c : Chain} {w : MachineState Entry} → Follows c w → IsReached w → (chosen : Move) (p : Plain) (e : Event) (t : Transition) → EventOf c chosen e → p.past.base ≤ length w.log → event_transition p e ≡ Ok t → t.0.past.base ≤ length w.log
based_by f r chosen p (events.Ask ask) t by le h = let a : Accepts p t = ask_accepts p ask t h in omega (arith, a.based, le)
based_by {c} {w} f r (moves.Deliver number) p (events.Deliver m) t by le h =
    let same : events.Deliver by.0 ≡ events.Deliver m = sym by.2 in
    let there : by.0 ≡ m = cc in
    let P : LinkMessage → Type 0 = λ m. message_at c.messages number ≡ Some m in
    let Q : Transition → Type 0 = λ t. t.0.past.base ≤ length w.log in
    subst Q (for_node p m t h) (based_body f r p number m m.body (delivery_transition p m) (subst P there by.1) refl le (body_delivers p m m.body))
based_by f r (moves.Ask node ask) p (events.Deliver m) t by le h = absurd (cc)
based_by f r (moves.Tick node) p (events.Deliver m) t by le h = absurd (cc)
based_by f r (moves.Stop node) p (events.Deliver m) t by le h = absurd (cc)
based_by f r (moves.Remove node) p (events.Deliver m) t by le h = absurd by
based_by f r (moves.Join node) p (events.Deliver m) t by le h = absurd by
based_by {c} {w} f r chosen p events.Tick t by le h = let P : Transition → Type 0 = λ t. t.0.past.base ≤ length w.log in subst P (tick_same p t h) le
based_by {c} {w} f r chosen p events.Stop t by le h = let P : Transition → Type 0 = λ t. t.0.past.base ≤ length w.log in subst P (stop_same p t h) le

pub now_based : {c : Chain} {w : MachineState Entry} {chosen : Move} {x : Progress} → Follows c w → IsReached w → (a : AtNode c chosen x) → a.transition.0.past.base ≤ length w.log
now_based {c} {w} {chosen} f r a = based_by f r chosen a.was a.event a.transition a.by (based_before f r (place_of c chosen) a.was a.at) a.does

-- ---- running nodes

runs_by : (p : Plain) (e : Event) (t : Transition) → event_transition p e ≡ Ok t → p.running ≡ true → (t.0.running ≡ true) ⊎ (t.0 ≡ record p { running = false })
runs_by p (events.Ask ask) t h r = let a : Accepts p t = ask_accepts p ask t h in inl (a.runs ∙ r)
runs_by p (events.Deliver m) t h r =
    let d : Delivers p m.body (delivery_transition p m) = body_delivers p m m.body in
    let P : Transition → Type 0 = λ t. t.0.running ≡ true in
    inl (subst P (for_node p m t h) (d.runs ∙ r))
runs_by p events.Tick t h r = let P : Transition → Type 0 = λ t. t.0.running ≡ true in inl (subst P (tick_same p t h) r)
runs_by p events.Stop t h r = inr (sym (ap (λ (t : Transition). t.0) (stop_same p t h)))

-- a node that took a step runs, or has stopped in it
pub runs_or_stops : {c : Chain} {chosen : Move} {x : Progress} (a : AtNode c chosen x) → (a.transition.0.running ≡ true) ⊎ (a.transition.0 ≡ record a.was { running = false })
runs_or_stops a = runs_by a.was a.event a.transition a.does a.running
