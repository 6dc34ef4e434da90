-- The lines of a node's step, in a chain.
use Rattle.std.proofs.Common.{◌≡◌, ℕ, List, Some, Ok, ap, sym, subst}
use Rattle.craq_commands.specs.declared.command.Update.{Update}
use Rattle.craq_commands.specs.declared.entry.Entry.{Entry}
use Rattle.craq_model.specs.declared.message.Body.{Body}
use Rattle.craq_model.specs.declared.message.Body.TheVariants as bodies
use Rattle.craq_model.specs.declared.message.LinkMessage.{LinkMessage}
use Rattle.craq_model.specs.declared.ask.Ask.TheVariants as asks
use Rattle.craq_model.specs.declared.ask.Event.TheVariants as events
use Rattle.craq_model.specs.Plain.{id_of}
use Rattle.craq_model.specs.Settle.{Transition}
use Rattle.craq_model.specs.Deliveries.{body_transition}
use Rattle.craq_protocol.specs.Machine.{MachineState, MachineMove}
use Rattle.craq_protocol.specs.Promises.{IsReached}
use Rattle.craq_runs.specs.declared.run.Move.TheVariants.{Ask, Deliver}
use Rattle.craq_runs.specs.Chain.{Chain, Progress, node_at, message_at, chain_step}
use Rattle.craq_laws.proofs.Nodes.{node_id}
use Rattle.craq_refinement.specs.Follows.{BodyFollows, Follows}
use Rattle.craq_refinement.specs.Lines.{StandsFor, IsTaking, IsTakingAll, IsHearing, IsAdopting, IsUpdating}
use Rattle.craq_refinement.proofs.Stages.{TransitionFollows, Took, took, Arrived, arrived, message_said}
use Rattle.craq_refinement.proofs.Here.{Here}
use Rattle.craq_refinement.proofs.Entries.{entry_follows, batch_follows}
use Rattle.craq_refinement.proofs.Acks.{ack_follows}
use Rattle.craq_refinement.proofs.Configs.{config_follows}
use Rattle.craq_refinement.proofs.Updates.{update_follows}

-- a property of the step that a message's body makes holds of the move
pub delivered : (Own : ℕ → List (MachineMove Entry) → Type 0) {c : Chain} {w : MachineState Entry} (m : LinkMessage) (b : Body) (x : Progress) → m.body ≡ b → (a : Arrived c m x)
    → TransitionFollows (Own (id_of a.node)) c w (body_transition a.node m b) → StandsFor (Own m.receiver) w x
delivered Own {c} {w} m b x is a t =
    let P : Transition → Type 0 = λ t. TransitionFollows (Own (id_of a.node)) c w t in
    let Q : ℕ → Type 0 = λ id. StandsFor (Own id) w x in
    let R : Progress → Type 0 = λ y. StandsFor (Own (id_of a.node)) w y in
    subst Q (sym a.own) (subst R (sym a.is) (subst P (sym (ap (body_transition a.node m) is)) t))

pub said_as : {c : Chain} {w : MachineState Entry} → Follows c w → (number : ℕ) (m : LinkMessage) (b : Body) → message_at c.messages number ≡ Some m → m.body ≡ b
    → BodyFollows w.memberships w.messages m.epoch m.sender m.receiver b
said_as {c} {w} f number m b at is = let P : Body → Type 0 = λ b. BodyFollows w.memberships w.messages m.epoch m.sender m.receiver b in subst P is (message_said f number m at)

pub entry_line : (c : Chain) (w : MachineState Entry) (number : ℕ) (m : LinkMessage) (e : Entry) (x : Progress) → Follows c w → message_at c.messages number ≡ Some m → m.body ≡ bodies.Entry e
    → chain_step c (Deliver number) ≡ Ok x → StandsFor (IsTaking m.receiver) w x
entry_line c w number m e x f at is step =
    let a : Arrived c m x = arrived c number m x at step in
    let h : Here c w a.node = record { follows = f; at = a.at; running = a.running } in
    delivered (λ id. IsTaking id) m (bodies.Entry e) x is a (entry_follows a.node h m e a.own (said_as f number m (bodies.Entry e) at is))

pub batch_line : (c : Chain) (w : MachineState Entry) (number : ℕ) (m : LinkMessage) (es : List Entry) (x : Progress) → Follows c w → message_at c.messages number ≡ Some m → m.body ≡ bodies.Batch es
    → chain_step c (Deliver number) ≡ Ok x → StandsFor (IsTakingAll m.receiver) w x
batch_line c w number m es x f at is step =
    let a : Arrived c m x = arrived c number m x at step in
    let h : Here c w a.node = record { follows = f; at = a.at; running = a.running } in
    let s : BodyFollows w.memberships w.messages m.epoch m.sender m.receiver (bodies.Batch es) = said_as f number m (bodies.Batch es) at is in
    delivered (λ id. IsTakingAll id) m (bodies.Batch es) x is a (batch_follows a.node h m es s.0 a.own s.1 s.2)

pub ack_line : (c : Chain) (w : MachineState Entry) (number : ℕ) (m : LinkMessage) (position : ℕ) (x : Progress) → Follows c w → message_at c.messages number ≡ Some m → m.body ≡ bodies.Ack position
    → chain_step c (Deliver number) ≡ Ok x → StandsFor (IsHearing m.receiver) w x
ack_line c w number m position x f at is step =
    let a : Arrived c m x = arrived c number m x at step in
    let h : Here c w a.node = record { follows = f; at = a.at; running = a.running } in
    delivered (λ id. IsHearing id) m (bodies.Ack position) x is a (ack_follows a.node h m position a.own (said_as f number m (bodies.Ack position) at is))

pub config_line : (c : Chain) (w : MachineState Entry) (number : ℕ) (m : LinkMessage) (members : List ℕ) (x : Progress) → Follows c w → message_at c.messages number ≡ Some m → m.body ≡ bodies.Config members
    → chain_step c (Deliver number) ≡ Ok x → StandsFor (IsAdopting m.receiver m.epoch) w x
config_line c w number m members x f at is step =
    let a : Arrived c m x = arrived c number m x at step in
    let h : Here c w a.node = record { follows = f; at = a.at; running = a.running } in
    delivered (λ id. IsAdopting id m.epoch) m (bodies.Config members) x is a (config_follows a.node h m.epoch members (said_as f number m (bodies.Config members) at is).1)

pub update_line : (c : Chain) (w : MachineState Entry) (node : ℕ) (u : Update) (x : Progress) → Follows c w → IsReached w
    → chain_step c (Ask node (asks.Update u)) ≡ Ok x → StandsFor (IsUpdating node) w x
unfolding chain_step
update_line c w node u x f r step =
    let t : Took c (node_at c.nodes node) (events.Ask (asks.Update u)) x = took c (node_at c.nodes node) (events.Ask (asks.Update u)) x step in
    let id : id_of t.node ≡ node = node_id c.nodes node t.node t.there in
    let P : ℕ → Type 0 = λ j. node_at c.nodes j ≡ Some t.node in
    let h : Here c w t.node = record { follows = f; at = subst P (sym id) t.there; running = t.running } in
    let Q : Progress → Type 0 = λ y. StandsFor (IsUpdating (id_of t.node)) w y in
    let R : ℕ → Type 0 = λ id. StandsFor (IsUpdating id) w x in
    subst R id (subst Q (sym t.is) (update_follows t.node h r u t.transition t.does))
