-- The laws of messages: what a message says stays true.
use Rattle.std.proofs.Common.{◌≡◌, ℕ, ◌≤◌, true, List, length, take, Some, refl, ap, sym, subst, ◌∙◌, arith}
use Rattle.std.specs.List.{AllByRecursion}
use Rattle.craq_names.proofs.Lists.{all_like}
use Rattle.craq_commands.specs.declared.entry.Entry.{Entry}
use Rattle.craq_commands.specs.declared.state.State.{State}
use Rattle.craq_commands.specs.SingleCopy.{opening_state, after, after_entries}
use Rattle.craq_model.specs.declared.message.Body.{Body}
use Rattle.craq_model.specs.declared.message.Body.TheVariants as bodies
use Rattle.craq_model.specs.declared.message.LinkMessage.{LinkMessage}
use Rattle.craq_model.specs.declared.message.StatePart.{StatePart}
use Rattle.craq_model.specs.Parts.{part_of}
use Rattle.craq_model.specs.Plain.{Plain, id_of, length_of}
use Rattle.craq_protocol.specs.Machine as machine
use Rattle.craq_protocol.specs.Promises.{IsPrefix, IsSafe, Sent}
use Rattle.craq_protocol.proofs.Prefix.{prefix_is_take, prefix_length}
use Rattle.craq_protocol.specs.Machine.{MachineState, entry_at}
use Rattle.craq_protocol.specs.Members.{is_member}
use Rattle.craq_protocol.proofs.Invariant.{Invariant}
use Rattle.craq_protocol.proofs.Reached.{reached_safe, reached_inv}
use Rattle.craq_runs.specs.Chain.{node_at}
use Rattle.craq_runs.specs.Typed.{IsTypedRunOf}
use Rattle.craq_runs.specs.declared.run.Run.{Run}
use Rattle.craq_laws.proofs.Nodes.{node_id}
use Rattle.craq_refinement.specs.Follows.{PartFollows, BodyFollows, Follows, NodeFollows, said, seen_of}
use Rattle.craq_refinement.proofs.EachLine.{said_as}
use Rattle.craq_refinement.proofs.Gathered.{part_is}
use Rattle.craq_refinement.proofs.Master.{found}
use Rattle.craq_refinement.proofs.Worlds.{history_length}
use Rattle.craq_updates.proofs.Replay.{as_many, state_replayed}
use Rattle.craq_chain_invariants.specs.Kept.{WasSent, HasSender, chain_after, committed_in, history_of, updates_committed}
use Rattle.craq_chain_invariants.proofs.Worlds.{Stands, stands, Node, node}
use Rattle.craq_chain_invariants.proofs.Blanks.{HeldIn, IsOf, message_held, run_held}
use Rattle.craq_chain_invariants.proofs.Senders.{SenderHas, all_have}

-- ---- copies

-- the entries before a copy's state
record CopyOf (chain : ℕ) (run : Run) (position : ℕ) (state : State) : Type 0 where
  pub entries : List Entry
  pub count : length entries ≡ position
  pub after : after_entries opening_state entries ≡ state
  pub begins : IsPrefix entries (committed_in chain run)

copy_of : (chain : ℕ) (run : Run) (number : ℕ) (m : LinkMessage) (position : ℕ) (state : State) → IsTypedRunOf chain run
    → WasSent (chain_after chain run) number m → m.body ≡ bodies.Copy position state → CopyOf chain run position state
copy_of chain run number m position state i at is =
    let s : Stands chain run = stands chain run i in
    let safe : IsSafe s.world = reached_safe s.reached in
    let b : BodyFollows s.world.memberships s.world.messages m.epoch m.sender m.receiver (bodies.Copy position state) = said_as s.follows number m (bodies.Copy position state) at is in
    let sent : Sent s.world.messages (said m.epoch m.sender m.receiver (machine.Copy b.0)) = b.4 in
    let P : List Entry → Type 0 = λ l. IsPrefix b.0 l in
    record { entries = b.0; count = b.1; after = b.2; begins = subst P s.log (safe.copy (said m.epoch m.sender m.receiver (machine.Copy b.0)) b.0 sent refl) }

pub copy_committed : (chain : ℕ) (run : Run) (number : ℕ) (m : LinkMessage) (position : ℕ) (state : State) → IsTypedRunOf chain run
    → WasSent (chain_after chain run) number m → m.body ≡ bodies.Copy position state → position ≤ length (updates_committed chain run)
copy_committed chain run number m position state i at is =
    let c : CopyOf chain run position state = copy_of chain run number m position state i at is in
    omega (arith, c.count, prefix_length c.begins, as_many chain run i)

pub copy_state : (chain : ℕ) (run : Run) (number : ℕ) (m : LinkMessage) (position : ℕ) (state : State) → IsTypedRunOf chain run
    → WasSent (chain_after chain run) number m → m.body ≡ bodies.Copy position state → after (take position (updates_committed chain run)) ≡ state
copy_state chain run number m position state i at is =
    let c : CopyOf chain run position state = copy_of chain run number m position state i at is in
    sym (state_replayed chain run position i)
    ∙ (ap (λ k. after_entries opening_state (take k (committed_in chain run))) (sym c.count) ∙ (ap (after_entries opening_state) (prefix_is_take c.begins) ∙ c.after))

-- ---- parts

part_said : (chain : ℕ) (run : Run) (number : ℕ) (m : LinkMessage) (part : StatePart) (s : Stands chain run)
    → WasSent (chain_after chain run) number m → m.body ≡ bodies.Part part → PartFollows s.world.messages m.epoch m.sender m.receiver part
part_said chain run number m part s at is = said_as s.follows number m (bodies.Part part) at is

pub part_committed : (chain : ℕ) (run : Run) (number : ℕ) (m : LinkMessage) (part : StatePart) → IsTypedRunOf chain run
    → WasSent (chain_after chain run) number m → m.body ≡ bodies.Part part → part.position ≤ length (updates_committed chain run)
part_committed chain run number m part i at is =
    let s : Stands chain run = stands chain run i in
    let safe : IsSafe s.world = reached_safe s.reached in
    let f : PartFollows s.world.messages m.epoch m.sender m.receiver part = part_said chain run number m part s at is in
    let P : List Entry → Type 0 = λ l. IsPrefix f.entries l in
    let begins : IsPrefix f.entries (committed_in chain run) = subst P s.log (safe.copy (said m.epoch m.sender m.receiver (machine.Copy f.entries)) f.entries f.sent refl) in
    omega (arith, f.count, prefix_length begins, as_many chain run i)

pub part_numbered : (chain : ℕ) (run : Run) (number : ℕ) (m : LinkMessage) (part : StatePart) → IsTypedRunOf chain run
    → WasSent (chain_after chain run) number m → m.body ≡ bodies.Part part → (1 ≤ part.number) × (part.number ≤ part.count)
part_numbered chain run number m part i at is =
    let s : Stands chain run = stands chain run i in
    let f : PartFollows s.world.messages m.epoch m.sender m.receiver part = part_said chain run number m part s at is in
    (f.first, f.last)

pub part_share : (chain : ℕ) (run : Run) (number : ℕ) (m : LinkMessage) (part : StatePart) → IsTypedRunOf chain run
    → WasSent (chain_after chain run) number m → m.body ≡ bodies.Part part → part_of part.position (after (take part.position (updates_committed chain run))) part.number ≡ part
part_share chain run number m part i at is =
    let s : Stands chain run = stands chain run i in
    let f : PartFollows s.world.messages m.epoch m.sender m.receiver part = part_said chain run number m part s at is in
    let share : List Entry → StatePart = λ log. part_of part.position (after_entries opening_state (take part.position log)) part.number in
    ap (λ state. part_of part.position state part.number) (sym (state_replayed chain run part.position i))
    ∙ (ap share (sym s.log) ∙ part_is s.reached m.epoch m.sender m.receiver part f)

-- ---- senders

-- a sender that was once a member is a node, of which this holds
sender_at : (chain : ℕ) (run : Run) (s : Stands chain run) (m : LinkMessage) (Holds : Plain → Type 0) → is_member s.world.joined m.sender ≡ true
    → ((p : Plain) → id_of p ≡ m.sender → Node chain run p s → Holds p) → HasSender (chain_after chain run) m Holds
sender_at chain run s m Holds listed holds =
    let f : _ = s.follows in
    let J : List ℕ → Type 0 = λ l. is_member l m.sender ≡ true in
    let there : (p : Plain) × (node_at (chain_after chain run).nodes m.sender ≡ Some p) = found (chain_after chain run).nodes m.sender (subst J f.joined listed) in
    let id : id_of there.0 ≡ m.sender = node_id (chain_after chain run).nodes m.sender there.0 there.1 in
    let N : ℕ → Type 0 = λ j. node_at (chain_after chain run).nodes j ≡ Some there.0 in
    record { sender = there.0; at = there.1; holds = holds there.0 id (node chain run there.0 s (subst N (sym id) there.1)) }

-- a message that the protocol knows has a node as its sender, of which this holds in the world
sender_of : (chain : ℕ) (run : Run) (s : Stands chain run) (m : LinkMessage) (b : machine.MachineBody Entry) (Holds : Plain → Type 0) → Sent s.world.messages (said m.epoch m.sender m.receiver b)
    → ((p : Plain) → Node chain run p s → SenderHas s.world (id_of p) b → Holds p) → HasSender (chain_after chain run) m Holds
sender_of chain run s m b Holds sent holds =
    let w : MachineState Entry = s.world in
    let i : Invariant w = reached_inv s.reached in
    let listed : is_member w.joined m.sender ≡ true = i.clauses.shape.is_listed m.epoch m.sender (i.clauses.sender_is_member (said m.epoch m.sender m.receiver b) sent) in
    let H : ℕ → Type 0 = λ j. SenderHas w j b in
    sender_at chain run s m Holds listed (λ p id n. holds p n (subst H (sym id) (all_have w s.reached (said m.epoch m.sender m.receiver b) sent)))

pub entry_agrees : (chain : ℕ) (run : Run) (number : ℕ) (m : LinkMessage) (e : Entry) → IsTypedRunOf chain run → WasSent (chain_after chain run) number m → m.body ≡ bodies.Entry e
    → HasSender (chain_after chain run) m (λ p. entry_at (history_of (committed_in chain run) p) e.position ≡ Some e)
entry_agrees chain run number m e i at is =
    let s : Stands chain run = stands chain run i in
    sender_of chain run s m (machine.Entry e.position e) (λ p. entry_at (history_of (committed_in chain run) p) e.position ≡ Some e) (said_as s.follows number m (bodies.Entry e) at is)
    (λ p n h. ap (λ l. entry_at l e.position) (sym n.history) ∙ h)

pub batch_agrees : (chain : ℕ) (run : Run) (number : ℕ) (m : LinkMessage) (es : List Entry) → IsTypedRunOf chain run → WasSent (chain_after chain run) number m → m.body ≡ bodies.Batch es
    → AllByRecursion (λ (e : Entry). HasSender (chain_after chain run) m (λ p. entry_at (history_of (committed_in chain run) p) e.position ≡ Some e)) es
batch_agrees chain run number m es i at is =
    let s : Stands chain run = stands chain run i in
    let b : BodyFollows s.world.memberships s.world.messages m.epoch m.sender m.receiver (bodies.Batch es) = said_as s.follows number m (bodies.Batch es) at is in
    all_like (λ (e : Entry). Sent s.world.messages (said m.epoch m.sender m.receiver (machine.Entry e.position e)))
    (λ (e : Entry). HasSender (chain_after chain run) m (λ p. entry_at (history_of (committed_in chain run) p) e.position ≡ Some e)) es
    (λ e sent. sender_of chain run s m (machine.Entry e.position e) (λ p. entry_at (history_of (committed_in chain run) p) e.position ≡ Some e) sent
    (λ p n h. ap (λ l. entry_at l e.position) (sym n.history) ∙ h))
    b.2

pub ack_agrees : (chain : ℕ) (run : Run) (number : ℕ) (m : LinkMessage) (position : ℕ) → IsTypedRunOf chain run → WasSent (chain_after chain run) number m → m.body ≡ bodies.Ack position
    → HasSender (chain_after chain run) m (λ p. position ≤ p.past.acknowledged)
ack_agrees chain run number m position i at is =
    let s : Stands chain run = stands chain run i in
    sender_of chain run s m (machine.Ack position) (λ p. position ≤ p.past.acknowledged) (said_as s.follows number m (bodies.Ack position) at is)
    (λ p n h. let f : _ = n.follows in omega (arith, h, f.acknowledged))

pub copy_agrees : (chain : ℕ) (run : Run) (number : ℕ) (m : LinkMessage) (position : ℕ) (state : State) → IsTypedRunOf chain run → WasSent (chain_after chain run) number m → m.body ≡ bodies.Copy position state
    → HasSender (chain_after chain run) m (λ p. position ≤ p.past.acknowledged)
copy_agrees chain run number m position state i at is =
    let s : Stands chain run = stands chain run i in
    let b : BodyFollows s.world.memberships s.world.messages m.epoch m.sender m.receiver (bodies.Copy position state) = said_as s.follows number m (bodies.Copy position state) at is in
    sender_of chain run s m (machine.Copy b.0) (λ p. position ≤ p.past.acknowledged) b.4
    (λ p n h. let f : _ = n.follows in omega (arith, h, f.acknowledged, b.1))

pub part_agrees : (chain : ℕ) (run : Run) (number : ℕ) (m : LinkMessage) (part : StatePart) → IsTypedRunOf chain run → WasSent (chain_after chain run) number m → m.body ≡ bodies.Part part
    → HasSender (chain_after chain run) m (λ p. part.position ≤ p.past.acknowledged)
part_agrees chain run number m part i at is =
    let s : Stands chain run = stands chain run i in
    let f : PartFollows s.world.messages m.epoch m.sender m.receiver part = part_said chain run number m part s at is in
    sender_of chain run s m (machine.Copy f.entries) (λ p. part.position ≤ p.past.acknowledged) f.sent
    (λ p n h. let g : _ = n.follows in omega (arith, h, g.acknowledged, f.count))

pub floor_agrees : (chain : ℕ) (run : Run) (number : ℕ) (m : LinkMessage) (count : ℕ) → IsTypedRunOf chain run → WasSent (chain_after chain run) number m → m.body ≡ bodies.Floor count
    → HasSender (chain_after chain run) m (λ p. (p.ready ≡ true) × (count ≤ length_of p))
floor_agrees chain run number m count i at is =
    let s : Stands chain run = stands chain run i in
    sender_of chain run s m (machine.Floor count) (λ p. (p.ready ≡ true) × (count ≤ length_of p)) (said_as s.follows number m (bodies.Floor count) at is)
    (λ p n h. let f : _ = n.follows in (sym f.ready ∙ h.0, omega (arith, h.1, history_length f.history)))

-- ---- reported lengths

pub blank_agrees : (chain : ℕ) (run : Run) (number : ℕ) (m : LinkMessage) (count : ℕ) → IsTypedRunOf chain run → WasSent (chain_after chain run) number m → m.body ≡ bodies.Blank count
    → HasSender (chain_after chain run) m (λ p. count ≤ length_of p)
blank_agrees chain run number m count i at is =
    let h : HeldIn (chain_after chain run) = run_held chain run i in
    let w : MachineState Entry = h.world in
    let B : Body → Type 0 = λ b. IsOf w m.sender b in
    let mine : IsOf w m.sender (bodies.Blank count) = subst B is (message_held w (chain_after chain run).messages number m h.held at) in
    let f : Follows (chain_after chain run) w = h.follows in
    let J : List ℕ → Type 0 = λ l. is_member l m.sender ≡ true in
    let there : (p : Plain) × (node_at (chain_after chain run).nodes m.sender ≡ Some p) = found (chain_after chain run).nodes m.sender (subst J f.joined mine.0) in
    let id : id_of there.0 ≡ m.sender = node_id (chain_after chain run).nodes m.sender there.0 there.1 in
    let n : NodeFollows w (seen_of there.0) = f.nodes m.sender there.0 there.1 in
    let L : ℕ → Type 0 = λ j. count ≤ length (w.history j) in
    let long : count ≤ length (w.history (id_of there.0)) = subst L (sym id) mine.1 in
    record { sender = there.0; at = there.1; holds = omega (arith, long, history_length n.history) }
