-- The effect of each message of a ready predecessor at an unready node, in a chain.
use Rattle.std.proofs.Common.{◌≡◌, ◌≢◌, ⊎_elim, inl, inr, ℕ, suc, ◌+◌, ◌≤◌, true, List, [], ◌∷◌, length, take, Option, Some, is_some, Result, refl, ap, sym, subst, ◌∙◌, arith}
use Rattle.std.proofs.lemmas.Bool.{cases_eq, both_ways, eq-eqb}
use Rattle.std.specs.List.{AllByRecursion}
use Rattle.craq_names.specs.declared.name.NodeName.{NodeName}
use Rattle.craq_names.specs.declared.refusal.Refusal.{Refusal}
use Rattle.craq_names.specs.Maps.{at_number}
use Rattle.craq_names.proofs.Lists.{all_like}
use Rattle.craq_commands.specs.declared.entry.Entry.{Entry}
use Rattle.craq_commands.specs.declared.state.State.{State}
use Rattle.craq_commands.specs.SingleCopy.{after_entries, opening_state}
use Rattle.craq_model.specs.declared.gathering.Gathering.{Gathering}
use Rattle.craq_model.specs.declared.ask.Event.TheVariants as events
use Rattle.craq_model.specs.declared.message.Body.{Body}
use Rattle.craq_model.specs.declared.message.Body.TheVariants as bodies
use Rattle.craq_model.specs.declared.message.LinkMessage.{LinkMessage}
use Rattle.craq_model.specs.declared.message.StatePart.{StatePart}
use Rattle.craq_model.specs.Deliveries.{body_transition, copy_transition, delivery_transition, entries_transition, floor_transition, part_transition}
use Rattle.craq_model.specs.Members.{predecessor_in}
use Rattle.craq_model.specs.Parts.{gathering_for, is_whole, part_count}
use Rattle.craq_model.specs.Plain.{Plain, id_of, length_of, predecessor}
use Rattle.craq_model.specs.Sends.{run_body}
use Rattle.craq_model.specs.Settle.{Transition}
use Rattle.craq_protocol.specs.Machine as machine
use Rattle.craq_protocol.specs.Machine.{MachineState}
use Rattle.craq_protocol.specs.Promises.{IsPrefix, IsReached, IsSafe, Sent}
use Rattle.craq_protocol.proofs.Reached.{reached_safe}
use Rattle.craq_refinement.specs.Follows.{AreGathered, BodyFollows, Follows, IsGathered, IsPlaced, MessageFollows, NodeFollows, PartFollows, PartWasSent, held_part, said, seen_of}
use Rattle.craq_refinement.specs.Lines.{IsFollowed}
use Rattle.craq_refinement.proofs.EachLine.{said_as}
use Rattle.craq_refinement.proofs.Gathered.{IsPartOf, belongs, gathered_state, part_is}
use Rattle.craq_laws.proofs.Nodes.{node_elsewhere, node_id}
use Rattle.craq_refinement.proofs.Stages.{Arrived, arrived}
use Rattle.craq_refinement.proofs.Worlds.{history_length}
use Rattle.craq_runs.specs.declared.run.Move.TheVariants.{Deliver}
use Rattle.craq_runs.specs.Chain.{Chain, Progress, node_at}
use Rattle.craq_runs.specs.Runs.{progressed}
use Rattle.craq_recovery.specs.Recovered.{Knows}
use Rattle.craq_recovery.proofs.Blocks.{Transitions}
use Rattle.craq_recovery.proofs.Entries.{HoldsSo, run_transition, takes_them}
use Rattle.craq_recovery.proofs.Extending.{IsReachedBy}
use Rattle.craq_recovery.proofs.Filling.{HasPart, HasParts, HasTaken, NoneLater, copy_reaches, floor_readies, none_later, part_taken}
use Rattle.craq_recovery.proofs.Gains.{Gains, Goes, goes_move, prefix_length}
use Rattle.craq_recovery.proofs.Gathers.{CameFrom, GathersSo, IsPartFor, came_there, delivery_so}
use Rattle.craq_recovery.proofs.Lines.{for_position}
use Rattle.craq_recovery.proofs.Hearing.{knows_at}
use Rattle.craq_recovery.proofs.Onward.{Onward}
use Rattle.craq_recovery.proofs.Pieces.{IsBetween, counted, state_rises}
use Rattle.craq_recovery.proofs.Running.{delivery_transition-runs}
use Rattle.craq_recovery.proofs.Series.{Has}
use Rattle.craq_laws.proofs.Kept.{event_keeps_name}
use Rattle.craq_recovery.proofs.Sound.{own_chain}
use Rattle.craq_recovery.proofs.Taking.{bears, for_it}
use Rattle.craq_recovery.proofs.Travels.{Met, NodeIs, arrived_here, ends, one_by_one, met, stands_by}

-- ---- properties of the node meanwhile

-- the node gathers no state later than this one from that predecessor
abbrev pub Below : ℕ → ℕ → Option ℕ → Gathering → Type 0
Below from position o g = o ≡ Some from → g.position ≤ position

pub record Begins (epoch from least position : ℕ) (q : Plain) : Type 0 where
  pub late : epoch ≤ q.epoch
  pub holds : least ≤ length_of q
  pub below : GathersSo (Below from position) q

-- the node holds this number of entries
pub record Holds (epoch least : ℕ) (q : Plain) : Type 0 where
  pub late : epoch ≤ q.epoch
  pub holds : least ≤ length_of q

-- the node holds this number of entries, or has the parts up to a number of the state after them
pub record Takes (epoch position count number : ℕ) (q : Plain) : Type 0 where
  pub late : epoch ≤ q.epoch
  pub taken : HasTaken position count number q

-- a message from one node to another, of an epoch
pub record IsFrom (epoch from to : ℕ) (m : LinkMessage) : Type 0 where
  pub made : m.epoch ≡ epoch
  pub comes : m.sender ≡ from
  pub goes : m.receiver ≡ to

-- a ready node holds as much as any state that was sent
ready_holds : (d : Chain) (p : Plain) (f : IsFollowed d) → node_at d.nodes (id_of p) ≡ Some p → p.running ≡ true → (epoch from to : ℕ) (entries : List Entry) → Sent f.0.messages (said epoch from to (machine.Copy entries))
    → p.ready ≡ true → length entries ≤ length_of p
ready_holds d p f at runs epoch from to entries sent ready =
    let w : MachineState Entry = f.0 in
    let g : Follows d w = f.2 in
    let n : NodeFollows w (seen_of p) = g.nodes (id_of p) p at in
    let s : IsSafe w = reached_safe f.1 in
    let holds : IsPrefix w.log (w.history (id_of p)) = s.committed (id_of p) (n.ready ∙ ready) (s.alive (id_of p) (n.running ∙ runs)) in
    let copied : IsPrefix entries w.log = s.copy (said epoch from to (machine.Copy entries)) entries sent refl in
    omega (arith, prefix_length holds, prefix_length copied, history_length n.history)

-- ---- a state

pub transition_copy : (chain : ℕ) (c : Chain) (from to least position : ℕ) (state : State) (m : LinkMessage) → predecessor_in c.members to ≡ Some from → IsFrom c.epoch from to m → m.body ≡ bodies.Copy position state
    → Transitions (IsReachedBy chain) c to m (Begins c.epoch from least position) (Holds c.epoch position)
transition_copy chain c from to least position state m before is says = λ d number x r s f on g there e.
    let k : Met c d x m to (Begins c.epoch from least position) = met c d to number m x (Begins c.epoch from least position) (λ p b. b.late) s f on g there e is.goes is.made in
    let pred : predecessor k.node ≡ Some m.sender = stands_by k predecessor_in before is.comes in
    let p : Plain = k.node in
    let does : delivery_transition p m ≡ copy_transition p m.sender position state = ap (body_transition p m) says ∙ one_by_one k (copy_transition p m.sender position state) in
    let follows : BodyFollows f.0.memberships f.0.messages m.epoch m.sender m.receiver (bodies.Copy position state) = said_as f.2 number m (bodies.Copy position state) there says in
    let reached : position ≤ length_of (copy_transition p m.sender position state).0 =
    copy_reaches p m.sender position state pred (λ ready. let le : length follows.0 ≤ length_of p = ready_holds d p f k.at k.running m.epoch m.sender m.receiver follows.0 follows.4 ready in omega (arith, le, follows.1)) in
    let L : Transition → Type 0 = λ t. position ≤ length_of t.0 in
    let gains : Gains p (delivery_transition p m).0 = k.gains in
    let b : Begins c.epoch from least position p = k.holds in
    ends k (Holds c.epoch position) (record { late = omega (arith, gains.epoch, b.late); holds = subst L (sym does) reached })

-- ---- entries

pub transition_entries : (chain : ℕ) (c : Chain) (from to a : ℕ) (es : List Entry) (m : LinkMessage) → predecessor_in c.members to ≡ Some from → IsFrom c.epoch from to m → m.body ≡ run_body es → IsPlaced a es
    → Transitions (IsReachedBy chain) c to m (Holds c.epoch a) (Holds c.epoch (a + length es))
transition_entries chain c from to a es m before is says placed = λ d number x r s f on g there e.
    let k : Met c d x m to (Holds c.epoch a) = met c d to number m x (Holds c.epoch a) (λ p b. b.late) s f on g there e is.goes is.made in
    let pred : predecessor k.node ≡ Some m.sender = stands_by k predecessor_in before is.comes in
    let p : Plain = k.node in
    let b : Holds c.epoch a p = k.holds in
    let does : delivery_transition p m ≡ entries_transition p m.sender es = ap (body_transition p m) says ∙ (run_transition p m es ∙ one_by_one k (entries_transition p m.sender es)) in
    let L : Transition → Type 0 = λ t. a + length es ≤ length_of t.0 in
    let gains : Gains p (delivery_transition p m).0 = k.gains in
    ends k (Holds c.epoch (a + length es))
    (record { late = omega (arith, gains.epoch, b.late); holds = subst L (sym does) (takes_them chain d number m es a p r there says placed b.holds k.at pred) })

-- ---- the floor

pub transition_floor : (chain : ℕ) (c : Chain) (from to count : ℕ) (m : LinkMessage) → predecessor_in c.members to ≡ Some from → IsFrom c.epoch from to m → m.body ≡ bodies.Floor count
    → Transitions (IsReachedBy chain) c to m (Holds c.epoch count) (HoldsSo c.epoch count)
transition_floor chain c from to count m before is says = λ d number x r s f on g there e.
    let k : Met c d x m to (Holds c.epoch count) = met c d to number m x (Holds c.epoch count) (λ p b. b.late) s f on g there e is.goes is.made in
    let pred : predecessor k.node ≡ Some m.sender = stands_by k predecessor_in before is.comes in
    let p : Plain = k.node in
    let b : Holds c.epoch count p = k.holds in
    let does : delivery_transition p m ≡ floor_transition p m.sender count = ap (body_transition p m) says ∙ one_by_one k (floor_transition p m.sender count) in
    let R : Transition → Type 0 = λ t. t.0.ready ≡ true in
    let gains : Gains p (delivery_transition p m).0 = k.gains in
    ends k (HoldsSo c.epoch count)
    (record { ready = subst R (sym does) (floor_readies p m.sender count pred b.holds); late = omega (arith, gains.epoch, b.late); holds = omega (arith, gains.held, b.holds) })

-- ---- parts

-- some message of the list is such, and this holds of each
pub with_has : (Is P : LinkMessage → Type 0) (ms : List LinkMessage) → Has Is ms → AllByRecursion P ms → (m : LinkMessage) × Is m × P m
with_has Is P [] h a = absurd h
with_has Is P (m ∷ ms) (inl is) a = (m, is, a.0)
with_has Is P (m ∷ ms) (inr h) a = with_has Is P ms h a.1

-- all parts of the state after a position have one count
count_is : (w : MachineState Entry) → IsReached w → (epoch from to : ℕ) (part : StatePart) → PartFollows w.messages epoch from to part → part_count (after_entries opening_state (take part.position w.log)) ≡ part.count
count_is w r epoch from to part f = ap (λ (p : StatePart). p.count) (part_is r epoch from to part f)

part_follows : (w : MachineState Entry) (m : LinkMessage) (part : StatePart) → m.body ≡ bodies.Part part → MessageFollows w.memberships w.messages m → PartFollows w.messages m.epoch m.sender m.receiver part
part_follows w m part says f = let P : Body → Type 0 = λ b. BodyFollows w.memberships w.messages m.epoch m.sender m.receiver b in subst P says f

-- a gathering has as many parts as each part of its state that was sent says
gathered_count : (chain : ℕ) (d : Chain) (p : Plain) (f : IsFollowed d) → IsReachedBy chain d → node_at d.nodes (id_of p) ≡ Some p → (g : Gathering) → p.gathering ≡ Some g
    → g.count ≡ part_count (gathered_state f.0 g)
gathered_count chain d p f r at g is =
    let w : MachineState Entry = f.0 in
    let came : CameFrom d.messages (predecessor p) g = came_there chain d (id_of p) p r at g is in
    let found : (m : LinkMessage) × IsPartFor (predecessor p) g m × MessageFollows w.memberships w.messages m =
    with_has (IsPartFor (predecessor p) g) (λ m. MessageFollows w.memberships w.messages m) d.messages came.sent f.2.messages in
    let one : IsPartFor (predecessor p) g found.0 = found.1 in
    let C : ℕ → Type 0 = λ n. g.count ≡ part_count (after_entries opening_state (take n w.log)) in
    subst C one.position (sym one.count ∙ sym (count_is w f.1 found.0.epoch found.0.sender found.0.receiver one.part (part_follows w found.0 one.part one.says found.2)))

-- each part that is gathered is a part of the state
held_is : (w : MachineState Entry) → IsReached w → (g : Gathering) → g.count ≡ part_count (gathered_state w g) → (h : ℕ × State) → PartWasSent w.messages (held_part g h)
    → IsPartOf (gathered_state w g) 1 (1 + part_count (gathered_state w g)) h
held_is w r g count h f = record {
  low = f.3.first;
  high = omega (arith, f.3.last, count);
  is = ap (λ (p : StatePart). p.state) (part_is r f.0 f.1 f.2 (held_part g h) f.3);
}

pub transition_part : (chain : ℕ) (c : Chain) (from to number : ℕ) (part : StatePart) (m : LinkMessage) → predecessor_in c.members to ≡ Some from → IsFrom c.epoch from to m → m.body ≡ bodies.Part part → part.number ≡ suc number
    → Transitions (IsReachedBy chain) c to m (Takes c.epoch part.position part.count number) (Takes c.epoch part.position part.count (suc number))
transition_part chain c from to number part m before is says next = λ d place x r s f on g there e.
    let E : Plain → Type 0 = Takes c.epoch part.position part.count number in
    let F : Plain → Type 0 = Takes c.epoch part.position part.count (suc number) in
    let k : Met c d x m to E = met c d to place m x E (λ p b. b.late) s f on g there e is.goes is.made in
    let pred : predecessor k.node ≡ Some m.sender = stands_by k predecessor_in before is.comes in
    let p : Plain = k.node in
    let b : E p = k.holds in
    let w : MachineState Entry = f.0 in
    let n : NodeFollows w (seen_of p) = f.2.nodes (id_of p) p k.at in
    let does : delivery_transition p m ≡ part_transition p m.sender part = ap (body_transition p m) says ∙ one_by_one k (part_transition p m.sender part) in
    let H : Transition → Type 0 = λ t. HasTaken part.position part.count (suc number) t.0 in
    let gains : Gains p (delivery_transition p m).0 = k.gains in
    let follows : PartFollows w.messages m.epoch m.sender m.receiver part = said_as f.2 place m (bodies.Part part) there says in
    let s : State = after_entries opening_state (take part.position w.log) in
    let held : Gathering = gathering_for part p.gathering in
    let whole : part_count s ≡ part.count = count_is w f.1 m.epoch m.sender m.receiver part follows in
    let taken : HasTaken part.position part.count (suc number) (delivery_transition p m).0 =
    ⊎_elim
    (λ (le : part.position ≤ length_of p). inl (omega (arith, le, gains.held)))
    (λ (h : NoneLater part.position p.gathering × HasParts part.position part.count number p.gathering).
    subst H (sym does)
    (part_taken p m.sender number part s (1 + part_count s) pred next
    (λ ready. let le : length follows.entries ≤ length_of p = ready_holds d p f k.at k.running m.epoch m.sender m.receiver follows.entries follows.sent ready in omega (arith, le, follows.count))
    (λ g is at. let C : ℕ → Type 0 = λ n. g.count ≡ part_count (after_entries opening_state (take n w.log)) in subst C at (gathered_count chain d p f r k.at g is) ∙ whole)
    (state_rises (take part.position w.log))
    (ap (λ (y : StatePart). y.state) (part_is f.1 m.epoch m.sender m.receiver part follows))
    (λ of. shares w f.1 p.gathering n.gathering part (h.0) (of ∙ sym whole))
    h.0 h.1))
    b.taken in
    ends k F (record { late = omega (arith, gains.epoch, b.late); taken = taken })
  where
    shares : (w : MachineState Entry) → IsReached w → (o : Option Gathering) → AreGathered w.messages o → (part : StatePart) → NoneLater part.position o
        → (gathering_for part o).count ≡ part_count (after_entries opening_state (take part.position w.log))
        → AllByRecursion (IsPartOf (after_entries opening_state (take part.position w.log)) 1 (1 + part_count (after_entries opening_state (take part.position w.log)))) (gathering_for part o).parts
    shares w r o a part low count =
        let g : Gathering = gathering_for part o in
        let i : IsGathered w.messages g = belongs part o a in
        let at : g.position ≡ part.position = for_position part o (none_later part.position 0 o low) in
        let C : ℕ → Type 0 = λ n. g.count ≡ part_count (after_entries opening_state (take n w.log)) in
        let S : ℕ → Type 0 = λ n. AllByRecursion (IsPartOf (after_entries opening_state (take n w.log)) 1 (1 + part_count (after_entries opening_state (take n w.log)))) g.parts in
        let here : g.count ≡ part_count (gathered_state w g) = subst C (sym at) count in
        subst S at (all_like (λ (h : ℕ × State). PartWasSent w.messages (held_part g h)) (IsPartOf (gathered_state w g) 1 (1 + part_count (gathered_state w g))) g.parts (held_is w r g here) i.parts)

-- ---- once all parts are there

between : (messages : List (machine.Message Entry)) (g : Gathering) (h : ℕ × State) → PartWasSent messages (held_part g h) → IsBetween 1 (1 + g.count) h
between messages g h f = record { low = f.3.first; high = omega (arith, f.3.last) }

-- then the node no longer gathers: it holds the state
pub all_taken : (chain : ℕ) (c : Chain) (to position count : ℕ) → 1 ≤ count → (d : Chain) → IsReachedBy chain d → IsFollowed d → Onward c d → NodeIs d to (Takes c.epoch position count count) → NodeIs d to (Holds c.epoch position)
all_taken chain c to position count some d r f on i =
    let p : Plain = i.node in
    let b : Takes c.epoch position count count p = i.holds in
    let w : MachineState Entry = f.0 in
    let N : ℕ → Type 0 = λ j. node_at d.nodes j ≡ Some p in
    let at : node_at d.nodes (id_of p) ≡ Some p = subst N (sym (node_id d.nodes to p i.at)) i.at in
    let n : NodeFollows w (seen_of p) = f.2.nodes (id_of p) p at in
    let holds : position ≤ length_of p =
    ⊎_elim
    (λ (le : position ≤ length_of p). le)
    (λ (h : NoneLater position p.gathering × HasParts position count count p.gathering).
    let one : HasPart position count 1 p.gathering = h.1 1 (omega arith) some in
    let g : Gathering = one.gathering in
    let came : CameFrom d.messages (predecessor p) g = came_there chain d (id_of p) p r at g one.is in
    let A : Option Gathering → Type 0 = λ o. AreGathered w.messages o in
    let gathered : IsGathered w.messages g = subst A one.is n.gathering in
    let B : ℕ → Type 0 = λ k. AllByRecursion (IsBetween 1 (1 + k)) g.parts in
    let inside : AllByRecursion (IsBetween 1 (1 + count)) g.parts = subst B one.of (all_like (λ (h : ℕ × State). PartWasSent w.messages (held_part g h)) (IsBetween 1 (1 + g.count)) g.parts (between w.messages g) gathered.parts) in
    let all : length g.parts ≡ count =
    counted g.parts 1 count gathered.numbers_rise inside
    (λ j low high.
    let has : HasPart position count j p.gathering = h.1 j low (omega (arith, high)) in
    let same : has.gathering ≡ g = let a : p.gathering ≡ Some has.gathering = has.is in let b : p.gathering ≡ Some g = one.is in cc in
    let S : Gathering → Type 0 = λ x. is_some (at_number x.parts j) ≡ true in subst S same has.has) in
    absurd (both_ways (is_whole g) came.lacks (eq-eqb (length g.parts) g.count (all ∙ sym one.of))))
    b.taken in
    record { node = p; at = i.at; runs = i.runs; holds = record { late = b.late; holds = holds } }

-- before any part is there
pub none_taken : (chain : ℕ) (c : Chain) (from to least position count : ℕ) → predecessor_in c.members to ≡ Some from → (d : Chain) → IsReachedBy chain d → IsFollowed d → Onward c d
    → NodeIs d to (Begins c.epoch from least position) → NodeIs d to (Takes c.epoch position count 0)
none_taken chain c from to least position count before d r f on i =
    let p : Plain = i.node in
    let b : Begins c.epoch from least position p = i.holds in
    let kn : Knows d p = knows_at c d to on f (record { node = p; at = i.at; runs = i.runs; late = b.late }) in
    let P : List ℕ → Type 0 = λ l. predecessor_in l to ≡ Some from in
    let Q : ℕ → Type 0 = λ j. predecessor_in p.members j ≡ Some from in
    let pred : predecessor p ≡ Some from = subst Q (sym (node_id d.nodes to p i.at)) (subst P (sym (kn.members ∙ on.members)) before) in
    record { node = p; at = i.at; runs = i.runs; holds = record { late = b.late; taken = inr (λ g is. b.below g is pred, λ j low high. absurd (omega (arith, low, high))) } }

-- ---- other messages

-- no part from that sender is later than this
abbrev pub IsMild : ℕ → ℕ → LinkMessage → Type 0
IsMild from position m = (part : StatePart) → m.body ≡ bodies.Part part → m.sender ≡ from → part.position ≤ position

pub transition_mild : (chain : ℕ) (c : Chain) (from to least position : ℕ) (m : LinkMessage) → IsMild from position m
    → Transitions (IsReachedBy chain) c to m (Begins c.epoch from least position) (Begins c.epoch from least position)
transition_mild chain c from to least position m mild = λ d number x r s f on g there e.
    let ar : Arrived d m x = arrived d number m x there e in
    let p : Plain = ar.node in
    let t : Transition = delivery_transition p m in
    let E : Plain → Type 0 = Begins c.epoch from least position in
    ⊎_elim
    (λ (same : m.receiver ≡ to).
    let N : ℕ → Type 0 = λ i. node_at d.nodes i ≡ Some p in
    let at : node_at d.nodes to ≡ Some p = subst N (sym ar.own ∙ same) ar.at in
    let is : g.node ≡ p = let there : node_at d.nodes to ≡ Some g.node = g.at in cc in
    let b : E p = subst E is g.holds in
    let after : node_at x.0.nodes to ≡ Some t.0 = arrived_here d number m x s there ar to same in
    let G : Result Progress Refusal → Type 0 = λ r. Goes d (progressed d r) in
    let goes : Goes d x.0 = subst G e (goes_move d (Deliver number) f) in
    let gains : Gains p t.0 = goes.gains to p t.0 at after in
    let below : GathersSo (Below from position) t.0 =
    delivery_so (Below from position) p m
    (λ part k says here count lacks. λ o. let sender : m.sender ≡ from = cc in let le : part.position ≤ position = mild part says sender in omega (arith, le, here))
    b.below in
    record { node = t.0; at = after; runs = delivery_transition-runs p m ∙ ar.running; holds = record { late = omega (arith, gains.epoch, b.late); holds = omega (arith, gains.held, b.holds); below = below } })
    (λ (other : m.receiver ≢ to).
    let of : p.name.chain ≡ d.chain = own_chain d.chain (id_of p) d.nodes p s.nodes ar.at in
    let named : t.0.name ≡ p.name = event_keeps_name p (events.Deliver m) t (for_it p m (bears d number m s there ∙ sym of) ar.own) in
    let far : to ≢ id_of t.0 = λ z. other (ar.own ∙ (sym (ap (λ (n : NodeName). n.node) named) ∙ sym z)) in
    let Q : Progress → Type 0 = λ y. node_at y.0.nodes to ≡ Some g.node in
    record { node = g.node; at = subst Q (sym ar.is) (node_elsewhere d.nodes t.0 to far ∙ g.at); runs = g.runs; holds = g.holds })
    (cases_eq m.receiver to)
