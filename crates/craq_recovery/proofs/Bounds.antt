-- In the chains of rounds no node holds more than some node held before.
use Rattle.std.proofs.Common.{◌≡◌, ◌≢◌, ⊎_elim, ℕ, ◌<◌, ◌≤◌, ◌==◌, Bool, true, false, cond, ◌||◌, List, [], ◌∷◌, ◌++◌, map, max, length, Option, Some, refl, ap, sym, subst, ◌∙◌, arith}
use Rattle.std.proofs.lemmas.Bool.{cond_both}
use Rattle.craq_names.specs.Limits.{greatest_count}
use Rattle.craq_names.specs.declared.name.NodeName.{NodeName}
use Rattle.craq_commands.specs.declared.entry.Entry.{Entry}
use Rattle.craq_commands.specs.declared.state.State.{State}
use Rattle.craq_commands.specs.SingleCopy.{after_entries, opening_state}
use Rattle.craq_commands.proofs.Entries.{after_entries-append}
use Rattle.craq_model.specs.declared.message.Body.{Body}
use Rattle.craq_model.specs.declared.message.Body.TheVariants as bodies
use Rattle.craq_model.specs.declared.message.LinkMessage.{LinkMessage}
use Rattle.craq_model.specs.Deliveries.{ack_transition, blank_transition, body_transition, config_transition, copy_transition, delivery_transition, entries_transition, floor_transition, part_transition, query_transition, transition_in_epoch, version_transition}
use Rattle.craq_model.specs.Parts.{item_count}
use Rattle.craq_model.specs.Plain.{Plain, id_of, length_of, newest, predecessor}
use Rattle.craq_model.specs.Settle.{Transition}
use Rattle.craq_protocol.specs.Machine as machine
use Rattle.craq_protocol.specs.Machine.{MachineState, known_membership}
use Rattle.craq_protocol.specs.Members.{is_member, is_next}
use Rattle.craq_protocol.specs.Promises.{IsPrefix, IsReached}
use Rattle.craq_protocol.proofs.Invariant.{Ages, Clauses, Invariant}
use Rattle.craq_protocol.proofs.Lists.{next_left, next_rank}
use Rattle.craq_protocol.proofs.Reached.{reached_inv, reached_run}
use Rattle.craq_refinement.specs.Follows.{BodyFollows, Follows, NodeFollows, seen_of}
use Rattle.craq_refinement.specs.Lines.{CanFollow, IsAdopting, IsFollowed, IsHearing, IsNothing, IsTaking, IsTakingAll, moves_of_sends}
use Rattle.craq_refinement.proofs.Acks.{ack_follows}
use Rattle.craq_refinement.proofs.Blanks.{blank_follows}
use Rattle.craq_refinement.proofs.Configs.{config_follows}
use Rattle.craq_refinement.proofs.Copies.{copy_follows, floor_follows, part_follows}
use Rattle.craq_refinement.proofs.EachLine.{said_as}
use Rattle.craq_refinement.proofs.Entries.{batch_follows, entry_follows}
use Rattle.craq_refinement.proofs.Here.{Here}
use Rattle.craq_refinement.proofs.Members.{next_from_predecessor}
use Rattle.craq_laws.proofs.Nodes.{node_elsewhere, node_here, node_id}
use Rattle.craq_refinement.proofs.Others.{query_follows, version_follows}
use Rattle.craq_refinement.proofs.Stages.{TransitionFollows, moved}
use Rattle.craq_refinement.proofs.Worlds.{history_length}
use Rattle.craq_runs.specs.Chain.{Chain, message_at, node_at, sent_in, set_node}
use Rattle.craq_updates.proofs.Known.{newest_is}
use Rattle.craq_recovery.specs.Room.{greatest_of, largest_state, longest_history, most_reads}
use Rattle.craq_recovery.proofs.Costs.{Within, cost, top}
use Rattle.craq_recovery.proofs.Entries.{prefix_of}
use Rattle.craq_recovery.proofs.Gains.{prefix_length}
use Rattle.craq_recovery.proofs.Items.{entries_items}
use Rattle.craq_recovery.proofs.Spending.{Turned, delivery_turned}

-- each node of the chain is within these bounds
abbrev pub AllWithin : ℕ → ℕ → ℕ → Chain → Type 0
AllWithin e i r c = (id : ℕ) (p : Plain) → node_at c.nodes id ≡ Some p → Within e i r p

-- ---- at first

counted : (count : Plain → ℕ) (nodes : List Plain) (id : ℕ) (p : Plain) → node_at nodes id ≡ Some p → count p ≤ greatest_of count nodes
unfolding node_at
counted count [] id p at = absurd (cc)
counted count (q ∷ qs) id p at =
    cond_both (id_of q == id) (Some q) (node_at qs id) (λ (o : Option Plain). o ≡ Some p → count p ≤ max (count q) (greatest_of count qs))
    (λ h there. let same : q ≡ p = cc in let C : Plain → Type 0 = λ x. count x ≤ max (count q) (greatest_of count qs) in subst C same (omega arith))
    (λ h there. omega (arith, counted count qs id p there))
    at

pub within_at_first : (c : Chain) → AllWithin (longest_history c) (largest_state c) (most_reads c) c
within_at_first c = λ id p at. record {
  entries = counted length_of c.nodes id p at;
  items = counted (λ (q : Plain). item_count (newest q)) c.nodes id p at;
  reads = counted (λ (q : Plain). length q.waiting_reads) c.nodes id p at;
}

-- ---- the chain after a step, even if its messages cannot be numbered

stands : (Own : List (machine.MachineMove Entry) → Type 0) (c : Chain) (w : MachineState Entry) (t : Transition) → TransitionFollows Own c w t → CanFollow w (moved c t)
stands Own c w t s = (s.own ++ moves_of_sends (sent_in t.1.outs), s.follows)

by_body : (c : Chain) (w : MachineState Entry) (m : LinkMessage) (b : Body) (p : Plain) → IsReached w → Here c w p → m.receiver ≡ id_of p
    → BodyFollows w.memberships w.messages m.epoch m.sender m.receiver b → CanFollow w (moved c (body_transition p m b))
by_body c w m (bodies.Config members) p r h own s = stands (IsAdopting (id_of p) m.epoch) c w (config_transition p m.epoch members) (config_follows p h m.epoch members s.1)
by_body c w m (bodies.Entry x) p r h own s = stands (IsTaking (id_of p)) c w (transition_in_epoch p m (entries_transition p m.sender (x ∷ []))) (entry_follows p h m x own s)
by_body c w m (bodies.Batch es) p r h own s = stands (IsTakingAll (id_of p)) c w (transition_in_epoch p m (entries_transition p m.sender es)) (batch_follows p h m es s.0 own s.1 s.2)
by_body c w m (bodies.Part part) p r h own s = stands (IsTaking (id_of p)) c w (transition_in_epoch p m (part_transition p m.sender part)) (part_follows p h r m part own s)
by_body c w m (bodies.Ack position) p r h own s = stands (IsHearing (id_of p)) c w (transition_in_epoch p m (ack_transition p m.sender position)) (ack_follows p h m position own s)
by_body c w m (bodies.Query ticket key) p r h own s = stands IsNothing c w (transition_in_epoch p m (query_transition p m.sender ticket key)) (query_follows p h m ticket key)
by_body c w m (bodies.VersionIs ticket version) p r h own s = stands IsNothing c w (transition_in_epoch p m (version_transition p m.sender ticket version)) (version_follows p h m ticket version)
by_body c w m (bodies.Blank count) p r h own s = stands IsNothing c w (transition_in_epoch p m (blank_transition p m.sender count)) (blank_follows p h r m count)
by_body c w m (bodies.Copy position state) p r h own s = stands (IsTaking (id_of p)) c w (transition_in_epoch p m (copy_transition p m.sender position state)) (copy_follows p h m position state s.0 own s.1 s.2 s.3 s.4)
by_body c w m (bodies.Floor count) p r h own s = stands (IsTaking (id_of p)) c w (transition_in_epoch p m (floor_transition p m.sender count)) (floor_follows p h m count own s)

transition_stands : (c : Chain) (f : IsFollowed c) (number : ℕ) (m : LinkMessage) (p : Plain) → node_at c.nodes (id_of p) ≡ Some p → p.running ≡ true → message_at c.messages number ≡ Some m → m.receiver ≡ id_of p
    → CanFollow f.0 (moved c (delivery_transition p m))
transition_stands c f number m p at runs there own =
    let h : Here c f.0 p = record { follows = f.2; at = at; running = runs } in
    by_body c f.0 m m.body p f.1 h own (said_as f.2 number m m.body there refl)

-- ---- a node that joined is a node of the chain

pub by_bool : (b : Bool) (P : Bool → Type 0) → (b ≡ true → P true) → (b ≡ false → P false) → P b
by_bool true P t f = t refl
by_bool false P t f = f refl

found : (nodes : List Plain) (id : ℕ) → is_member (map id_of nodes) id ≡ true → (p : Plain) × (node_at nodes id ≡ Some p)
unfolding node_at is_member
found [] id h = absurd (cc)
found (q ∷ qs) id h =
    let R : Option Plain → Type 0 = λ o. (p : Plain) × (o ≡ Some p) in
    by_bool (id_of q == id) (λ (b : Bool). (b || is_member (map id_of qs) id) ≡ true → R (cond b (Some q) (node_at qs id)))
    (λ e k. (q, refl))
    (λ e k. found qs id k)
    h

-- a node's predecessor is another node of the chain
record HasPredecessor (d : Chain) (v : MachineState Entry) (q : Plain) (before : ℕ) : Type 0 where
  other : before ≢ id_of q
  node : Plain
  at : node_at d.nodes before ≡ Some node
  holds : IsPrefix (v.history (id_of q)) (v.history before)

has_predecessor : (d : Chain) (v : MachineState Entry) (q : Plain) (before : ℕ) → Follows d v → IsReached v → NodeFollows v (seen_of q) → predecessor q ≡ Some before → HasPredecessor d v q before
has_predecessor d v q before f r n pred =
    let i : Invariant v = reached_inv r in
    let g : Ages = i.ages in
    let k : Clauses v g = i.clauses in
    let id : ℕ = id_of q in
    let ms : List ℕ = known_membership v id in
    let N : List ℕ → Type 0 = λ l. is_next l before id ≡ true in
    let next : is_next ms before id ≡ true = subst N (sym n.members) (next_from_predecessor q.members id before pred) in
    let lower : g.rank before < g.rank id = next_rank g.rank ms before id (k.shape.sorted (v.epoch id)) next in
    let M : List ℕ → Type 0 = λ l. is_member l before ≡ true in
    let there : (p : Plain) × (node_at d.nodes before ≡ Some p) = found d.nodes before (subst M f.joined (k.shape.is_listed (v.epoch id) before (next_left ms before id next))) in
    record {
      other = λ (e : before ≡ id). let same : g.rank before ≡ g.rank id = ap g.rank e in absurd (omega (arith, same, lower));
      node = there.0;
      at = there.1;
      holds = prefix_of v q before i n pred;
    }

prefix_items : {xs ys : List Entry} → IsPrefix xs ys → item_count (after_entries opening_state xs) ≤ item_count (after_entries opening_state ys)
prefix_items {xs} {ys} p =
    let s : State = after_entries opening_state xs in
    let L : List Entry → Type 0 = λ l. item_count s ≤ item_count (after_entries opening_state l) in
    let S : State → Type 0 = λ t. item_count s ≤ item_count t in
    subst L p.is (subst S (sym (after_entries-append opening_state xs p.rest)) (entries_items s p.rest))

-- ---- after a message

module _ (e i r : ℕ) (small : top e i r ≤ greatest_count) where
  -- a node that takes entries or a state from its predecessor holds no more than the predecessor
  taken_within : (c d : Chain) (v : MachineState Entry) (p q : Plain) (before : ℕ) → AllWithin e i r c → Follows d v → IsReached v → d.nodes ≡ set_node c.nodes q → node_at c.nodes (id_of q) ≡ Some p
      → length q.waiting_reads ≤ length p.waiting_reads → predecessor q ≡ Some before → Within e i r q
  taken_within c d v p q before a f reach nodes at reads pred =
      let N : List Plain → Type 0 = λ l. node_at l (id_of q) ≡ Some q in
      let here : node_at d.nodes (id_of q) ≡ Some q = subst N (sym nodes) (node_here c.nodes q p at) in
      let n : NodeFollows v (seen_of q) = f.nodes (id_of q) q here in
      let h : HasPredecessor d v q before = has_predecessor d v q before f reach n pred in
      let o : Plain = h.node in
      let L : List Plain → Type 0 = λ l. node_at l before ≡ Some o in
      let was : node_at c.nodes before ≡ Some o = sym (node_elsewhere c.nodes q before h.other) ∙ subst L nodes h.at in
      let bound : Within e i r o = a before o was in
      let own : id_of o ≡ before = node_id d.nodes before o h.at in
      let O : ℕ → Type 0 = λ k. node_at d.nodes k ≡ Some o in
      let no : NodeFollows v (seen_of o) = f.nodes (id_of o) o (subst O (sym own) h.at) in
      let P : ℕ → Type 0 = λ k. IsPrefix (v.history (id_of q)) (v.history k) in
      let holds : IsPrefix (v.history (id_of q)) (v.history (id_of o)) = subst P (sym own) h.holds in
      let own_reads : Within e i r p = a (id_of q) p at in
      record {
        entries = omega (arith, prefix_length holds, history_length n.history, history_length no.history, bound.entries);
        items = omega (arith, prefix_items holds, ap item_count (newest_is q n), ap item_count (newest_is o no), bound.items);
        reads = omega (arith, reads, own_reads.reads);
      }

  pub transition_within : (c : Chain) (f : IsFollowed c) (number : ℕ) (m : LinkMessage) (p : Plain) → AllWithin e i r c → node_at c.nodes (id_of p) ≡ Some p → p.running ≡ true
      → message_at c.messages number ≡ Some m → m.receiver ≡ id_of p → (delivery_transition p m).0.name ≡ p.name → Within e i r (delivery_transition p m).0
  transition_within c f number m p a at runs there own named =
      let t : Transition = delivery_transition p m in
      let k : Turned e i r small (cost (top e i r) m.body) p t = delivery_turned e i r small p m in
      let w : Within e i r p = a (id_of p) p at in
      ⊎_elim
      (λ (same : (length_of t.0 ≡ length_of p) × (newest t.0 ≡ newest p)). record {
        entries = omega (arith, same.0, w.entries);
        items = omega (arith, ap item_count same.1, w.items);
        reads = omega (arith, k.reads, w.reads);
      })
      (λ (more : (id : ℕ) × (predecessor t.0 ≡ Some id)).
      let g : CanFollow f.0 (moved c t) = transition_stands c f number m p at runs there own in
      let N : ℕ → Type 0 = λ j. node_at c.nodes j ≡ Some p in
      taken_within c (moved c t) (machine.after_moves f.0 g.0) p t.0 more.0 a g.1 (reached_run f.1 g.0) refl (subst N (ap (λ (n : NodeName). n.node) (sym named)) at) k.reads more.1)
      k.grows
