-- The invariant of an account of a run and of the world that stands for its chain.
use Rattle.std.proofs.Common.{◌≡◌, ◌≢◌, ⊎_elim, ℕ, ◌≤◌, ◌==◌, true, ◌&&◌, List, [], ◌∷◌, ◌++◌, length, find, Option, Some, None, ap, sym, subst, ◌∙◌, arith}
use Rattle.std.specs.List.{AllByRecursion}
use Rattle.std.proofs.lemmas.Bool.{cond_both, cases_eq, and_parts, cond-false, ne_eqb}
use Rattle.craq_commands.specs.declared.entry.Entry.{Entry}
use Rattle.craq_commands.specs.SingleCopy.{opening_state, after_entries}
use Rattle.craq_commands.proofs.Entries.{after_entries-append}
use Rattle.craq_model.specs.Plain.{Plain, id_of, newest, opening_joined}
use Rattle.craq_protocol.specs.Members.{is_member, is_last}
use Rattle.craq_protocol.specs.Machine as machine
use Rattle.craq_protocol.specs.Machine.{MachineState, known_membership}
use Rattle.craq_protocol.specs.Promises.{IsReached}
use Rattle.craq_protocol.proofs.Invariant.{Invariant}
use Rattle.craq_protocol.proofs.Reached.{reached_inv}
use Rattle.craq_runs.specs.declared.run.Move.{Move}
use Rattle.craq_runs.specs.Chain.{Chain, Progress, node_at}
use Rattle.craq_runs.specs.Seen.{Asked}
use Rattle.craq_runs.specs.Explain.{Account}
use Rattle.craq_refinement.specs.Follows.{seen_of, NodeFollows, Follows}
use Rattle.craq_refinement.proofs.Master.{found}
use Rattle.craq_updates.specs.ValidEntries.{AllValid}
use Rattle.craq_updates.proofs.Machine.{Held}
use Rattle.craq_updates.proofs.EachMove.{place_of}
use Rattle.craq_updates.proofs.Found.{IsNumbered, find_left}
use Rattle.craq_updates.proofs.Updates.{numbers_of}
use Rattle.craq_updates.proofs.Places.{AtNode, AtMaster, OneMore}
use Rattle.craq_updates.proofs.AtNodes.{now_at, others_stay, tickets_rise}
use Rattle.craq_updates.proofs.Lens.{AreLens}

-- the request's node exists, and has given its ticket
pub record IsTicketed (nodes : List Plain) (a : Asked) : Type 0 where
  pub node : Plain
  pub at : node_at nodes a.node ≡ Some node
  pub given : (t : ℕ) → a.ticket ≡ Some t → t ≤ node.last_ticket

pub record Known (a : Account) (w : MachineState Entry) : Type 0 where
  pub reached : IsReached w
  pub follows : Follows a.chain w
  pub committed : a.committed ≡ w.log
  pub held : Held (AllValid a.asks opening_state) w
  pub numbered : IsNumbered a.asks
  pub in_time : AllByRecursion (λ (x : Asked). x.move ≤ a.chain.moves) a.asks
  pub ticketed : AllByRecursion (IsTicketed a.chain.nodes) a.asks
  pub nobody : node_at a.chain.nodes 0 ≡ None
  pub lens : AreLens a.chain.moves a.lens (numbers_of a.asks a.committed)

-- ---- nodes

-- nodes stay, and give more tickets
abbrev pub NodesGrow : List Plain → List Plain → Type 0
NodesGrow old new = (id : ℕ) (p : Plain) → node_at old id ≡ Some p → (q : Plain) × (node_at new id ≡ Some q) × (p.last_ticket ≤ q.last_ticket)

pub some_same : {A : Type 0} {x y : A} (o : Option A) → o ≡ Some x → o ≡ Some y → x ≡ y
some_same o h k = cc

pub grow_at_node : {c : Chain} {chosen : Move} {x : Progress} → AtNode c chosen x → NodesGrow c.nodes x.0.nodes
grow_at_node {c} {chosen} {x} a id p h =
    ⊎_elim
    (λ e.
    let P : ℕ → Type 0 = λ j. node_at c.nodes j ≡ Some p in
    let same : a.was ≡ p = some_same (node_at c.nodes (place_of c chosen)) a.at (subst P e h) in
    let Q : ℕ → Type 0 = λ j. node_at x.0.nodes j ≡ Some a.transition.0 in
    let R : Plain → Type 0 = λ p. p.last_ticket ≤ a.transition.0.last_ticket in
    (a.transition.0, subst Q (sym e) (now_at a), subst R same (tickets_rise a)))
    (λ ne. (p, others_stay a id ne ∙ h, omega arith))
    (cases_eq id (place_of c chosen))

pub grow_at_master : {c : Chain} {chosen : Move} {x : Progress} → AtMaster c chosen x → NodesGrow c.nodes x.0.nodes
unfolding node_at
grow_at_master {c} {chosen} {x} a id p h =
    ⊎_elim
    (λ e. (p, ap (λ l. node_at l id) e ∙ h, omega arith))
    (λ (m : OneMore c.nodes x.0.nodes). (
      p,
      ap (λ l. node_at l id) m.is ∙ find_left (λ (p : Plain). id_of p == id) c.nodes (opening_joined (record { chain = m.chain; node = m.new }) ∷ []) p h,
      omega arith,
    ))
    a.nodes

absent_push : (nodes : List Plain) (q : Plain) (id : ℕ) → node_at nodes id ≡ None → id_of q ≢ id → node_at (nodes ++ q ∷ []) id ≡ None
unfolding node_at
absent_push [] q id h ne = cond-false (id_of q == id) (Some q) None (ne_eqb (id_of q) id ne)
absent_push (n ∷ nodes) q id h ne =
    cond_both (id_of n == id) (Some n) (find (λ (p : Plain). id_of p == id) nodes) (λ (o : Option Plain). o ≡ None → node_at (n ∷ (nodes ++ q ∷ [])) id ≡ None)
    (λ e i. absurd (cc))
    (λ e i. cond-false (id_of n == id) (Some n) (find (λ (p : Plain). id_of p == id) (nodes ++ q ∷ [])) e ∙ absent_push nodes q id i ne)
    h

pub nobody_at_node : {c : Chain} {chosen : Move} {x : Progress} → node_at c.nodes 0 ≡ None → AtNode c chosen x → node_at x.0.nodes 0 ≡ None
nobody_at_node {c} {chosen} {x} n a =
    let P : ℕ → Type 0 = λ j. node_at c.nodes j ≡ Some a.was in
    let ne : 0 ≢ place_of c chosen = λ e. let there : node_at c.nodes 0 ≡ Some a.was = subst P (sym e) a.at in cc in
    others_stay a 0 ne ∙ n

pub nobody_at_master : {c : Chain} {chosen : Move} {x : Progress} → node_at c.nodes 0 ≡ None → AtMaster c chosen x → node_at x.0.nodes 0 ≡ None
nobody_at_master {c} {chosen} {x} n a =
    ⊎_elim
    (λ e. ap (λ l. node_at l 0) e ∙ n)
    (λ (m : OneMore c.nodes x.0.nodes). ap (λ l. node_at l 0) m.is ∙ absent_push c.nodes (opening_joined (record { chain = m.chain; node = m.new })) 0 n m.some)
    a.nodes

-- a tail is a node of the chain
pub tail_there : {c : Chain} {w : MachineState Entry} → Follows c w → IsReached w → (id : ℕ) → machine.is_tail w id ≡ true → (p : Plain) × (node_at c.nodes id ≡ Some p)
tail_there {c} {w} f r id t =
    let i : Invariant w = reached_inv r in
    let running : w.running id ≡ true = (and_parts (w.running id) (w.ready id) (and_parts (w.running id && w.ready id) (is_last (known_membership w id) id) t).0).0 in
    let listed : is_member w.joined id ≡ true = i.clauses.shape.is_listed (length w.memberships) id (i.clauses.running_is_member id running) in
    let P : List ℕ → Type 0 = λ l. is_member l id ≡ true in
    found c.nodes id (subst P f.joined listed)

-- ---- states

-- a node's newest state is that after its whole history
pub newest_is : {w : MachineState Entry} (p : Plain) → NodeFollows w (seen_of p) → newest p ≡ after_entries opening_state (w.history (id_of p))
unfolding newest
newest_is {w} p n =
    sym (ap (after_entries opening_state) (sym n.history.whole) ∙ (after_entries-append opening_state n.history.front p.past.entries ∙ ap (λ s. after_entries s p.past.entries) n.history.after))
