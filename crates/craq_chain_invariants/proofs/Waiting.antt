-- A waiting update waits for more than its node knows to be committed: move by move.
use Rattle.std.proofs.Common.{◌≡◌, ⊎_elim, ℕ, ◌+◌, ◌==◌, List, [], ◌∷◌, map, length, Option, Some, Result, Ok, Err, refl, ap, sym, subst, ◌∙◌, arith}
use Rattle.std.proofs.lemmas.Bool.{cond_both, cases_eq}
use Rattle.craq_names.specs.declared.refusal.Refusal.{Refusal}
use Rattle.craq_commands.specs.declared.entry.Entry.{Entry}
use Rattle.craq_model.specs.Plain.{Plain, id_of, opening_member, opening_joined}
use Rattle.craq_protocol.specs.Machine.{MachineState, after_moves as world_after, initial_state}
use Rattle.craq_protocol.specs.Promises.{IsReached}
use Rattle.craq_protocol.proofs.Reached.{reached_run, reached_opening}
use Rattle.craq_runs.specs.Chain.{Chain, Progress, node_at, opening_chain, chain_step}
use Rattle.craq_runs.specs.Runs.{progressed, Takes, AreTaken, after_moves}
use Rattle.craq_runs.specs.Typed.{IsTypedRunOf}
use Rattle.craq_runs.specs.declared.run.Move.{Move}
use Rattle.craq_runs.specs.declared.run.Run.{Run}
use Rattle.craq_runs.specs.declared.run.Taken.{Taken}
use Rattle.craq_refinement.specs.Follows.{IsPlaced, seen_of, NodeFollows, Follows}
use Rattle.craq_refinement.specs.Lines.{CanFollow}
use Rattle.craq_refinement.proofs.EachStep.{every_step}
use Rattle.craq_refinement.proofs.Lists.{placed_back}
use Rattle.craq_refinement.proofs.Master.{node_pushed}
use Rattle.craq_refinement.proofs.Opening.{opening_follows, distinct_members}
use Rattle.craq_updates.proofs.EachMove.{place_of}
use Rattle.craq_updates.proofs.Known.{some_same}
use Rattle.craq_updates.proofs.Places.{AtNode, AtMaster, OneMore, happens_at}
use Rattle.craq_updates.proofs.AtNodes.{now_at, others_stay}
use Rattle.craq_chain_invariants.specs.Kept.{IsNode, chain_after}
use Rattle.craq_chain_invariants.proofs.Above.{AllAbove, WaitAbove, none_waits, event_above}

-- at each node of the chain
abbrev pub AllWaitAbove : Chain → Type 0
AllWaitAbove c = (id : ℕ) (p : Plain) → node_at c.nodes id ≡ Some p → WaitAbove p

-- a node's entries are at their positions
entries_placed : {c : Chain} {w : MachineState Entry} → Follows c w → (id : ℕ) (p : Plain) → node_at c.nodes id ≡ Some p → IsPlaced p.past.base p.past.entries
entries_placed {c} {w} f id p at =
    let n : NodeFollows w (seen_of p) = f.nodes id p at in
    let P : List Entry → Type 0 = λ l. IsPlaced 0 l in
    let Q : ℕ → Type 0 = λ j. IsPlaced j p.past.entries in
    let count : 0 + length n.history.front ≡ p.past.base = omega (arith, n.history.count) in
    subst Q count (placed_back 0 n.history.front p.past.entries (subst P (sym n.history.whole) n.placed))

at_node : (c : Chain) (w : MachineState Entry) (chosen : Move) (x : Progress) → Follows c w → AllWaitAbove c → AtNode c chosen x → AllWaitAbove x.0
at_node c w chosen x f all h id p at =
    ⊎_elim
    (λ e.
    let P : ℕ → Type 0 = λ j. node_at x.0.nodes j ≡ Some p in
    let same : h.transition.0 ≡ p = some_same (node_at x.0.nodes (place_of c chosen)) (now_at h) (subst P e at) in
    let W : Plain → Type 0 = λ p. WaitAbove p in
    subst W same (event_above h.was (all (place_of c chosen) h.was h.at) (entries_placed f (place_of c chosen) h.was h.at) h.event h.transition h.does))
    (λ ne. all id p (sym (others_stay h id ne) ∙ at))
    (cases_eq id (place_of c chosen))

at_master : (c : Chain) (chosen : Move) (x : Progress) → AllWaitAbove c → AtMaster c chosen x → AllWaitAbove x.0
at_master c chosen x all m id p at =
    ⊎_elim
    (λ e. all id p (sym (ap (λ l. node_at l id) e) ∙ at))
    (λ (o : OneMore c.nodes x.0.nodes).
    let new : Plain = opening_joined (record { chain = o.chain; node = o.new }) in
    ⊎_elim
    (λ old. all id p old)
    (λ (n : (new ≡ p) × (o.new ≡ id)). let W : Plain → Type 0 = λ p. WaitAbove p in subst W n.0 (none_waits new refl))
    (node_pushed c.nodes new id p (sym (ap (λ l. node_at l id) o.is) ∙ at)))
    m.nodes

step_above : (c : Chain) (w : MachineState Entry) (chosen : Move) (x : Progress) → Follows c w → AllWaitAbove c → chain_step c chosen ≡ Ok x → AllWaitAbove x.0
step_above c w chosen x f all does = ⊎_elim (λ (h : AtNode c chosen x). at_node c w chosen x f all h) (λ (m : AtMaster c chosen x). at_master c chosen x all m) (happens_at c chosen x does)

by_result : (t : Taken) (ts : List Taken) (c : Chain) (w : MachineState Entry) → Follows c w → IsReached w → AllWaitAbove c
    → ((d : Chain) (v : MachineState Entry) → Follows d v → IsReached v → AllWaitAbove d → AreTaken d ts → AllWaitAbove (after_moves d ts))
    → (res : Result Progress Refusal) → chain_step c t.chosen ≡ res → Takes res t.step × AreTaken (progressed c res) ts → AllWaitAbove (after_moves (progressed c res) ts)
by_result t ts c w f r all go (Err e) is taken = absurd taken.0
by_result t ts c w f r all go (Ok x) is taken =
    let n : CanFollow w x.0 = every_step c w t.chosen x f r is in
    go x.0 (world_after w n.0) n.1 (reached_run r n.0) (step_above c w t.chosen x f all is) taken.1

moves_above : (ts : List Taken) (c : Chain) (w : MachineState Entry) → Follows c w → IsReached w → AllWaitAbove c → AreTaken c ts → AllWaitAbove (after_moves c ts)
moves_above [] c w f r all taken = all
moves_above (t ∷ ts) c w f r all taken = by_result t ts c w f r all (λ d v f r all taken. moves_above ts d v f r all taken) (chain_step c t.chosen) refl taken

opening_above : (chain : ℕ) (members ids : List ℕ) (id : ℕ) (p : Plain) → node_at (map (λ id. opening_member (record { chain = chain; node = id }) members) ids) id ≡ Some p → WaitAbove p
unfolding node_at
opening_above chain members [] id p h = absurd (cc)
opening_above chain members (m ∷ ids) id p h =
    let q : ℕ → Plain = λ id. opening_member (record { chain = chain; node = id }) members in
    let W : Plain → Type 0 = λ p. WaitAbove p in
    cond_both (m == id) (Some (q m)) (node_at (map q ids) id) (λ (o : Option Plain). o ≡ Some p → WaitAbove p)
    (λ e i. let same : q m ≡ p = cc in subst W same (none_waits (q m) refl))
    (λ e i. opening_above chain members ids id p i)
    h

pub above : (chain : ℕ) (run : Run) (p : Plain) → IsTypedRunOf chain run → IsNode (chain_after chain run) p → AllAbove p.past.acknowledged p.waiting_updates
above chain run p i at =
    let o : MachineState Entry = initial_state run.members in
    let r : IsReached o = reached_opening run.members (distinct_members run.members i.run_of.members.distinct) in
    let w : WaitAbove p = moves_above run.moves (opening_chain chain run.members) o (opening_follows chain run.members) r (λ id q there. opening_above chain run.members run.members id q there) i.run_of.moves (id_of p) p at in
    w.above
