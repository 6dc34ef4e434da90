-- A node that reported its length holds that number of entries: move by move.
use Rattle.std.proofs.Common.{◌≡◌, ⊎_elim, ℕ, zero, suc, ◌≤◌, ◌==◌, true, ◌||◌, Option, List, [], ◌∷◌, ◌++◌, map, length, Some, Result, Ok, Err, refl, ap, sym, subst, ◌∙◌, arith}
use Rattle.std.specs.Prelude.{⊤}
use Rattle.std.specs.List.{AllByRecursion}
use Rattle.std.proofs.lemmas.Bool.{cond_both}
use Rattle.craq_protocol.specs.Members.{is_member}
use Rattle.craq_names.specs.declared.refusal.Refusal.{Refusal}
use Rattle.craq_names.proofs.Lists.{all_append, all_like}
use Rattle.craq_commands.specs.declared.entry.Entry.{Entry}
use Rattle.craq_model.specs.declared.message.Body.{Body}
use Rattle.craq_model.specs.declared.message.Body.TheVariants as bodies
use Rattle.craq_model.specs.declared.message.LinkMessage.{LinkMessage}
use Rattle.craq_model.specs.declared.step.Out.{Out}
use Rattle.craq_model.specs.declared.step.Out.TheVariants as outs
use Rattle.craq_model.specs.Plain.{Plain, id_of, length_of}
use Rattle.craq_protocol.specs.Machine.{MachineState, after_moves as world_after, initial_state}
use Rattle.craq_protocol.specs.Promises.{IsReached, Later}
use Rattle.craq_protocol.proofs.Prefix.{prefix_length}
use Rattle.craq_protocol.proofs.Reached.{reached_run, reached_opening, reached_later}
use Rattle.craq_runs.specs.Chain.{Chain, Progress, node_at, opening_chain, sent_in, config_to, message_at, chain_step}
use Rattle.craq_runs.specs.Runs.{progressed, Takes, AreTaken, after_moves}
use Rattle.craq_runs.specs.Typed.{IsTypedRunOf}
use Rattle.craq_runs.specs.declared.run.Move.{Move}
use Rattle.craq_runs.specs.declared.run.Run.{Run}
use Rattle.craq_runs.specs.declared.run.Taken.{Taken}
use Rattle.craq_refinement.specs.Follows.{seen_of, NodeFollows, Follows}
use Rattle.craq_refinement.specs.Lines.{CanFollow}
use Rattle.craq_refinement.proofs.EachStep.{every_step}
use Rattle.craq_refinement.proofs.Lists.{all_at}
use Rattle.craq_refinement.proofs.Opening.{opening_follows, distinct_members}
use Rattle.craq_refinement.proofs.Worlds.{history_length}
use Rattle.craq_updates.proofs.EachMove.{place_of}
use Rattle.craq_updates.proofs.Places.{AtNode, AtMaster, happens_at}
use Rattle.craq_updates.proofs.AtNodes.{now_at, now_id}
use Rattle.craq_chain_invariants.specs.Kept.{chain_after}
use Rattle.craq_chain_invariants.proofs.Sent.{IsWithin, AreWithin, SaysHeld, event_held}

-- a sender that reports its length was once a member, and holds that number of entries
abbrev pub IsOf : MachineState Entry → ℕ → Body → Type 0
IsOf w sender (bodies.Config members) = ⊤
IsOf w sender (bodies.Entry e) = ⊤
IsOf w sender (bodies.Ack position) = ⊤
IsOf w sender (bodies.Query ticket key) = ⊤
IsOf w sender (bodies.VersionIs ticket version) = ⊤
IsOf w sender (bodies.Blank count) = (is_member w.joined sender ≡ true) × (count ≤ length (w.history sender))
IsOf w sender (bodies.Batch es) = ⊤
IsOf w sender (bodies.Copy position state) = ⊤
IsOf w sender (bodies.Part part) = ⊤
IsOf w sender (bodies.Floor count) = ⊤

abbrev pub IsHeld : MachineState Entry → LinkMessage → Type 0
IsHeld w m = IsOf w m.sender m.body

abbrev pub AllHeld : MachineState Entry → Chain → Type 0
AllHeld w c = AllByRecursion (IsHeld w) c.messages

later_of : (w v : MachineState Entry) (sender : ℕ) (b : Body) → Later w v → IsOf w sender b → IsOf v sender b
later_of w v sender (bodies.Config members) l h = tt
later_of w v sender (bodies.Entry e) l h = tt
later_of w v sender (bodies.Ack position) l h = tt
later_of w v sender (bodies.Query ticket key) l h = tt
later_of w v sender (bodies.VersionIs ticket version) l h = tt
later_of w v sender (bodies.Blank count) l h = (l.joined sender h.0, omega (arith, h.1, prefix_length (l.history sender)))
later_of w v sender (bodies.Batch es) l h = tt
later_of w v sender (bodies.Copy position state) l h = tt
later_of w v sender (bodies.Part part) l h = tt
later_of w v sender (bodies.Floor count) l h = tt

stays : (w v : MachineState Entry) (ms : List LinkMessage) → Later w v → AllByRecursion (IsHeld w) ms → AllByRecursion (IsHeld v) ms
stays w v ms l a = all_like (IsHeld w) (IsHeld v) ms (λ m h. later_of w v m.sender m.body l h) a

-- a node's messages
body_of : (v : MachineState Entry) (id : ℕ) (b : Body) → is_member v.joined id ≡ true → IsWithin (length (v.history id)) b → IsOf v id b
body_of v id (bodies.Config members) j h = tt
body_of v id (bodies.Entry e) j h = tt
body_of v id (bodies.Ack position) j h = tt
body_of v id (bodies.Query ticket key) j h = tt
body_of v id (bodies.VersionIs ticket version) j h = tt
body_of v id (bodies.Blank count) j h = (j, h)
body_of v id (bodies.Batch es) j h = tt
body_of v id (bodies.Copy position state) j h = tt
body_of v id (bodies.Part part) j h = tt
body_of v id (bodies.Floor count) j h = tt

sent_held : (v : MachineState Entry) (id held : ℕ) (os : List Out) → held ≡ length (v.history id) → is_member v.joined id ≡ true → AreWithin id held os → AllByRecursion (IsHeld v) (sent_in os)
unfolding sent_in
sent_held v id held [] e j a = tt
sent_held v id held (outs.Send to m ∷ os) e j a =
    let P : ℕ → Type 0 = λ k. IsOf v k m.body in
    let Q : ℕ → Type 0 = λ n. IsWithin n m.body in
    (subst P (sym a.0.0) (body_of v id m.body j (subst Q e a.0.1)), sent_held v id held os e j a.1)
sent_held v id held (outs.Answer ticket answer ∷ os) e j a = sent_held v id held os e j a

-- the master's messages
configs_held : (v : MachineState Entry) (c : Chain) (tos : List ℕ) → AllByRecursion (IsHeld v) (sent_in (map (config_to c) tos))
unfolding sent_in
configs_held v c [] = tt
configs_held v c (to ∷ tos) = (tt, configs_held v c tos)

-- a node of the chain was once a member
listed : (nodes : List Plain) (id : ℕ) (p : Plain) → node_at nodes id ≡ Some p → is_member (map id_of nodes) id ≡ true
unfolding node_at is_member
listed [] id p h = absurd (cc)
listed (n ∷ nodes) id p h =
    cond_both (id_of n == id) (Some n) (node_at nodes id) (λ (o : Option Plain). o ≡ Some p → ((id_of n == id) || is_member (map id_of nodes) id) ≡ true)
    (λ e i. ap (λ b. b || is_member (map id_of nodes) id) e)
    (λ e i. ap (λ b. b || is_member (map id_of nodes) id) e ∙ listed nodes id p i)
    h

new_held : (c : Chain) (v : MachineState Entry) (chosen : Move) (x : Progress) → Follows x.0 v → AtNode c chosen x → AllByRecursion (IsHeld v) (sent_in x.1.outs)
new_held c v chosen x g h =
    let q : Plain = h.transition.0 in
    let n : NodeFollows v (seen_of q) = g.nodes (place_of c chosen) q (now_at h) in
    let a : SaysHeld h.transition = event_held h.was h.event h.transition h.does in
    let P : Progress → Type 0 = λ y. AllByRecursion (IsHeld v) (sent_in y.1.outs) in
    let J : List ℕ → Type 0 = λ l. is_member l (id_of q) ≡ true in
    let N : ℕ → Type 0 = λ j. node_at x.0.nodes j ≡ Some q in
    let there : is_member v.joined (id_of q) ≡ true = subst J (sym g.joined) (listed x.0.nodes (id_of q) q (subst N (sym (now_id h)) (now_at h))) in
    subst P (sym h.is) (sent_held v (id_of q) (length_of q) h.transition.1.outs (sym (history_length n.history)) there a)

step_held : (c : Chain) (w v : MachineState Entry) (chosen : Move) (x : Progress) → Later w v → Follows x.0 v → AllHeld w c → chain_step c chosen ≡ Ok x → AllHeld v x.0
step_held c w v chosen x l g all does =
    let old : AllByRecursion (IsHeld v) c.messages = stays w v c.messages l all in
    let P : List LinkMessage → Type 0 = λ ms. AllByRecursion (IsHeld v) ms in
    let joined : x.0.messages ≡ c.messages ++ sent_in x.1.outs → AllByRecursion (IsHeld v) (sent_in x.1.outs) → AllHeld v x.0 =
    λ e new. subst P (sym e) (all_append (IsHeld v) c.messages (sent_in x.1.outs) old new) in
    ⊎_elim
    (λ (h : AtNode c chosen x). joined (ap (λ (y : Progress). y.0.messages) h.is ∙ ap (λ (y : Progress). c.messages ++ sent_in y.1.outs) (sym h.is)) (new_held c v chosen x g h))
    (λ (m : AtMaster c chosen x). joined m.messages (let Q : List Out → Type 0 = λ os. AllByRecursion (IsHeld v) (sent_in os) in subst Q (sym m.outs) (configs_held v m.next m.tos)))
    (happens_at c chosen x does)

-- after moves, in some world that stands for the chain
pub record HeldIn (c : Chain) : Type 0 where
  pub world : MachineState Entry
  pub reached : IsReached world
  pub follows : Follows c world
  pub held : AllHeld world c

by_result : (t : Taken) (ts : List Taken) (c : Chain) → HeldIn c → ((d : Chain) → HeldIn d → AreTaken d ts → HeldIn (after_moves d ts))
    → (res : Result Progress Refusal) → chain_step c t.chosen ≡ res → Takes res t.step × AreTaken (progressed c res) ts → HeldIn (after_moves (progressed c res) ts)
by_result t ts c h go (Err e) is taken = absurd taken.0
by_result t ts c h go (Ok x) is taken =
    let w : MachineState Entry = h.world in
    let n : CanFollow w x.0 = every_step c w t.chosen x h.follows h.reached is in
    let v : MachineState Entry = world_after w n.0 in
    go x.0 (record { world = v; reached = reached_run h.reached n.0; follows = n.1; held = step_held c w v t.chosen x (reached_later h.reached n.0) n.1 h.held is }) taken.1

moves_held : (ts : List Taken) (c : Chain) → HeldIn c → AreTaken c ts → HeldIn (after_moves c ts)
moves_held [] c h taken = h
moves_held (t ∷ ts) c h taken = by_result t ts c h (λ d h taken. moves_held ts d h taken) (chain_step c t.chosen) refl taken

pub run_held : (chain : ℕ) (run : Run) → IsTypedRunOf chain run → HeldIn (chain_after chain run)
run_held chain run i =
    let r : IsReached (initial_state {A = Entry} run.members) = reached_opening run.members (distinct_members run.members i.run_of.members.distinct) in
    moves_held run.moves (opening_chain chain run.members) (record { world = initial_state run.members; reached = r; follows = opening_follows chain run.members; held = tt }) i.run_of.moves

-- the message of a number
pub message_held : (w : MachineState Entry) (ms : List LinkMessage) (number : ℕ) (m : LinkMessage) → AllByRecursion (IsHeld w) ms → message_at ms number ≡ Some m → IsOf w m.sender m.body
message_held w ms zero m a h = absurd (cc)
message_held w ms (suc i) m a h = all_at (IsHeld w) ms i m h a
