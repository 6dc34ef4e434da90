-- An acknowledgement advances by one member in a round.
use Rattle.std.proofs.Common.{◌≡◌, ◌≢◌, inl, inr, ℕ, suc, ◌≤◌, ◌<◌, ◌==◌, nat_le, nat_lt, true, not, cond, List, [], ◌∷◌, ◌++◌, length, Option, Some, None, refl, ap, sym, subst, ◌∙◌, arith}
use Rattle.std.proofs.lemmas.Bool.{cond_both, both_ways, eq-eqb, eqb-true, leb-true, ltb-true, not-true}
use Rattle.craq_commands.specs.declared.entry.Entry.{Entry}
use Rattle.craq_model.specs.declared.message.Body.TheVariants as bodies
use Rattle.craq_model.specs.declared.message.LinkMessage.{LinkMessage}
use Rattle.craq_model.specs.declared.step.Out.{Out}
use Rattle.craq_model.specs.declared.step.Out.TheVariants as outs
use Rattle.craq_model.specs.declared.step.Why.TheVariants.{NotNeighbour, AlreadyHave, NotReadyHere, TooFar}
use Rattle.craq_model.specs.Deliveries.{ack_transition, acknowledgement_transition, body_transition, delivery_transition}
use Rattle.craq_model.specs.Members.{is_id, is_member, predecessor_in, successor_in}
use Rattle.craq_model.specs.Plain.{Plain, id_of, is_last, length_of, predecessor, successor}
use Rattle.craq_model.specs.Sends.{catch_up, queries, ready_sends, send, send_all, tick_sends, to_neighbour, unready_sends}
use Rattle.craq_model.specs.Settle.{Transition, transition_ignoring}
use Rattle.craq_protocol.specs.Machine as machine
use Rattle.craq_protocol.specs.Machine.{MachineState}
use Rattle.craq_protocol.specs.Promises.{IsPrefix, IsSafe, Sent}
use Rattle.craq_protocol.proofs.Invariant.{Invariant}
use Rattle.craq_protocol.proofs.Reached.{reached_inv, reached_safe}
use Rattle.craq_refinement.specs.Follows.{Follows, NodeFollows, said, seen_of}
use Rattle.craq_refinement.specs.Lines.{IsFollowed}
use Rattle.craq_protocol.proofs.Lists.{next_right}
use Rattle.craq_refinement.proofs.EachLine.{said_as}
use Rattle.craq_refinement.proofs.EachStep.{every_run}
use Rattle.craq_refinement.proofs.Members.{is_member-same, next_from_predecessor}
use Rattle.craq_laws.proofs.Nodes.{node_id}
use Rattle.craq_refinement.proofs.Worlds.{history_length}
use Rattle.craq_runs.specs.Chain.{Chain, message_at, node_at, sent_in}
use Rattle.craq_runs.specs.Runs.{IsRunOf, after_move}
use Rattle.craq_runs.specs.declared.run.Run.{Run}
use Rattle.craq_recovery.specs.Recovered.{AreNeighbours, Knows, KnowsCommitted, after_round, chain_after_moves}
use Rattle.craq_recovery.specs.Rounds.{after_moves_by, round}
use Rattle.craq_recovery.specs.Taken.{HaveNumbers}
use Rattle.craq_recovery.proofs.Gains.{prefix_length}
use Rattle.craq_recovery.proofs.Hearing.{Informed}
use Rattle.craq_recovery.proofs.Ids.{none_is_master, not_master}
use Rattle.craq_recovery.proofs.Sound.{Sound, sound_after}
use Rattle.craq_recovery.proofs.Series.{Has}
use Rattle.craq_recovery.proofs.Travels.{IsKept, Makes, Met, NodeIs, crosses_one, ends, one_by_one, met, stands_by}

-- ---- nodes of the master's epoch

-- a ready node of at least this epoch
pub record Receiver (epoch : ℕ) (p : Plain) : Type 0 where
  pub ready : p.ready ≡ true
  pub late : epoch ≤ p.epoch

pub receiver_kept : (epoch : ℕ) → IsKept (Receiver epoch)
receiver_kept epoch p q g s = record { ready = g.ready s.ready; late = omega (arith, g.epoch, s.late) }

abbrev Knowing : ℕ → Plain → Type 0
Knowing least p = least ≤ p.past.acknowledged

knowing_kept : (least : ℕ) → IsKept (Knowing least)
knowing_kept least p q g s = omega (arith, g.acknowledged, s)

abbrev informed : {d : Chain} {id epoch : ℕ} {F : Plain → Type 0} → (i : NodeIs d id F) → epoch ≤ i.node.epoch → Informed d id epoch
informed i late = record { node = i.node; at = i.at; runs = i.runs; late = late }

-- ---- the message

pub record IsAck (epoch from to least : ℕ) (m : LinkMessage) : Type 0 where
  pub position : ℕ
  pub says : m.body ≡ bodies.Ack position
  pub enough : least ≤ position
  pub made : m.epoch ≡ epoch
  pub comes_from : m.sender ≡ from
  pub goes_to : m.receiver ≡ to

-- ---- a tick sends it

has_left : (Is : LinkMessage → Type 0) (os ps : List Out) → Has Is (sent_in os) → Has Is (sent_in (os ++ ps))
unfolding sent_in
has_left Is [] ps h = absurd h
has_left Is (outs.Send to m ∷ os) ps (inl is) = inl is
has_left Is (outs.Send to m ∷ os) ps (inr h) = inr (has_left Is os ps h)
has_left Is (outs.Answer ticket answer ∷ os) ps h = has_left Is os ps h

has_right : (Is : LinkMessage → Type 0) (os ps : List Out) → Has Is (sent_in ps) → Has Is (sent_in (os ++ ps))
unfolding sent_in
has_right Is [] ps h = h
has_right Is (outs.Send to m ∷ os) ps h = inr (has_right Is os ps h)
has_right Is (outs.Answer ticket answer ∷ os) ps h = has_right Is os ps h

one_ack : (Is : LinkMessage → Type 0) (p : Plain) (to : ℕ) → Is (record { chain = p.name.chain; sender = id_of p; receiver = to; stamp = 1; index = 0; epoch = p.epoch; body = bodies.Ack p.past.acknowledged })
    → Has Is (sent_in (send p to (bodies.Ack p.past.acknowledged) ∷ []))
unfolding sent_in
one_ack Is p to h = inl h

ready_acks : (Is : LinkMessage → Type 0) (p : Plain) (to : ℕ) → predecessor p ≡ Some to → Has Is (sent_in (send p to (bodies.Ack p.past.acknowledged) ∷ [])) → Has Is (sent_in (ready_sends p))
unfolding ready_sends
ready_acks Is p to before h =
    let first : List Out = to_neighbour (successor p) (λ to. send_all p to (catch_up p p.past.acknowledged)) in
    let second : List Out = to_neighbour (predecessor p) (λ to. send p to (bodies.Ack p.past.acknowledged) ∷ []) in
    let third : List Out = cond (is_last p) [] (queries p) in
    let P : Option ℕ → Type 0 = λ o. Has Is (sent_in (to_neighbour o (λ to. send p to (bodies.Ack p.past.acknowledged) ∷ []))) in
    has_left Is (first ++ second) third (has_right Is first second (subst P (sym before) h))

tick_acks : (Is : LinkMessage → Type 0) (p : Plain) (to : ℕ) → p.ready ≡ true → 0 < p.epoch → predecessor p ≡ Some to → Has Is (sent_in (send p to (bodies.Ack p.past.acknowledged) ∷ [])) → Has Is (sent_in (tick_sends p))
unfolding tick_sends
tick_acks Is p to ready late before h =
    let Q : List Out → Type 0 = λ os. Has Is (sent_in os) in
    cond_both (p.epoch == 0) [] (cond p.ready (ready_sends p) (unready_sends p)) Q
    (λ e. let z : p.epoch ≡ 0 = eqb-true p.epoch 0 e in absurd (omega (arith, z, late)))
    (λ e. cond_both p.ready (ready_sends p) (unready_sends p) Q
    (λ r. ready_acks Is p to before h)
    (λ r. absurd (both_ways p.ready r ready)))

-- a ready node is in an epoch
pub in_epoch : (c : Chain) (id : ℕ) (p : Plain) → IsFollowed c → node_at c.nodes id ≡ Some p → p.ready ≡ true → 0 < p.epoch
in_epoch c id p f at ready =
    let w : MachineState Entry = f.0 in
    let g : Follows c w = f.2 in
    let P : ℕ → Type 0 = λ k. node_at c.nodes k ≡ Some p in
    let n : NodeFollows w (seen_of p) = g.nodes (id_of p) p (subst P (sym (node_id c.nodes id p at)) at) in
    let i : Invariant w = reached_inv f.1 in
    let late : 0 < w.epoch (id_of p) = i.clauses.ready_has_epoch (id_of p) (n.ready ∙ ready) in
    omega (arith, late, n.epoch)

sends_ack : (c : Chain) (q : Plain) (to : ℕ) → IsFollowed c → node_at c.nodes (id_of q) ≡ Some q → Knows c q → q.ready ≡ true → predecessor_in c.members (id_of q) ≡ Some to
    → Has (IsAck c.epoch (id_of q) to q.past.acknowledged) (sent_in (tick_sends q))
sends_ack c q to f at k ready before =
    let P : List ℕ → Type 0 = λ l. predecessor_in l (id_of q) ≡ Some to in
    let Is : LinkMessage → Type 0 = IsAck c.epoch (id_of q) to q.past.acknowledged in
    tick_acks Is q to ready (in_epoch c (id_of q) q f at ready) (subst P (sym k.members) before)
    (one_ack Is q to (record { position = q.past.acknowledged; says = refl; enough = omega arith; made = k.epoch; comes_from = refl; goes_to = refl }))

-- ---- it arrives

pub is_id_here : (o : Option ℕ) (id : ℕ) → o ≡ Some id → is_id o id ≡ true
is_id_here None id h = absurd (cc)
is_id_here (Some m) id h = let same : m ≡ id = cc in eq-eqb m id same

acknowledges : (p : Plain) (from position : ℕ) → successor p ≡ Some from → p.ready ≡ true → position ≤ length_of p → position ≤ (ack_transition p from position).0.past.acknowledged
unfolding ack_transition acknowledgement_transition
acknowledges p from position after ready le =
    let P : Transition → Type 0 = λ t. position ≤ t.0.past.acknowledged in
    let t4 : Transition = acknowledgement_transition p position in
    let t3 : Transition = cond (nat_lt (length_of p) position) (transition_ignoring p TooFar) t4 in
    let t2 : Transition = cond (nat_le position p.past.acknowledged) (transition_ignoring p AlreadyHave) t3 in
    let t1 : Transition = cond (not p.ready) (transition_ignoring p NotReadyHere) t2 in
    cond_both (not (is_id (successor p) from)) (transition_ignoring p NotNeighbour) t1 P
    (λ e. absurd (both_ways (is_id (successor p) from) (not-true (is_id (successor p) from) e) (is_id_here (successor p) from after)))
    (λ e. cond_both (not p.ready) (transition_ignoring p NotReadyHere) t2 P
    (λ e. absurd (both_ways p.ready (not-true p.ready e) ready))
    (λ e. cond_both (nat_le position p.past.acknowledged) (transition_ignoring p AlreadyHave) t3 P
    (λ e. leb-true position p.past.acknowledged e)
    (λ e. cond_both (nat_lt (length_of p) position) (transition_ignoring p TooFar) t4 P
    (λ e. let far : length_of p < position = ltb-true (length_of p) position e in absurd (omega (arith, far, le)))
    (λ e. omega arith))))

-- a ready node holds the entries acknowledged in an epoch
held_by : (c : Chain) (number : ℕ) (m : LinkMessage) (position id : ℕ) (p : Plain) → IsFollowed c → message_at c.messages number ≡ Some m → m.body ≡ bodies.Ack position
    → node_at c.nodes id ≡ Some p → p.running ≡ true → p.ready ≡ true → position ≤ length_of p
held_by c number m position id p f there is at runs ready =
    let w : MachineState Entry = f.0 in
    let g : Follows c w = f.2 in
    let P : ℕ → Type 0 = λ k. node_at c.nodes k ≡ Some p in
    let n : NodeFollows w (seen_of p) = g.nodes (id_of p) p (subst P (sym (node_id c.nodes id p at)) at) in
    let s : IsSafe w = reached_safe f.1 in
    let sent : Sent w.messages (said m.epoch m.sender m.receiver (machine.Ack position)) = said_as g number m (bodies.Ack position) there is in
    let most : position ≤ length w.log = s.ack (said m.epoch m.sender m.receiver (machine.Ack position)) position sent refl in
    let holds : IsPrefix w.log (w.history (id_of p)) = s.committed (id_of p) (n.ready ∙ ready) (s.alive (id_of p) (n.running ∙ runs)) in
    omega (arith, most, prefix_length holds, history_length n.history)

ack_makes : (c : Chain) (from to least : ℕ) → successor_in c.members to ≡ Some from → Makes c to (IsAck c.epoch from to least) (Receiver c.epoch) (Knowing least)
ack_makes c from to least after d number m x s f on g there e is =
    let k : Met c d x m to (Receiver c.epoch) = met c d to number m x (Receiver c.epoch) (λ p r. r.late) s f on g there e is.goes_to is.made in
    let p : Plain = k.node in
    let r : Receiver c.epoch p = k.holds in
    let next : successor p ≡ Some m.sender = stands_by k successor_in after is.comes_from in
    let le : is.position ≤ length_of p = held_by d number m is.position to p f there is.says k.there k.running r.ready in
    let does : delivery_transition p m ≡ ack_transition p m.sender is.position = ap (body_transition p m) is.says ∙ one_by_one k (ack_transition p m.sender is.position) in
    let got : is.position ≤ (ack_transition p m.sender is.position).0.past.acknowledged = acknowledges p m.sender is.position next r.ready le in
    ends k (Knowing least) (omega (arith, is.enough, got, ap (λ (t : Transition). t.0.past.acknowledged) does))

-- ---- in a round

pub ack_crosses : (count : ℕ) (c : Chain) (p q : Plain) → Sound c → IsFollowed c → id_of q ≢ 0
    → node_at c.nodes (id_of p) ≡ Some p → node_at c.nodes (id_of q) ≡ Some q → Knows c p → Knows c q → p.ready ≡ true → q.ready ≡ true
    → is_member c.members (id_of q) ≡ true → successor_in c.members (id_of p) ≡ Some (id_of q) → predecessor_in c.members (id_of q) ≡ Some (id_of p)
    → HaveNumbers c (round after_move (suc count) c)
    → NodeIs (after_moves_by after_move c (round after_move (suc count) c)) (id_of p) (λ r. q.past.acknowledged ≤ r.past.acknowledged)
ack_crosses count c p q s f some at_p at_q kp kq rp rq member after before numbers =
    let least : ℕ = q.past.acknowledged in
    let pe : p.epoch ≡ c.epoch = kp.epoch in
    crosses_one count c (id_of q) (id_of p) q (IsAck c.epoch (id_of q) (id_of p) least) (Receiver c.epoch) (Knowing least)
    (receiver_kept c.epoch) (knowing_kept least) some member at_q kq.running
    (sends_ack c q (id_of p) f at_q kq rq before) (λ m is. is.goes_to) (ack_makes c (id_of q) (id_of p) least after) s f
    (record { node = p; at = at_p; runs = kp.running; holds = record { ready = rp; late = omega (arith, pe) } })
    numbers

pub acks_flow : (chain : ℕ) (run : Run) (count : ℕ) (p q : Plain) → IsRunOf chain run → AreNeighbours (chain_after_moves chain run) p q → p.ready ≡ true → q.ready ≡ true
    → HaveNumbers (chain_after_moves chain run) (round after_move (suc count) (chain_after_moves chain run))
    → KnowsCommitted (after_round (suc count) (chain_after_moves chain run)) (id_of p) q.past.acknowledged
acks_flow chain run count p q is n rp rq numbers =
    let c : Chain = chain_after_moves chain run in
    let some : 1 ≤ id_of q = not_master c.nodes (id_of q) q n.later (none_is_master chain run is) in
    let member : is_member c.members (id_of q) ≡ true = is_member-same c.members (id_of q) ∙ next_right c.members (id_of p) (id_of q) (next_from_predecessor c.members (id_of q) (id_of p) n.before) in
    let i : NodeIs (after_round (suc count) c) (id_of p) (λ r. q.past.acknowledged ≤ r.past.acknowledged) =
    ack_crosses count c p q (sound_after chain run.members run.moves) (every_run chain run is) (λ z. absurd (omega (arith, some, z))) n.earlier n.later n.earlier_knows n.later_knows rp rq member n.after n.before numbers in
    record { node = i.node; at = i.at; knows = i.holds }
