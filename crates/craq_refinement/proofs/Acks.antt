-- A node takes an acknowledgement.
use Rattle.std.proofs.Common.{◌≡◌, inl, inr, ℕ, ◌<◌, ◌≤◌, nat_le, nat_lt, true, not, cond, List, [], ◌∷◌, ◌++◌, map, Some, None, refl, ◌∙◌, arith}
use Rattle.std.proofs.lemmas.Bool.{not-false, leb-false, ltb-false}
use Rattle.craq_commands.specs.declared.entry.Entry.{Entry}
use Rattle.craq_model.specs.declared.message.Body.TheVariants as bodies
use Rattle.craq_model.specs.declared.message.LinkMessage.{LinkMessage}
use Rattle.craq_model.specs.declared.step.Out.{Out}
use Rattle.craq_model.specs.declared.step.Why.TheVariants.{NotNeighbour, AlreadyHave, NotReadyHere, TooFar}
use Rattle.craq_model.specs.Members.{is_id}
use Rattle.craq_model.specs.Plain.{Plain, id_of, successor, predecessor, length_of, acknowledging}
use Rattle.craq_model.specs.Sends.{send, to_neighbour}
use Rattle.craq_model.specs.Settle.{Transition, Given, transition_ignoring, update_given, answer_outs}
use Rattle.craq_model.specs.Deliveries.{pending_updates, later_updates, acknowledgement_transition, ack_transition, transition_in_epoch}
use Rattle.craq_protocol.specs.Members.{with_value}
use Rattle.craq_protocol.specs.Machine as machine
use Rattle.craq_protocol.specs.Machine.{MachineState, MachineMove, Take, after_move, after_receipt}
use Rattle.craq_protocol.specs.Promises.{Sent}
use Rattle.craq_protocol.proofs.Lists.{put_same, put_other}
use Rattle.craq_protocol.proofs.Effects.{ack_does}
use Rattle.craq_runs.specs.Chain.{Chain}
use Rattle.craq_refinement.specs.Follows.{said, seen_of, NodeFollows, Follows}
use Rattle.craq_refinement.specs.Lines.{IsHearing}
use Rattle.craq_refinement.proofs.Members.{is_id-some}
use Rattle.craq_refinement.proofs.Worlds.{history_length}
use Rattle.craq_refinement.proofs.Stages.{TransitionFollows, Stage, stage_transition}
use Rattle.craq_refinement.proofs.Ticks.{sendable_both, sendable_answers, sendable_neighbour, sendable_one, next_before}
use Rattle.craq_refinement.proofs.Here.{Here, here_node, guard, in_epoch, takes, next_is_succ}

-- the node that knows this number of entries to be committed
abbrev hearing : Plain → ℕ → Plain
hearing p position = record (acknowledging p position) { waiting_updates = later_updates position p.waiting_updates }

heard : {c : Chain} {w : MachineState Entry} (p : Plain) → Here c w p → (m : LinkMessage) (position : ℕ) → m.receiver ≡ id_of p → m.epoch ≡ p.epoch
    → Sent w.messages (said m.epoch m.sender m.receiver (machine.Ack position)) → successor p ≡ Some m.sender → p.ready ≡ true → p.past.acknowledged < position → position ≤ length_of p
    → (k : ℕ) × Stage c w (Take (id_of p) k ∷ []) (record w { acknowledged = with_value w.acknowledged (id_of p) position }) (hearing p position)
heard {c} {w} p h m position to ep s su r lt le =
    let id : ℕ = id_of p in
    let n : NodeFollows w (seen_of p) = here_node p h in
    let t : (k : ℕ) × (after_move w (Take id k) ≡ after_receipt w id m.sender (machine.Ack position)) = takes p n h.running m (machine.Ack position) to ep s in (
      t.0,
      record {
        was = p;
        at = h.at;
        is = t.1 ∙ ack_does w id m.sender position (next_is_succ p h m.sender su) (n.ready ∙ r) (omega (arith, n.acknowledged, lt)) (omega (arith, le, history_length n.history));
        only = record {
          memberships = refl;
          joined = refl;
          messages = refl;
          running = λ n ne. refl;
          epoch = λ n ne. refl;
          ready = λ n ne. refl;
          history = λ n ne. refl;
          acknowledged = λ n ne. put_other w.acknowledged id position n ne;
          floor = λ n ne. refl;
        };
        node = record {
          running = n.running;
          epoch = n.epoch;
          members = n.members;
          ready = n.ready;
          history = n.history;
          placed = n.placed;
          acknowledged = put_same w.acknowledged id position;
          based = omega (arith, n.based, lt);
          floor = n.floor;
          gathering = n.gathering;
        };
        running = h.running;
      },
    )

passes : {Own : List (MachineMove Entry) → Type 0} {c : Chain} {w : MachineState Entry} {own : List (MachineMove Entry)} {v : MachineState Entry} (p : Plain) (position : ℕ) → Follows c w
    → Stage c w own v (hearing p position) → Own own → TransitionFollows Own c w (acknowledgement_transition p position)
unfolding acknowledgement_transition
passes {Own} {c} {w} {own} {v} p position f s line =
    let id : ℕ = id_of p in
    let q : Plain = hearing p position in
    let gs : List Given = map update_given (pending_updates position p.waiting_updates) in
    let acks : ℕ → List Out = λ to. send p to (bodies.Ack position) ∷ [] in
    stage_transition f s line (record { ticket = None; outs = answer_outs gs ++ to_neighbour (predecessor p) acks; ignored = None })
    (sendable_both v id (answer_outs gs) (to_neighbour (predecessor p) acks) (sendable_answers v id gs)
    (sendable_neighbour v id (predecessor p) acks (λ to h. sendable_one q s.node to (bodies.Ack position) (next_before q s.node to h, s.node.acknowledged))))

pub ack_follows : {c : Chain} {w : MachineState Entry} (p : Plain) → Here c w p → (m : LinkMessage) (position : ℕ) → m.receiver ≡ id_of p
    → Sent w.messages (said m.epoch m.sender m.receiver (machine.Ack position)) → TransitionFollows (IsHearing (id_of p)) c w (transition_in_epoch p m (ack_transition p m.sender position))
unfolding ack_transition
ack_follows {c} {w} p h m position to s =
    let Own : List (MachineMove Entry) → Type 0 = IsHearing (id_of p) in
    let none : Own [] = inl refl in
    let last : Transition = acknowledgement_transition p position in
    let third : Transition = cond (nat_lt (length_of p) position) (transition_ignoring p TooFar) last in
    let second : Transition = cond (nat_le position p.past.acknowledged) (transition_ignoring p AlreadyHave) third in
    let first : Transition = cond (not p.ready) (transition_ignoring p NotReadyHere) second in
    in_epoch p h none m (ack_transition p m.sender position)
    (λ ep. guard p h none (not (is_id (successor p) m.sender)) NotNeighbour first
    (λ a. guard p h none (not p.ready) NotReadyHere second
    (λ b. guard p h none (nat_le position p.past.acknowledged) AlreadyHave third
    (λ d. guard p h none (nat_lt (length_of p) position) TooFar last
    (λ g.
    let su : successor p ≡ Some m.sender = is_id-some (successor p) m.sender (not-false (is_id (successor p) m.sender) a) in
    let t : (k : ℕ) × Stage c w (Take (id_of p) k ∷ []) (record w { acknowledged = with_value w.acknowledged (id_of p) position }) (hearing p position) =
    heard p h m position to ep s su (not-false p.ready b) (leb-false position p.past.acknowledged d) (ltb-false (length_of p) position g)
    in
    passes p position h.follows t.1 (inr (t.0, refl)))))))
