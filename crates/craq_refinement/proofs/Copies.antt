-- A node takes a state, or a floor.
use Rattle.std.proofs.Common.{◌≡◌, inl, inr, ℕ, ◌<◌, ◌==◌, nat_le, nat_lt, false, not, cond, ◌||◌, List, [], ◌∷◌, length, take, Some, None, is_some, refl, ap, sym, ◌∙◌, arith, append-nil}
use Rattle.std.proofs.lemmas.Bool.{cond_both, not-false, leb-false, or_parts, eqb-true}
use Rattle.craq_names.specs.Maps.{at_number}
use Rattle.craq_commands.specs.declared.entry.Entry.{Entry}
use Rattle.craq_commands.specs.declared.state.State.{State}
use Rattle.craq_commands.specs.SingleCopy.{opening_state, after_entries}
use Rattle.craq_model.specs.declared.gathering.Gathering.{Gathering}
use Rattle.craq_model.specs.declared.message.LinkMessage.{LinkMessage}
use Rattle.craq_model.specs.declared.message.StatePart.{StatePart}
use Rattle.craq_model.specs.declared.step.Why.TheVariants.{NotNeighbour, AlreadyHave, TooFar}
use Rattle.craq_model.specs.Members.{is_id}
use Rattle.craq_model.specs.Parts.{part_count, part_of, gathered_position, gathering_for, is_in_order, with_part, is_whole, joined_state}
use Rattle.craq_model.specs.Plain.{Plain, id_of, predecessor, length_of}
use Rattle.craq_model.specs.Settle.{Transition, transition_ignoring, transition_with, readiness_transition}
use Rattle.craq_model.specs.Deliveries.{with_copy, copy_transition, gathered_transition, gathering_transition, is_outdated, part_transition, floor_transition, transition_in_epoch}
use Rattle.craq_protocol.specs.Members.{with_value}
use Rattle.craq_protocol.specs.Machine as machine
use Rattle.craq_protocol.specs.Machine.{MachineState, MachineMove, Take, Become_ready, after_move, after_receipt}
use Rattle.craq_protocol.specs.Promises.{Sent, IsReached}
use Rattle.craq_protocol.proofs.Lists.{put_same, put_other}
use Rattle.craq_protocol.proofs.Effects.{copy_does, floor_does}
use Rattle.craq_runs.specs.Chain.{Chain}
use Rattle.craq_refinement.specs.Follows.{IsHistory, IsPlaced, said, seen_of, PartFollows, IsGathered, NodeFollows}
use Rattle.craq_refinement.specs.Lines.{IsTaking}
use Rattle.craq_refinement.proofs.Members.{is_id-some}
use Rattle.craq_refinement.proofs.Gathered.{copied_entries, part_is, gathered_state, whole_state, gathers, gathered_at, belongs}
use Rattle.craq_refinement.proofs.Worlds.{only_self, history_length, history_like, placed_like}
use Rattle.craq_refinement.proofs.Stages.{TransitionFollows, Stage, stage_transition}
use Rattle.craq_refinement.proofs.Ticks.{none_sendable}
use Rattle.craq_refinement.proofs.Settling.{readiness_follows}
use Rattle.craq_refinement.proofs.Here.{Here, here_node, guard, in_epoch, takes, pred_is_next, with_pred_member}

took_copy : {c : Chain} {w : MachineState Entry} (p : Plain) → Here c w p → (m : LinkMessage) (position : ℕ) (state : State) (entries : List Entry) → m.receiver ≡ id_of p → m.epoch ≡ p.epoch
    → length entries ≡ position → after_entries opening_state entries ≡ state → IsPlaced 0 entries → Sent w.messages (said m.epoch m.sender m.receiver (machine.Copy entries))
    → predecessor p ≡ Some m.sender → p.ready ≡ false → length_of p < position
    → (k : ℕ) × Stage c w (Take (id_of p) k ∷ []) (record w { history = with_value w.history (id_of p) entries; acknowledged = with_value w.acknowledged (id_of p) (length entries) }) (with_copy p position state)
took_copy {c} {w} p h m position state entries to ep len after placed s pr r lt =
    let id : ℕ = id_of p in
    let n : NodeFollows w (seen_of p) = here_node p h in
    let t : (k : ℕ) × (after_move w (Take id k) ≡ after_receipt w id m.sender (machine.Copy entries)) = takes p n h.running m (machine.Copy entries) to ep s in
    let same : with_value w.history id entries id ≡ entries = put_same w.history id entries in
    let whole : IsHistory position state [] entries = record { front = entries; whole = append-nil entries; count = len; after = after } in (
      t.0,
      record {
        was = p;
        at = h.at;
        is = t.1 ∙ copy_does w id m.sender entries (pred_is_next p h m.sender pr) (n.ready ∙ r) (omega (arith, lt, len, history_length n.history));
        only = record {
          memberships = refl;
          joined = refl;
          messages = refl;
          running = λ n ne. refl;
          epoch = λ n ne. refl;
          ready = λ n ne. refl;
          history = λ n ne. put_other w.history id entries n ne;
          acknowledged = λ n ne. put_other w.acknowledged id (length entries) n ne;
          floor = λ n ne. refl;
        };
        node = record {
          running = n.running;
          epoch = n.epoch;
          members = n.members;
          ready = n.ready;
          history = history_like whole same;
          placed = placed_like placed same;
          acknowledged = put_same w.acknowledged id (length entries) ∙ len;
          based = omega arith;
          floor = n.floor;
          gathering = n.gathering;
        };
        running = h.running;
      },
    )

-- a node that took a state may become ready by it
copied : {c : Chain} {w : MachineState Entry} (p : Plain) → Here c w p → (m : LinkMessage) (position : ℕ) (state : State) (entries : List Entry) → m.receiver ≡ id_of p → m.epoch ≡ p.epoch
    → length entries ≡ position → after_entries opening_state entries ≡ state → IsPlaced 0 entries → Sent w.messages (said m.epoch m.sender m.receiver (machine.Copy entries))
    → predecessor p ≡ Some m.sender → p.ready ≡ false → length_of p < position → TransitionFollows (IsTaking (id_of p)) c w (readiness_transition (with_copy p position state))
copied {c} {w} p h m position state entries to ep len after placed s pr r lt =
    let Own : List (MachineMove Entry) → Type 0 = IsTaking (id_of p) in
    let t : (k : ℕ) × Stage c w (Take (id_of p) k ∷ []) (record w { history = with_value w.history (id_of p) entries; acknowledged = with_value w.acknowledged (id_of p) (length entries) }) (with_copy p position state) =
    took_copy p h m position state entries to ep len after placed s pr r lt
    in
    let line : Own (Take (id_of p) t.0 ∷ []) = inr (t.0, inl refl) in
    let ready : Own (Take (id_of p) t.0 ∷ Become_ready (id_of p) ∷ []) = inr (t.0, inr refl) in
    readiness_follows h.follows t.1 line ready (with_pred_member p m.sender pr)

pub copy_follows : {c : Chain} {w : MachineState Entry} (p : Plain) → Here c w p → (m : LinkMessage) (position : ℕ) (state : State) (entries : List Entry) → m.receiver ≡ id_of p
    → length entries ≡ position → after_entries opening_state entries ≡ state → IsPlaced 0 entries → Sent w.messages (said m.epoch m.sender m.receiver (machine.Copy entries))
    → TransitionFollows (IsTaking (id_of p)) c w (transition_in_epoch p m (copy_transition p m.sender position state))
unfolding copy_transition
copy_follows {c} {w} p h m position state entries to len after placed s =
    let Own : List (MachineMove Entry) → Type 0 = IsTaking (id_of p) in
    let none : Own [] = inl refl in
    let last : Transition = readiness_transition (with_copy p position state) in
    let first : Transition = cond (p.ready || nat_le position (length_of p)) (transition_ignoring p AlreadyHave) last in
    in_epoch p h none m (copy_transition p m.sender position state)
    (λ ep. guard p h none (not (is_id (predecessor p) m.sender)) NotNeighbour first
    (λ a. guard p h none (p.ready || nat_le position (length_of p)) AlreadyHave last
    (λ b.
    let d : (p.ready ≡ false) × (nat_le position (length_of p) ≡ false) = or_parts p.ready (nat_le position (length_of p)) b in
    let pr : predecessor p ≡ Some m.sender = is_id-some (predecessor p) m.sender (not-false (is_id (predecessor p) m.sender) a) in
    copied p h m position state entries to ep len after placed s pr d.0 (leb-false position (length_of p) d.1))))

-- ---- parts of a state

-- a part is kept
gathering_follows : {c : Chain} {w : MachineState Entry} (p : Plain) → Here c w p → (g : Gathering) → IsGathered w.messages g → TransitionFollows (IsTaking (id_of p)) c w (transition_with (record p { gathering = Some g }) [])
gathering_follows {c} {w} p h g i =
    let n : NodeFollows w (seen_of p) = here_node p h in
    let s : Stage c w [] w (record p { gathering = Some g }) = record {
      was = p;
      at = h.at;
      is = refl;
      only = only_self (id_of p) w;
      node = record {
        running = n.running;
        epoch = n.epoch;
        members = n.members;
        ready = n.ready;
        history = n.history;
        placed = n.placed;
        acknowledged = n.acknowledged;
        based = n.based;
        floor = n.floor;
        gathering = i;
      };
      running = h.running;
    } in
    stage_transition h.follows s (inl refl) (record { ticket = None; outs = []; ignored = None }) (none_sendable w (id_of p))

-- a part is the last missing one, or is kept
gathered_follows : {c : Chain} {w : MachineState Entry} (p : Plain) → Here c w p → IsReached w → (m : LinkMessage) (part : StatePart) (g : Gathering) → m.receiver ≡ id_of p → m.epoch ≡ p.epoch
    → IsGathered w.messages g → part.position ≡ g.position → part.count ≡ g.count → PartFollows w.messages m.epoch m.sender m.receiver part
    → predecessor p ≡ Some m.sender → p.ready ≡ false → length_of p < part.position → TransitionFollows (IsTaking (id_of p)) c w (gathered_transition p g)
gathered_follows {c} {w} p h r m part g to ep i position count f pr ready lt =
    cond_both (is_whole g) (readiness_transition (with_copy p g.position (joined_state g.parts))) (transition_with (record p { gathering = Some g }) []) (λ (t : Transition). TransitionFollows (IsTaking (id_of p)) c w t)
    (λ e.
    let own : part_of part.position (after_entries opening_state (take part.position w.log)) part.number ≡ part = part_is r m.epoch m.sender m.receiver part f in
    let S : ℕ → State = λ k. after_entries opening_state (take k w.log) in
    let all : g.count ≡ part_count (S g.position) = sym count ∙ (sym (ap (λ (x : StatePart). x.count) own) ∙ ap (λ k. part_count (S k)) position) in
    let joined : joined_state g.parts ≡ gathered_state w g = whole_state r g i all (eqb-true (length g.parts) g.count e) in
    let mine : after_entries opening_state f.entries ≡ joined_state g.parts = ap (after_entries opening_state) (copied_entries r m.epoch m.sender m.receiver part f) ∙ (ap S position ∙ sym joined) in
    copied p h m g.position (joined_state g.parts) f.entries to ep (f.count ∙ position) mine f.placed f.sent pr ready (omega (arith, lt, position)))
    (λ e. gathering_follows p h g i)

pub part_follows : {c : Chain} {w : MachineState Entry} (p : Plain) → Here c w p → IsReached w → (m : LinkMessage) (part : StatePart) → m.receiver ≡ id_of p → PartFollows w.messages m.epoch m.sender m.receiver part
    → TransitionFollows (IsTaking (id_of p)) c w (transition_in_epoch p m (part_transition p m.sender part))
unfolding part_transition
part_follows {c} {w} p h r m part to f =
    let Own : List (MachineMove Entry) → Type 0 = IsTaking (id_of p) in
    let none : Own [] = inl refl in
    let g : Gathering = gathering_for part p.gathering in
    let last : Transition = gathered_transition p (with_part g part) in
    let fifth : Transition = cond (not (is_in_order g part)) (transition_ignoring p TooFar) last in
    let fourth : Transition = cond (is_some (at_number g.parts part.number)) (transition_ignoring p AlreadyHave) fifth in
    let third : Transition = gathering_transition p g part in
    let first : Transition = cond (p.ready || is_outdated p part) (transition_ignoring p AlreadyHave) third in
    in_epoch p h none m (part_transition p m.sender part)
    (λ ep. guard p h none (not (is_id (predecessor p) m.sender)) NotNeighbour first
    (λ a. guard p h none (p.ready || is_outdated p part) AlreadyHave third
    (λ b. guard p h none (not (part.count == g.count)) TooFar fourth
    (λ d. guard p h none (is_some (at_number g.parts part.number)) AlreadyHave fifth
    (λ e. guard p h none (not (is_in_order g part)) TooFar last
    (λ o.
    let x : (p.ready ≡ false) × (is_outdated p part ≡ false) = or_parts p.ready (is_outdated p part) b in
    let y : (nat_le part.position (length_of p) ≡ false) × (nat_lt part.position (gathered_position p.gathering) ≡ false) = or_parts (nat_le part.position (length_of p)) (nat_lt part.position (gathered_position p.gathering)) x.1 in
    let pr : predecessor p ≡ Some m.sender = is_id-some (predecessor p) m.sender (not-false (is_id (predecessor p) m.sender) a) in
    let n : NodeFollows w (seen_of p) = here_node p h in
    let i : IsGathered w.messages g = belongs part p.gathering n.gathering in
    let at : part.position ≡ g.position = gathered_at part p.gathering y.1 in
    let count : part.count ≡ g.count = eqb-true part.count g.count (not-false (part.count == g.count) d) in
    gathered_follows p h r m part (with_part g part) to ep (gathers g part i at count (m.epoch, m.sender, m.receiver, f)) at count f pr x.0 (leb-false part.position (length_of p) y.0)))))))

took_floor : {c : Chain} {w : MachineState Entry} (p : Plain) → Here c w p → (m : LinkMessage) (count : ℕ) → m.receiver ≡ id_of p → m.epoch ≡ p.epoch
    → Sent w.messages (said m.epoch m.sender m.receiver (machine.Floor count)) → predecessor p ≡ Some m.sender → p.ready ≡ false
    → (k : ℕ) × Stage c w (Take (id_of p) k ∷ []) (record w { floor = with_value w.floor (id_of p) (Some count) }) (record p { floor = Some count })
took_floor {c} {w} p h m count to ep s pr r =
    let id : ℕ = id_of p in
    let n : NodeFollows w (seen_of p) = here_node p h in
    let t : (k : ℕ) × (after_move w (Take id k) ≡ after_receipt w id m.sender (machine.Floor count)) = takes p n h.running m (machine.Floor count) to ep s in (
      t.0,
      record {
        was = p;
        at = h.at;
        is = t.1 ∙ floor_does w id m.sender count (pred_is_next p h m.sender pr) (n.ready ∙ r);
        only = record {
          memberships = refl;
          joined = refl;
          messages = refl;
          running = λ n ne. refl;
          epoch = λ n ne. refl;
          ready = λ n ne. refl;
          history = λ n ne. refl;
          acknowledged = λ n ne. refl;
          floor = λ n ne. put_other w.floor id (Some count) n ne;
        };
        node = record {
          running = n.running;
          epoch = n.epoch;
          members = n.members;
          ready = n.ready;
          history = n.history;
          placed = n.placed;
          acknowledged = n.acknowledged;
          based = n.based;
          floor = put_same w.floor id (Some count);
          gathering = n.gathering;
        };
        running = h.running;
      },
    )

pub floor_follows : {c : Chain} {w : MachineState Entry} (p : Plain) → Here c w p → (m : LinkMessage) (count : ℕ) → m.receiver ≡ id_of p
    → Sent w.messages (said m.epoch m.sender m.receiver (machine.Floor count)) → TransitionFollows (IsTaking (id_of p)) c w (transition_in_epoch p m (floor_transition p m.sender count))
unfolding floor_transition
floor_follows {c} {w} p h m count to s =
    let Own : List (MachineMove Entry) → Type 0 = IsTaking (id_of p) in
    let none : Own [] = inl refl in
    let last : Transition = readiness_transition (record p { floor = Some count }) in
    let first : Transition = cond p.ready (transition_ignoring p AlreadyHave) last in
    in_epoch p h none m (floor_transition p m.sender count)
    (λ ep. guard p h none (not (is_id (predecessor p) m.sender)) NotNeighbour first
    (λ a. guard p h none p.ready AlreadyHave last
    (λ b.
    let pr : predecessor p ≡ Some m.sender = is_id-some (predecessor p) m.sender (not-false (is_id (predecessor p) m.sender) a) in
    let t : (k : ℕ) × Stage c w (Take (id_of p) k ∷ []) (record w { floor = with_value w.floor (id_of p) (Some count) }) (record p { floor = Some count }) = took_floor p h m count to ep s pr b in
    let line : Own (Take (id_of p) t.0 ∷ []) = inr (t.0, inl refl) in
    let ready : Own (Take (id_of p) t.0 ∷ Become_ready (id_of p) ∷ []) = inr (t.0, inr refl) in
    readiness_follows h.follows t.1 line ready (with_pred_member p m.sender pr))))
