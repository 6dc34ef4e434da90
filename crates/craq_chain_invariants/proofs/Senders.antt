-- The sender of each protocol message that was ever sent has its content, then and at all later
-- times.
use Rattle.std.proofs.Common.{◌≡◌, ◌⊎◌, inl, inr, ⊎_elim, ℕ, ◌+◌, ◌≤◌, ◌==◌, nat_lt, nat_le, true, false, not, ◌&&◌, List, [], ◌∷◌, ◌++◌, length, take, slice_get, Option, Some, None, refl, subst, arith}
use Rattle.std.proofs.lemmas.Bool.{cond_both, and_parts}
use Rattle.std.proofs.lemmas.List.{length-take-le}
use Rattle.craq_commands.specs.declared.entry.Entry.{Entry as Item}
use Rattle.craq_protocol.specs.Members.{is_member, is_first, is_next, membership_of, with_value, without}
use Rattle.craq_protocol.specs.Machine.{MachineBody, Message, MachineState, MachineMove, Entry, Ack, Copy, Floor, Append, Take, Become_ready, Adopt, Stop, Remove, Join, Send_entry, Send_ack, Send_copy, Send_floor, entry_at, known_membership, current_membership, is_tail, after_commit, after_send, after_receipt, after_take, after_floor, after_send_entry, after_move, after_moves, initial_state}
use Rattle.craq_protocol.specs.Promises.{IsReached, Later, Sent}
use Rattle.craq_protocol.proofs.EachMove.{happens_goes}
use Rattle.craq_protocol.proofs.Invariant.{Invariant}
use Rattle.craq_protocol.proofs.LeadsTo.{LeadsTo}
use Rattle.craq_protocol.proofs.Opening.{opening_holds}
use Rattle.craq_protocol.proofs.Prefix.{prefix_length, entry_at_grows}

-- the sender of a message has its content
abbrev pub SenderHas : MachineState Item → ℕ → MachineBody Item → Type 0
SenderHas w from (Entry place entry) = entry_at (w.history from) place ≡ Some entry
SenderHas w from (Ack count) = count ≤ w.acknowledged from
SenderHas w from (Copy entries) = length entries ≤ w.acknowledged from
SenderHas w from (Floor count) = (w.ready from ≡ true) × (count ≤ length (w.history from))

abbrev pub AllHave : MachineState Item → Type 0
AllHave w = (m : Message Item) → Sent w.messages m → SenderHas w m.from m.body

stays : (w v : MachineState Item) (from : ℕ) (b : MachineBody Item) → Later w v → SenderHas w from b → SenderHas v from b
stays w v from (Entry place entry) l h = entry_at_grows (l.history from) place entry h
stays w v from (Ack count) l h = omega (arith, h, l.acknowledged from)
stays w v from (Copy entries) l h = omega (arith, h, l.acknowledged from)
stays w v from (Floor count) l h = (l.ready from h.0, omega (arith, h.1, prefix_length (l.history from)))

-- a message was sent before, or its sender has its content
abbrev pub IsOldOrHeld : MachineState Item → MachineState Item → Type 0
IsOldOrHeld w v = (m : Message Item) → Sent v.messages m → Sent w.messages m ⊎ SenderHas w m.from m.body

-- ---- moves that send nothing

same_messages : (w v : MachineState Item) → v.messages ≡ w.messages → IsOldOrHeld w v
same_messages w v e m s = let P : List (Message Item) → Type 0 = λ l. Sent l m in inl (subst P e s)

commit_messages : (w : MachineState Item) (n : ℕ) → (after_commit w n).messages ≡ w.messages
commit_messages w n =
    cond_both (is_tail w n) (record w { acknowledged = with_value w.acknowledged n (length (w.history n)); log = w.history n }) w (λ (v : MachineState Item). v.messages ≡ w.messages) (λ e. refl) (λ e. refl)

receipt_messages : (w : MachineState Item) (n from : ℕ) (b : MachineBody Item) → (after_receipt w n from b).messages ≡ w.messages
receipt_messages w n from (Entry place entry) =
    let g : MachineState Item = record w { history = with_value w.history n (w.history n ++ entry ∷ []) } in
    cond_both (is_next (known_membership w n) from n && (place == length (w.history n) + 1)) (after_commit g n) w (λ (v : MachineState Item). v.messages ≡ w.messages) (λ e. commit_messages g n) (λ e. refl)
receipt_messages w n from (Ack count) =
    cond_both ((is_next (known_membership w n) n from && w.ready n) && (nat_lt (w.acknowledged n) count && nat_le count (length (w.history n))))
    (record w { acknowledged = with_value w.acknowledged n count }) w (λ (v : MachineState Item). v.messages ≡ w.messages) (λ e. refl) (λ e. refl)
receipt_messages w n from (Copy entries) =
    cond_both (is_next (known_membership w n) from n && (not (w.ready n) && nat_lt (length (w.history n)) (length entries)))
    (record w { history = with_value w.history n entries; acknowledged = with_value w.acknowledged n (length entries) }) w (λ (v : MachineState Item). v.messages ≡ w.messages) (λ e. refl) (λ e. refl)
receipt_messages w n from (Floor count) =
    cond_both (is_next (known_membership w n) from n && not (w.ready n)) (record w { floor = with_value w.floor n (Some count) }) w (λ (v : MachineState Item). v.messages ≡ w.messages) (λ e. refl) (λ e. refl)

taken_messages : (w : MachineState Item) (n : ℕ) (o : Option (Message Item)) → (after_take w n o).messages ≡ w.messages
taken_messages w n None = refl
taken_messages w n (Some m) =
    cond_both (w.running n && ((m.to == n) && (m.epoch == w.epoch n))) (after_receipt w n m.from m.body) w (λ (v : MachineState Item). v.messages ≡ w.messages) (λ e. receipt_messages w n m.from m.body) (λ e. refl)

floor_messages : (w : MachineState Item) (n : ℕ) (o : Option ℕ) → (after_floor w n o).messages ≡ w.messages
floor_messages w n None = refl
floor_messages w n (Some floor) =
    let g : MachineState Item = record w { ready = with_value w.ready n true } in
    cond_both (w.running n && (not (w.ready n) && nat_le floor (length (w.history n)))) (after_commit g n) w (λ (v : MachineState Item). v.messages ≡ w.messages) (λ e. commit_messages g n) (λ e. refl)

-- ---- moves that send

sends : (w : MachineState Item) (n to : ℕ) (b : MachineBody Item) → SenderHas w n b → IsOldOrHeld w (after_send w n to b)
sends w n to b h m s =
    let P : Message Item → Type 0 = λ m. SenderHas w m.from m.body in
    ⊎_elim (λ e. inr (subst P e h)) (λ i. inl i) s

sends_entry : (w : MachineState Item) (n to place : ℕ) (o : Option Item) → entry_at (w.history n) place ≡ o → IsOldOrHeld w (after_send_entry w n to place o)
sends_entry w n to place None at = same_messages w w refl
sends_entry w n to place (Some entry) at =
    cond_both (w.running n && is_next (known_membership w n) n to) (after_send w n to (Entry place entry)) w (λ (v : MachineState Item). IsOldOrHeld w v) (λ e. sends w n to (Entry place entry) at) (λ e. same_messages w w refl)

-- ---- every move

by_move : (w : MachineState Item) → Invariant w → (move : MachineMove Item) → IsOldOrHeld w (after_move w move)
by_move w i (Append n entry) =
    let g : MachineState Item = record w { history = with_value w.history n (w.history n ++ entry ∷ []) } in
    cond_both ((w.running n && w.ready n) && is_first (known_membership w n) n) (after_commit g n) w (λ (v : MachineState Item). IsOldOrHeld w v) (λ e. same_messages w (after_commit g n) (commit_messages g n)) (λ e. same_messages w w refl)
by_move w i (Take n which) = same_messages w (after_take w n (slice_get w.messages which)) (taken_messages w n (slice_get w.messages which))
by_move w i (Become_ready n) = same_messages w (after_floor w n (w.floor n)) (floor_messages w n (w.floor n))
by_move w i (Adopt n epoch) =
    let g : MachineState Item = record w { epoch = with_value w.epoch n epoch; floor = with_value w.floor n None } in
    cond_both (w.running n && (nat_lt (w.epoch n) epoch && is_member (membership_of w.memberships epoch) n)) (after_commit g n) w (λ (v : MachineState Item). IsOldOrHeld w v)
    (λ e. same_messages w (after_commit g n) (commit_messages g n)) (λ e. same_messages w w refl)
by_move w i (Stop n) = same_messages w (after_move w (Stop n)) refl
by_move w i (Remove n) =
    let g : MachineState Item = record w { memberships = w.memberships ++ without (current_membership w) n ∷ [] } in
    cond_both (is_member (current_membership w) n && (not (w.running n) && nat_lt 1 (length (current_membership w)))) g w (λ (v : MachineState Item). IsOldOrHeld w v) (λ e. same_messages w g refl) (λ e. same_messages w w refl)
by_move w i (Join n) =
    let g : MachineState Item = record w {
      memberships = w.memberships ++ (current_membership w ++ n ∷ []) ∷ [];
      joined = w.joined ++ n ∷ [];
      running = with_value w.running n true;
      epoch = with_value w.epoch n 0;
      ready = with_value w.ready n false;
      history = with_value w.history n [];
      acknowledged = with_value w.acknowledged n 0;
      floor = with_value w.floor n None;
    } in
    cond_both (is_member w.joined n) w g (λ (v : MachineState Item). IsOldOrHeld w v) (λ e. same_messages w w refl) (λ e. same_messages w g refl)
by_move w i (Send_entry n to place) = sends_entry w n to place (entry_at (w.history n) place) refl
by_move w i (Send_ack n to) =
    cond_both (w.running n && is_next (known_membership w n) to n) (after_send w n to (Ack (w.acknowledged n))) w (λ (v : MachineState Item). IsOldOrHeld w v)
    (λ e. sends w n to (Ack (w.acknowledged n)) (omega arith)) (λ e. same_messages w w refl)
by_move w i (Send_copy n to) =
    let entries : List Item = take (w.acknowledged n) (w.history n) in
    cond_both (w.running n && is_next (known_membership w n) n to) (after_send w n to (Copy entries)) w (λ (v : MachineState Item). IsOldOrHeld w v)
    (λ e. sends w n to (Copy entries) (omega (arith, length-take-le (w.acknowledged n) (w.history n) (i.clauses.acknowledged_held n)))) (λ e. same_messages w w refl)
by_move w i (Send_floor n to) =
    cond_both ((w.running n && w.ready n) && is_next (known_membership w n) n to) (after_send w n to (Floor (length (w.history n)))) w (λ (v : MachineState Item). IsOldOrHeld w v)
    (λ e.
    let a : _ = and_parts (w.running n && w.ready n) (is_next (known_membership w n) n to) e in
    sends w n to (Floor (length (w.history n))) ((and_parts (w.running n) (w.ready n) a.0).1, omega arith)) (λ e. same_messages w w refl)

all_moves : (ms : List (MachineMove Item)) (w : MachineState Item) → Invariant w → AllHave w → AllHave (after_moves w ms)
all_moves [] w i h = h
all_moves (move ∷ ms) w i h =
    let v : MachineState Item = after_move w move in
    let g : LeadsTo w v = happens_goes i move in
    all_moves ms v g.invariant (λ m s. ⊎_elim (λ old. stays w v m.from m.body g.later (h m old)) (λ new. stays w v m.from m.body g.later new) (by_move w i move m s))

pub all_have : (w : MachineState Item) → IsReached w → AllHave w
all_have w r =
    let P : MachineState Item → Type 0 = λ v. AllHave v in
    subst P r.is (all_moves r.moves (initial_state r.members) (opening_holds Item r.members r.distinct) (λ m s. absurd s))
