-- The moves of the protocol, one by one: properties of histories are preserved, and only a tail
-- commits.
use Rattle.std.proofs.Common.{◌≡◌, ◌⊎◌, inl, inr, ⊎_elim, ℕ, ◌+◌, ◌==◌, nat_lt, nat_le, true, false, not, ◌&&◌, List, [], ◌∷◌, ◌++◌, map, length, take, slice_get, Option, Some, None, refl, sym, subst, ◌∙◌}
use Rattle.std.proofs.lemmas.Bool.{cond_both, and_parts, both_ways, not-true}
use Rattle.craq_protocol.specs.Members.{is_member, is_first, is_next, membership_of, with_value, without}
use Rattle.craq_protocol.specs.Machine.{MachineBody, Message, MachineState, MachineMove, Entry, Ack, Copy, Floor, Append, Take, Become_ready, Adopt, Stop, Remove, Join, Send_entry, Send_ack, Send_copy, Send_floor, entry_at, known_membership, current_membership, is_tail, after_commit, after_send, after_receipt, after_take, after_floor, after_send_entry, after_move, after_moves}
use Rattle.craq_protocol.specs.Promises.{IsReached, IsSafe}
use Rattle.craq_protocol.proofs.Lists.{put_same, put_other}
use Rattle.craq_protocol.proofs.Prefix.{prefix_nil}
use Rattle.craq_protocol.proofs.Reached.{reached_run, reached_safe}
use Rattle.craq_updates.proofs.Machine.{IsClosed, Held, held_commit, history_put, from_predecessor}

-- ---- a property of all histories

held_receipt : {A : Type 0} (P : List A → Type 0) → IsClosed P → (w : MachineState A) (n from : ℕ) (b : MachineBody A) → Held P w → IsSafe (after_receipt w n from b) → Held P (after_receipt w n from b)
held_receipt {A} P c w n from (Entry place entry) h s =
    let xs : List A = w.history n ++ entry ∷ [] in
    let g : MachineState A = record w { history = with_value w.history n xs } in
    cond_both (is_next (known_membership w n) from n && (place == length (w.history n) + 1)) (after_commit g n) w (λ v. IsSafe v → Held P v)
    (λ e s.
    let nx : is_next (known_membership w n) from n ≡ true = (and_parts (is_next (known_membership w n) from n) (place == length (w.history n) + 1) e).0 in
    let new : P xs =
    cond_both (is_tail g n) (record g { acknowledged = with_value g.acknowledged n (length (g.history n)); log = g.history n }) g (λ v. IsSafe v → P xs)
    (λ t s. from_predecessor P c w (record g { acknowledged = with_value g.acknowledged n (length (g.history n)); log = g.history n }) n from xs h s nx refl (put_same w.history n xs) (λ m ne. put_other w.history n xs m ne))
    (λ t s. from_predecessor P c w g n from xs h s nx refl (put_same w.history n xs) (λ m ne. put_other w.history n xs m ne))
    s
    in
    held_commit P g n (record { histories = history_put P w.history n xs h.histories new; log = h.log }))
    (λ e s. h)
    s
held_receipt {A} P c w n from (Ack count) h s =
    cond_both ((is_next (known_membership w n) n from && w.ready n) && (nat_lt (w.acknowledged n) count && nat_le count (length (w.history n))))
    (record w { acknowledged = with_value w.acknowledged n count }) w (λ v. Held P v)
    (λ e. record { histories = h.histories; log = h.log })
    (λ e. h)
held_receipt {A} P c w n from (Copy entries) h s =
    let g : MachineState A = record w { history = with_value w.history n entries; acknowledged = with_value w.acknowledged n (length entries) } in
    cond_both (is_next (known_membership w n) from n && (not (w.ready n) && nat_lt (length (w.history n)) (length entries))) g w (λ v. IsSafe v → Held P v)
    (λ e s.
    let nx : is_next (known_membership w n) from n ≡ true = (and_parts (is_next (known_membership w n) from n) (not (w.ready n) && nat_lt (length (w.history n)) (length entries)) e).0 in
    let new : P entries = from_predecessor P c w g n from entries h s nx refl (put_same w.history n entries) (λ m ne. put_other w.history n entries m ne) in
    record { histories = history_put P w.history n entries h.histories new; log = h.log })
    (λ e s. h)
    s
held_receipt {A} P c w n from (Floor count) h s =
    cond_both (is_next (known_membership w n) from n && not (w.ready n)) (record w { floor = with_value w.floor n (Some count) }) w (λ v. Held P v)
    (λ e. record { histories = h.histories; log = h.log })
    (λ e. h)

held_taken : {A : Type 0} (P : List A → Type 0) → IsClosed P → (w : MachineState A) (n : ℕ) (o : Option (Message A)) → Held P w → IsSafe (after_take w n o) → Held P (after_take w n o)
held_taken {A} P c w n None h s = h
held_taken {A} P c w n (Some m) h s =
    cond_both (w.running n && ((m.to == n) && (m.epoch == w.epoch n))) (after_receipt w n m.from m.body) w (λ v. IsSafe v → Held P v)
    (λ e s. held_receipt P c w n m.from m.body h s)
    (λ e s. h)
    s

held_floor : {A : Type 0} (P : List A → Type 0) (w : MachineState A) (n : ℕ) (o : Option ℕ) → Held P w → Held P (after_floor w n o)
held_floor P w n None h = h
held_floor P w n (Some floor) h =
    cond_both (w.running n && (not (w.ready n) && nat_le floor (length (w.history n)))) (after_commit (record w { ready = with_value w.ready n true }) n) w (λ v. Held P v)
    (λ e. held_commit P (record w { ready = with_value w.ready n true }) n (record { histories = h.histories; log = h.log }))
    (λ e. h)

-- a move that adds no entry at a head
abbrev pub IsQuiet : {A : Type 0} → MachineMove A → Type 0
IsQuiet (Append node entry) = ⊥
IsQuiet move = Unit {0}

held_sent : {A : Type 0} (P : List A → Type 0) (w : MachineState A) (n to place : ℕ) (o : Option A) → Held P w → Held P (after_send_entry w n to place o)
held_sent P w n to place None h = h
held_sent P w n to place (Some entry) h =
    cond_both (w.running n && is_next (known_membership w n) n to) (after_send w n to (Entry place entry)) w (λ v. Held P v)
    (λ e. record { histories = h.histories; log = h.log })
    (λ e. h)

held_joined : {A : Type 0} (P : List A → Type 0) → IsClosed P → (w : MachineState A) (n : ℕ) → Held P w → (m : ℕ) → P (with_value w.history n [] m)
held_joined P c w n h = history_put P w.history n [] h.histories (c [] w.log (prefix_nil w.log) h.log)

by_move : {A : Type 0} (P : List A → Type 0) → IsClosed P → (w : MachineState A) (move : MachineMove A) → IsQuiet move → Held P w → IsSafe (after_move w move) → Held P (after_move w move)
by_move P c w (Append n entry) q h s = absurd q
by_move P c w (Take n which) q h s = held_taken P c w n (slice_get w.messages which) h s
by_move P c w (Become_ready n) q h s = held_floor P w n (w.floor n) h
by_move P c w (Adopt n epoch) q h s =
    cond_both (w.running n && (nat_lt (w.epoch n) epoch && is_member (membership_of w.memberships epoch) n))
    (after_commit (record w { epoch = with_value w.epoch n epoch; floor = with_value w.floor n None }) n) w (λ v. Held P v)
    (λ e. held_commit P (record w { epoch = with_value w.epoch n epoch; floor = with_value w.floor n None }) n (record { histories = h.histories; log = h.log }))
    (λ e. h)
by_move P c w (Stop n) q h s = record { histories = h.histories; log = h.log }
by_move P c w (Remove n) q h s =
    cond_both (is_member (current_membership w) n && (not (w.running n) && nat_lt 1 (length (current_membership w))))
    (record w { memberships = w.memberships ++ without (current_membership w) n ∷ [] }) w (λ v. Held P v)
    (λ e. record { histories = h.histories; log = h.log })
    (λ e. h)
by_move P c w (Join n) q h s =
    cond_both (is_member w.joined n) w
    (record w {
      memberships = w.memberships ++ (current_membership w ++ n ∷ []) ∷ [];
      joined = w.joined ++ n ∷ [];
      running = with_value w.running n true;
      epoch = with_value w.epoch n 0;
      ready = with_value w.ready n false;
      history = with_value w.history n [];
      acknowledged = with_value w.acknowledged n 0;
      floor = with_value w.floor n None;
    })
    (λ v. Held P v)
    (λ e. h)
    (λ e. record { histories = held_joined P c w n h; log = h.log })
by_move P c w (Send_entry n to place) q h s = held_sent P w n to place (entry_at (w.history n) place) h
by_move P c w (Send_ack n to) q h s =
    cond_both (w.running n && is_next (known_membership w n) to n) (after_send w n to (Ack (w.acknowledged n))) w (λ v. Held P v)
    (λ e. record { histories = h.histories; log = h.log })
    (λ e. h)
by_move P c w (Send_copy n to) q h s =
    cond_both (w.running n && is_next (known_membership w n) n to) (after_send w n to (Copy (take (w.acknowledged n) (w.history n)))) w (λ v. Held P v)
    (λ e. record { histories = h.histories; log = h.log })
    (λ e. h)
by_move P c w (Send_floor n to) q h s =
    cond_both ((w.running n && w.ready n) && is_next (known_membership w n) n to) (after_send w n to (Floor (length (w.history n)))) w (λ v. Held P v)
    (λ e. record { histories = h.histories; log = h.log })
    (λ e. h)

-- a property that each prefix inherits is preserved, except by a new entry
pub held_quiet : {A : Type 0} (P : List A → Type 0) → IsClosed P → (w : MachineState A) (move : MachineMove A) → IsReached w → IsQuiet move → Held P w → Held P (after_move w move)
held_quiet P c w move r q h = by_move P c w move q h (reached_safe (reached_run r (move ∷ [])))

pub held_append : {A : Type 0} (P : List A → Type 0) (w : MachineState A) (n : ℕ) (entry : A) → Held P w → P (w.history n ++ entry ∷ []) → Held P (after_move w (Append n entry))
held_append {A} P w n entry h p =
    let g : MachineState A = record w { history = with_value w.history n (w.history n ++ entry ∷ []) } in
    cond_both ((w.running n && w.ready n) && is_first (known_membership w n) n) (after_commit g n) w (λ v. Held P v)
    (λ e. held_commit P g n (record { histories = history_put P w.history n (w.history n ++ entry ∷ []) h.histories p; log = h.log }))
    (λ e. h)

-- ---- the node that commits

-- the log stays, or the node is a tail
abbrev pub LogBy : {A : Type 0} → ℕ → MachineState A → MachineState A → Type 0
LogBy id w v = (v.log ≡ w.log) ⊎ (is_tail v id ≡ true)

-- the move is the node's, or commits nothing
abbrev pub IsMoveOf : {A : Type 0} → ℕ → MachineMove A → Type 0
IsMoveOf id (Append n entry) = n ≡ id
IsMoveOf id (Take n which) = n ≡ id
IsMoveOf id (Become_ready n) = n ≡ id
IsMoveOf id (Adopt n epoch) = n ≡ id
IsMoveOf id move = Unit {0}

log_commit : {A : Type 0} (w g : MachineState A) (n : ℕ) → g.log ≡ w.log → LogBy n w (after_commit g n)
log_commit w g n same =
    cond_both (is_tail g n) (record g { acknowledged = with_value g.acknowledged n (length (g.history n)); log = g.history n }) g (λ v. LogBy n w v)
    (λ e. inr e)
    (λ e. inl same)

log_receipt : {A : Type 0} (w : MachineState A) (n from : ℕ) (b : MachineBody A) → LogBy n w (after_receipt w n from b)
log_receipt w n from (Entry place entry) =
    let g : _ = record w { history = with_value w.history n (w.history n ++ entry ∷ []) } in
    cond_both (is_next (known_membership w n) from n && (place == length (w.history n) + 1)) (after_commit g n) w (λ v. LogBy n w v)
    (λ e. log_commit w g n refl)
    (λ e. inl refl)
log_receipt w n from (Ack count) =
    cond_both ((is_next (known_membership w n) n from && w.ready n) && (nat_lt (w.acknowledged n) count && nat_le count (length (w.history n))))
    (record w { acknowledged = with_value w.acknowledged n count }) w (λ v. LogBy n w v)
    (λ e. inl refl)
    (λ e. inl refl)
log_receipt w n from (Copy entries) =
    cond_both (is_next (known_membership w n) from n && (not (w.ready n) && nat_lt (length (w.history n)) (length entries)))
    (record w { history = with_value w.history n entries; acknowledged = with_value w.acknowledged n (length entries) }) w (λ v. LogBy n w v)
    (λ e. inl refl)
    (λ e. inl refl)
log_receipt w n from (Floor count) =
    cond_both (is_next (known_membership w n) from n && not (w.ready n)) (record w { floor = with_value w.floor n (Some count) }) w (λ v. LogBy n w v)
    (λ e. inl refl)
    (λ e. inl refl)

log_taken : {A : Type 0} (w : MachineState A) (n : ℕ) (o : Option (Message A)) → LogBy n w (after_take w n o)
log_taken w n None = inl refl
log_taken w n (Some m) =
    cond_both (w.running n && ((m.to == n) && (m.epoch == w.epoch n))) (after_receipt w n m.from m.body) w (λ v. LogBy n w v)
    (λ e. log_receipt w n m.from m.body)
    (λ e. inl refl)

log_floor : {A : Type 0} (w : MachineState A) (n : ℕ) (o : Option ℕ) → LogBy n w (after_floor w n o)
log_floor w n None = inl refl
log_floor w n (Some floor) =
    let g : _ = record w { ready = with_value w.ready n true } in
    cond_both (w.running n && (not (w.ready n) && nat_le floor (length (w.history n)))) (after_commit g n) w (λ v. LogBy n w v)
    (λ e. log_commit w g n refl)
    (λ e. inl refl)

log_sent : {A : Type 0} (w : MachineState A) (n to place : ℕ) (o : Option A) → (after_send_entry w n to place o).log ≡ w.log
log_sent w n to place None = refl
log_sent w n to place (Some entry) = cond_both (w.running n && is_next (known_membership w n) n to) (after_send w n to (Entry place entry)) w (λ v. v.log ≡ w.log) (λ e. refl) (λ e. refl)

log_at : {A : Type 0} (w : MachineState A) (move : MachineMove A) (id n : ℕ) → n ≡ id → LogBy n w (after_move w move) → LogBy id w (after_move w move)
log_at w move id n e l = let P : ℕ → Type 0 = λ k. LogBy k w (after_move w move) in subst P e l

pub log_by : {A : Type 0} (id : ℕ) (w : MachineState A) (move : MachineMove A) → IsMoveOf id move → LogBy id w (after_move w move)
log_by id w (Append n entry) m =
    let g : _ = record w { history = with_value w.history n (w.history n ++ entry ∷ []) } in
    log_at w (Append n entry) id n m
    (cond_both ((w.running n && w.ready n) && is_first (known_membership w n) n) (after_commit g n) w (λ v. LogBy n w v) (λ e. log_commit w g n refl) (λ e. inl refl))
log_by id w (Take n which) m = log_at w (Take n which) id n m (log_taken w n (slice_get w.messages which))
log_by id w (Become_ready n) m = log_at w (Become_ready n) id n m (log_floor w n (w.floor n))
log_by id w (Adopt n epoch) m =
    let g : _ = record w { epoch = with_value w.epoch n epoch; floor = with_value w.floor n None } in
    log_at w (Adopt n epoch) id n m
    (cond_both (w.running n && (nat_lt (w.epoch n) epoch && is_member (membership_of w.memberships epoch) n)) (after_commit g n) w (λ v. LogBy n w v) (λ e. log_commit w g n refl) (λ e. inl refl))
log_by id w (Stop n) m = inl refl
log_by id w (Remove n) m =
    inl (cond_both (is_member (current_membership w) n && (not (w.running n) && nat_lt 1 (length (current_membership w))))
    (record w { memberships = w.memberships ++ without (current_membership w) n ∷ [] }) w (λ v. v.log ≡ w.log) (λ e. refl) (λ e. refl))
log_by id w (Join n) m =
    inl (cond_both (is_member w.joined n) w
    (record w {
      memberships = w.memberships ++ (current_membership w ++ n ∷ []) ∷ [];
      joined = w.joined ++ n ∷ [];
      running = with_value w.running n true;
      epoch = with_value w.epoch n 0;
      ready = with_value w.ready n false;
      history = with_value w.history n [];
      acknowledged = with_value w.acknowledged n 0;
      floor = with_value w.floor n None;
    })
    (λ v. v.log ≡ w.log) (λ e. refl) (λ e. refl))
log_by id w (Send_entry n to place) m = inl (log_sent w n to place (entry_at (w.history n) place))
log_by id w (Send_ack n to) m =
    inl (cond_both (w.running n && is_next (known_membership w n) to n) (after_send w n to (Ack (w.acknowledged n))) w (λ v. v.log ≡ w.log) (λ e. refl) (λ e. refl))
log_by id w (Send_copy n to) m =
    inl (cond_both (w.running n && is_next (known_membership w n) n to) (after_send w n to (Copy (take (w.acknowledged n) (w.history n)))) w (λ v. v.log ≡ w.log) (λ e. refl) (λ e. refl))
log_by id w (Send_floor n to) m =
    inl (cond_both ((w.running n && w.ready n) && is_next (known_membership w n) n to) (after_send w n to (Floor (length (w.history n)))) w (λ v. v.log ≡ w.log) (λ e. refl) (λ e. refl))

-- a ready node does not become ready again
already : {A : Type 0} (w : MachineState A) (n : ℕ) (o : Option ℕ) → w.ready n ≡ true → after_floor w n o ≡ w
already w n None r = refl
already w n (Some floor) r =
    cond_both (w.running n && (not (w.ready n) && nat_le floor (length (w.history n)))) (after_commit (record w { ready = with_value w.ready n true }) n) w (λ v. v ≡ w)
    (λ e. absurd (both_ways (w.ready n) (not-true (w.ready n) (and_parts (not (w.ready n)) (nat_le floor (length (w.history n))) (and_parts (w.running n) (not (w.ready n) && nat_le floor (length (w.history n))) e).1).0) r))
    (λ e. refl)

-- a node may become ready after it committed
pub log_ready : {A : Type 0} (w v : MachineState A) (id : ℕ) → LogBy id w v → LogBy id w (after_move v (Become_ready id))
log_ready {A} w v id by =
    ⊎_elim
    (λ e. ⊎_elim (λ f. inl (f ∙ e)) (λ t. inr t) (log_by id v (Become_ready id) refl))
    (λ t.
    let ready : v.ready id ≡ true = (and_parts (v.running id) (v.ready id) (and_parts (v.running id && v.ready id) _ t).0).1 in
    let P : MachineState A → Type 0 = λ u. LogBy id w u in
    subst P (sym (already v id (v.floor id) ready)) (inr t))
    by

-- a node that takes a message is a tail if it was one
tail_commit : {A : Type 0} (w : MachineState A) (n : ℕ) → is_tail (after_commit w n) n ≡ is_tail w n
tail_commit w n =
    cond_both (is_tail w n) (record w { acknowledged = with_value w.acknowledged n (length (w.history n)); log = w.history n }) w (λ v. is_tail v n ≡ is_tail w n) (λ e. refl) (λ e. refl)

tail_receipt : {A : Type 0} (w : MachineState A) (n from : ℕ) (b : MachineBody A) → is_tail (after_receipt w n from b) n ≡ is_tail w n
tail_receipt w n from (Entry place entry) =
    let g : _ = record w { history = with_value w.history n (w.history n ++ entry ∷ []) } in
    cond_both (is_next (known_membership w n) from n && (place == length (w.history n) + 1)) (after_commit g n) w (λ v. is_tail v n ≡ is_tail w n) (λ e. tail_commit g n) (λ e. refl)
tail_receipt w n from (Ack count) =
    cond_both ((is_next (known_membership w n) n from && w.ready n) && (nat_lt (w.acknowledged n) count && nat_le count (length (w.history n))))
    (record w { acknowledged = with_value w.acknowledged n count }) w (λ v. is_tail v n ≡ is_tail w n) (λ e. refl) (λ e. refl)
tail_receipt w n from (Copy entries) =
    cond_both (is_next (known_membership w n) from n && (not (w.ready n) && nat_lt (length (w.history n)) (length entries)))
    (record w { history = with_value w.history n entries; acknowledged = with_value w.acknowledged n (length entries) }) w (λ v. is_tail v n ≡ is_tail w n) (λ e. refl) (λ e. refl)
tail_receipt w n from (Floor count) =
    cond_both (is_next (known_membership w n) from n && not (w.ready n)) (record w { floor = with_value w.floor n (Some count) }) w (λ v. is_tail v n ≡ is_tail w n) (λ e. refl) (λ e. refl)

tail_taken : {A : Type 0} (w : MachineState A) (n : ℕ) (o : Option (Message A)) → is_tail (after_take w n o) n ≡ is_tail w n
tail_taken w n None = refl
tail_taken w n (Some m) =
    cond_both (w.running n && ((m.to == n) && (m.epoch == w.epoch n))) (after_receipt w n m.from m.body) w (λ v. is_tail v n ≡ is_tail w n) (λ e. tail_receipt w n m.from m.body) (λ e. refl)

tail_takes : {A : Type 0} (w : MachineState A) (id : ℕ) (which : List ℕ) → is_tail (after_moves w (map (Take id) which)) id ≡ is_tail w id
tail_takes w id [] = refl
tail_takes w id (k ∷ ks) = tail_takes (after_move w (Take id k)) id ks ∙ tail_taken w id (slice_get w.messages k)

-- a node takes messages one after the other
pub log_takes : {A : Type 0} (w : MachineState A) (id : ℕ) (which : List ℕ) → LogBy id w (after_moves w (map (Take id) which))
log_takes w id [] = inl refl
log_takes {A} w id (k ∷ ks) =
    let v : MachineState A = after_move w (Take id k) in
    ⊎_elim
    (λ e. ⊎_elim (λ d. inl (e ∙ d)) (λ t. inr (tail_takes v id ks ∙ t)) (log_by id w (Take id k) refl))
    (λ t. inr t)
    (log_takes v id ks)
