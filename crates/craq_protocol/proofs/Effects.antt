-- The effect of each move if its condition holds; used in the proof that a system follows the
-- machine.
use Rattle.std.proofs.Common.{Some, None, ◌≡◌, inl, inr, ℕ, suc, ◌+◌, ◌<◌, ◌≤◌, ◌==◌, nat_lt, nat_le, true, false, not, ◌&&◌, List, [], ◌∷◌, ◌++◌, length, take, slice_get, refl, ap, ◌∙◌}
use Rattle.std.proofs.lemmas.Bool.{and_from, not_from_false, lt-ltb, le-leb, eq-eqb, cond-true, cond-false}
use Rattle.craq_protocol.specs.Members.{is_member, is_first, is_next, membership_of, with_value, without}
use Rattle.craq_protocol.specs.Machine.{MachineBody, Message, MachineState, Entry, Ack, Copy, Floor, Append, Take, Become_ready, Adopt, Remove, Join, Send_entry, Send_ack, Send_copy, Send_floor, entry_at, known_membership, current_membership, is_tail, after_commit, after_send, after_receipt, after_take, after_floor, after_send_entry, after_move}
use Rattle.craq_protocol.specs.Promises.{Sent}

pub commit_tail : {A : Type 0} → (w : MachineState A) (n : ℕ) → is_tail w n ≡ true → after_commit w n ≡ record w { acknowledged = with_value w.acknowledged n (length (w.history n)); log = w.history n }
commit_tail w n e = cond-true (is_tail w n) (record w { acknowledged = with_value w.acknowledged n (length (w.history n)); log = w.history n }) w e

pub commit_other : {A : Type 0} → (w : MachineState A) (n : ℕ) → is_tail w n ≡ false → after_commit w n ≡ w
commit_other w n e = cond-false (is_tail w n) (record w { acknowledged = with_value w.acknowledged n (length (w.history n)); log = w.history n }) w e

pub append_does : {A : Type 0} → (w : MachineState A) (n : ℕ) (x : A) → w.running n ≡ true → w.ready n ≡ true → is_first (known_membership w n) n ≡ true
    → after_move w (Append n x) ≡ after_commit (record w { history = with_value w.history n (w.history n ++ x ∷ []) }) n
append_does w n x u r f =
    cond-true ((w.running n && w.ready n) && is_first (known_membership w n) n) (after_commit (record w { history = with_value w.history n (w.history n ++ x ∷ []) }) n) w
    (and_from (w.running n && w.ready n) (is_first (known_membership w n) n) (and_from (w.running n) (w.ready n) u r) f)

-- the index of a message that was sent
pub sent_at : {A : Type 0} → (messages : List (Message A)) (m : Message A) → Sent messages m → (k : ℕ) × (slice_get messages k ≡ Some m)
sent_at [] m s = absurd s
sent_at (x ∷ messages) m (inl e) = (0, ap Some e)
sent_at (x ∷ messages) m (inr s) = let r : (k : ℕ) × (slice_get messages k ≡ Some m) = sent_at messages m s in (suc r.0, r.1)

pub take_does : {A : Type 0} → (w : MachineState A) (n s : ℕ) (b : MachineBody A) → w.running n ≡ true → Sent w.messages (record { epoch = w.epoch n; from = s; to = n; body = b })
    → (k : ℕ) × (after_move w (Take n k) ≡ after_receipt w n s b)
take_does {A} w n s b u i =
    let m : Message A = record { epoch = w.epoch n; from = s; to = n; body = b } in
    let at : (k : ℕ) × (slice_get w.messages k ≡ Some m) = sent_at w.messages m i in (
      at.0,
      ap (after_take w n) at.1
          ∙ cond-true (w.running n && ((n == n) && (w.epoch n == w.epoch n))) (after_receipt w n s b) w
          (and_from (w.running n) ((n == n) && (w.epoch n == w.epoch n)) u (and_from (n == n) (w.epoch n == w.epoch n) (eq-eqb n n refl) (eq-eqb (w.epoch n) (w.epoch n) refl))),
    )

pub entry_does : {A : Type 0} → (w : MachineState A) (n s i : ℕ) (x : A) → is_next (known_membership w n) s n ≡ true → i ≡ length (w.history n) + 1
    → after_receipt w n s (Entry i x) ≡ after_commit (record w { history = with_value w.history n (w.history n ++ x ∷ []) }) n
entry_does w n s i x nx e =
    cond-true (is_next (known_membership w n) s n && (i == length (w.history n) + 1)) (after_commit (record w { history = with_value w.history n (w.history n ++ x ∷ []) }) n) w
    (and_from (is_next (known_membership w n) s n) (i == length (w.history n) + 1) nx (eq-eqb i (length (w.history n) + 1) e))

pub ack_does : {A : Type 0} → (w : MachineState A) (n s p : ℕ) → is_next (known_membership w n) n s ≡ true → w.ready n ≡ true → w.acknowledged n < p → p ≤ length (w.history n)
    → after_receipt w n s (Ack p) ≡ record w { acknowledged = with_value w.acknowledged n p }
ack_does {A} w n s p nx r lt le =
    cond-true ((is_next (known_membership w n) n s && w.ready n) && (nat_lt (w.acknowledged n) p && nat_le p (length (w.history n)))) (record w { acknowledged = with_value w.acknowledged n p }) w
    (and_from (is_next (known_membership w n) n s && w.ready n) (nat_lt (w.acknowledged n) p && nat_le p (length (w.history n)))
    (and_from (is_next (known_membership w n) n s) (w.ready n) nx r)
    (and_from (nat_lt (w.acknowledged n) p) (nat_le p (length (w.history n))) (lt-ltb (w.acknowledged n) p lt) (le-leb p (length (w.history n)) le)))

pub copy_does : {A : Type 0} → (w : MachineState A) (n s : ℕ) (xs : List A) → is_next (known_membership w n) s n ≡ true → w.ready n ≡ false → length (w.history n) < length xs
    → after_receipt w n s (Copy xs) ≡ record w { history = with_value w.history n xs; acknowledged = with_value w.acknowledged n (length xs) }
copy_does w n s xs nx r lt =
    cond-true (is_next (known_membership w n) s n && (not (w.ready n) && nat_lt (length (w.history n)) (length xs))) (record w { history = with_value w.history n xs; acknowledged = with_value w.acknowledged n (length xs) }) w
    (and_from (is_next (known_membership w n) s n) (not (w.ready n) && nat_lt (length (w.history n)) (length xs)) nx
    (and_from (not (w.ready n)) (nat_lt (length (w.history n)) (length xs)) (not_from_false (w.ready n) r) (lt-ltb (length (w.history n)) (length xs) lt)))

pub floor_does : {A : Type 0} → (w : MachineState A) (n s k : ℕ) → is_next (known_membership w n) s n ≡ true → w.ready n ≡ false
    → after_receipt w n s (Floor k) ≡ record w { floor = with_value w.floor n (Some k) }
floor_does w n s k nx r =
    cond-true (is_next (known_membership w n) s n && not (w.ready n)) (record w { floor = with_value w.floor n (Some k) }) w
    (and_from (is_next (known_membership w n) s n) (not (w.ready n)) nx (not_from_false (w.ready n) r))

pub ready_does : {A : Type 0} → (w : MachineState A) (n k : ℕ) → w.floor n ≡ Some k → w.running n ≡ true → w.ready n ≡ false → k ≤ length (w.history n)
    → after_move w (Become_ready n) ≡ after_commit (record w { ready = with_value w.ready n true }) n
ready_does w n k f u r le =
    ap (after_floor w n) f
    ∙ cond-true (w.running n && (not (w.ready n) && nat_le k (length (w.history n)))) (after_commit (record w { ready = with_value w.ready n true }) n) w
    (and_from (w.running n) (not (w.ready n) && nat_le k (length (w.history n))) u
    (and_from (not (w.ready n)) (nat_le k (length (w.history n))) (not_from_false (w.ready n) r) (le-leb k (length (w.history n)) le)))

pub adopt_does : {A : Type 0} → (w : MachineState A) (n e : ℕ) → w.running n ≡ true → w.epoch n < e → is_member (membership_of w.memberships e) n ≡ true
    → after_move w (Adopt n e) ≡ after_commit (record w { epoch = with_value w.epoch n e; floor = with_value w.floor n None }) n
adopt_does w n e u lt h =
    cond-true (w.running n && (nat_lt (w.epoch n) e && is_member (membership_of w.memberships e) n)) (after_commit (record w { epoch = with_value w.epoch n e; floor = with_value w.floor n None }) n) w
    (and_from (w.running n) (nat_lt (w.epoch n) e && is_member (membership_of w.memberships e) n) u (and_from (nat_lt (w.epoch n) e) (is_member (membership_of w.memberships e) n) (lt-ltb (w.epoch n) e lt) h))

pub remove_does : {A : Type 0} → (w : MachineState A) (n : ℕ) → is_member (current_membership w) n ≡ true → w.running n ≡ false → 1 < length (current_membership w)
    → after_move w (Remove n) ≡ record w { memberships = w.memberships ++ without (current_membership w) n ∷ [] }
remove_does w n h d lt =
    cond-true (is_member (current_membership w) n && (not (w.running n) && nat_lt 1 (length (current_membership w)))) (record w { memberships = w.memberships ++ without (current_membership w) n ∷ [] }) w
    (and_from (is_member (current_membership w) n) (not (w.running n) && nat_lt 1 (length (current_membership w))) h
    (and_from (not (w.running n)) (nat_lt 1 (length (current_membership w))) (not_from_false (w.running n) d) (lt-ltb 1 (length (current_membership w)) lt)))

pub join_does : {A : Type 0} → (w : MachineState A) (n : ℕ) → is_member w.joined n ≡ false
    → after_move w (Join n) ≡ record w {
      memberships = w.memberships ++ (current_membership w ++ n ∷ []) ∷ [];
      joined = w.joined ++ n ∷ [];
      running = with_value w.running n true;
      epoch = with_value w.epoch n 0;
      ready = with_value w.ready n false;
      history = with_value w.history n [];
      acknowledged = with_value w.acknowledged n 0;
      floor = with_value w.floor n None;
    }
join_does w n out =
    cond-false (is_member w.joined n) w
    (record w {
      memberships = w.memberships ++ (current_membership w ++ n ∷ []) ∷ [];
      joined = w.joined ++ n ∷ [];
      running = with_value w.running n true;
      epoch = with_value w.epoch n 0;
      ready = with_value w.ready n false;
      history = with_value w.history n [];
      acknowledged = with_value w.acknowledged n 0;
      floor = with_value w.floor n None;
    })
    out

pub send_entry_does : {A : Type 0} → (w : MachineState A) (n t i : ℕ) (x : A) → entry_at (w.history n) i ≡ Some x → w.running n ≡ true → is_next (known_membership w n) n t ≡ true
    → after_move w (Send_entry n t i) ≡ after_send w n t (Entry i x)
send_entry_does w n t i x at u nx =
    ap (after_send_entry w n t i) at
    ∙ cond-true (w.running n && is_next (known_membership w n) n t) (after_send w n t (Entry i x)) w (and_from (w.running n) (is_next (known_membership w n) n t) u nx)

pub send_ack_does : {A : Type 0} → (w : MachineState A) (n t : ℕ) → w.running n ≡ true → is_next (known_membership w n) t n ≡ true
    → after_move w (Send_ack n t) ≡ after_send w n t (Ack (w.acknowledged n))
send_ack_does w n t u nx =
    cond-true (w.running n && is_next (known_membership w n) t n) (after_send w n t (Ack (w.acknowledged n))) w (and_from (w.running n) (is_next (known_membership w n) t n) u nx)

pub send_copy_does : {A : Type 0} → (w : MachineState A) (n t : ℕ) → w.running n ≡ true → is_next (known_membership w n) n t ≡ true
    → after_move w (Send_copy n t) ≡ after_send w n t (Copy (take (w.acknowledged n) (w.history n)))
send_copy_does w n t u nx =
    cond-true (w.running n && is_next (known_membership w n) n t) (after_send w n t (Copy (take (w.acknowledged n) (w.history n)))) w (and_from (w.running n) (is_next (known_membership w n) n t) u nx)

pub send_floor_does : {A : Type 0} → (w : MachineState A) (n t : ℕ) → w.running n ≡ true → w.ready n ≡ true → is_next (known_membership w n) n t ≡ true
    → after_move w (Send_floor n t) ≡ after_send w n t (Floor (length (w.history n)))
send_floor_does w n t u r nx =
    cond-true ((w.running n && w.ready n) && is_next (known_membership w n) n t) (after_send w n t (Floor (length (w.history n)))) w
    (and_from (w.running n && w.ready n) (is_next (known_membership w n) n t) (and_from (w.running n) (w.ready n) u r) nx)
