-- A history grows, and so does its committed length.
use Rattle.std.proofs.Common.{◌≡◌, ℕ, ◌<◌, ◌≤◌, true, List, [], length, take, arith}
use Rattle.craq_protocol.specs.Members.{is_member, membership_of, with_value}
use Rattle.craq_protocol.specs.Machine.{MachineBody, MachineState, Entry, Ack, Copy, Floor}
use Rattle.craq_protocol.specs.Promises.{IsPrefix}
use Rattle.craq_protocol.proofs.Lists.{put_each}
use Rattle.craq_protocol.proofs.Prefix.{prefix_self, prefix_trans, prefix_length, entry_at_grows, take_grows, prefix_taken}
use Rattle.craq_protocol.proofs.Invariant.{Ages, Clauses, Truth}

grows : {A : Type 0} → (w : MachineState A) (n : ℕ) (h : List A) → IsPrefix (w.history n) h → (m : ℕ) → IsPrefix (w.history m) (with_value w.history n h m)
grows {A} w n h p = put_each w.history n h (λ m x. IsPrefix (w.history m) x) p (λ m ne. prefix_self (w.history m))

truth_grows : {A : Type 0} → (w : MachineState A) (g : Ages) (n : ℕ) (h : List A) → IsPrefix (w.history n) h → (e s t : ℕ) (b : MachineBody A)
    → Truth w g e s t b → Truth (record w { history = with_value w.history n h }) g e s t b
truth_grows {A} w g n h p e s t (Entry i x) a = λ q hq le. entry_at_grows (grows w n h p q) i x (a q hq le)
truth_grows {A} w g n h p e s t (Ack k) a = a
truth_grows {A} w g n h p e s t (Copy xs) a = (a.0, λ q hq le. prefix_trans (a.1 q hq le) (grows w n h p q))
truth_grows {A} w g n h p e s t (Floor k) a = (a.0, a.1, a.2, λ u i. prefix_trans (a.3 u i) (take_grows k (grows w n h p s)))

pub clauses_grows : {A : Type 0} → {w : MachineState A} {g : Ages} → Clauses w g → (n : ℕ) (h : List A) → IsPrefix (w.history n) h → 0 < w.epoch n
    → ((q : ℕ) → is_member (membership_of w.memberships (w.epoch n)) q ≡ true → g.rank q < g.rank n → IsPrefix h (w.history q))
    → Clauses (record w { history = with_value w.history n h }) g
clauses_grows {A} {w} {g} c n h p ep f = record {
  shape = c.shape;
  epoch_made = c.epoch_made;
  is_member_there = c.is_member_there;
  running_is_member = c.running_is_member;
  empty_at_first = put_each w.history n h (λ m x. w.epoch m ≡ 0 → x ≡ []) (λ e. absurd (omega arith)) (λ m ne. c.empty_at_first m);
  ready_has_epoch = c.ready_has_epoch;
  elders_hold = put_each w.history n h (λ m x. (q : ℕ) → is_member (membership_of w.memberships (w.epoch m)) q ≡ true → g.rank q < g.rank m → IsPrefix x (with_value w.history n h q))
      (λ q hq lt. prefix_trans (f q hq lt) (grows w n h p q))
      (λ m ne q hq lt. prefix_trans (c.elders_hold m q hq lt) (grows w n h p q));
  sender_is_member = c.sender_is_member;
  truthful = λ m s. truth_grows w g n h p m.epoch m.from m.to m.body (c.truthful m s);
  acknowledged_held = λ m. let a : _ = c.acknowledged_held m in let b : _ = prefix_length (grows w n h p m) in omega arith;
  acknowledged_committed = λ m. prefix_taken (w.acknowledged m) (grows w n h p m) (c.acknowledged_held m) (c.acknowledged_committed m);
  committed_held = λ m r i. prefix_trans (c.committed_held m r i) (grows w n h p m);
  floor_was_sent = c.floor_was_sent;
  elders_ready = c.elders_ready;
  never_last_before = c.never_last_before;
}

truth_same : {A : Type 0} → (w : MachineState A) (g : Ages) (acknowledged : ℕ → ℕ) (e s t : ℕ) (b : MachineBody A) → Truth w g e s t b → Truth (record w { acknowledged = acknowledged }) g e s t b
truth_same {A} w g acknowledged e s t (Entry i x) a = a
truth_same {A} w g acknowledged e s t (Ack k) a = a
truth_same {A} w g acknowledged e s t (Copy xs) a = a
truth_same {A} w g acknowledged e s t (Floor k) a = a

pub clauses_marks : {A : Type 0} → {w : MachineState A} {g : Ages} → Clauses w g → (n p : ℕ) → p ≤ length (w.history n) → IsPrefix (take p (w.history n)) w.log
    → Clauses (record w { acknowledged = with_value w.acknowledged n p }) g
clauses_marks {A} {w} {g} c n p le l = record {
  shape = c.shape;
  epoch_made = c.epoch_made;
  is_member_there = c.is_member_there;
  running_is_member = c.running_is_member;
  empty_at_first = c.empty_at_first;
  ready_has_epoch = c.ready_has_epoch;
  elders_hold = c.elders_hold;
  sender_is_member = c.sender_is_member;
  truthful = λ m s. truth_same w g (with_value w.acknowledged n p) m.epoch m.from m.to m.body (c.truthful m s);
  acknowledged_held = put_each w.acknowledged n p (λ m x. x ≤ length (w.history m)) le (λ m ne. c.acknowledged_held m);
  acknowledged_committed = put_each w.acknowledged n p (λ m x. IsPrefix (take x (w.history m)) w.log) l (λ m ne. c.acknowledged_committed m);
  committed_held = c.committed_held;
  floor_was_sent = c.floor_was_sent;
  elders_ready = c.elders_ready;
  never_last_before = c.never_last_before;
}
