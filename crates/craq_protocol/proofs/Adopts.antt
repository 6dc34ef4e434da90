-- A node adopts a later membership, gets a floor, and stops.
use Rattle.std.proofs.Common.{Option, Some, None, ◌≡◌, ◌≢◌, ◌⊎◌, inl, inr, ⊎_elim, ℕ, zero, suc, ◌<◌, ◌≤◌, Bool, true, false, List, [], length, refl, sym, subst, ◌∙◌, arith}
use Rattle.craq_protocol.specs.Members.{is_member, membership_of, with_value}
use Rattle.craq_protocol.specs.Machine.{MachineBody, MachineState, Entry, Ack, Copy, Floor}
use Rattle.craq_protocol.specs.Promises.{IsPrefix, Sent}
use Rattle.craq_protocol.proofs.Lists.{put_each, membership_past}
use Rattle.craq_protocol.proofs.Prefix.{prefix_nil}
use Rattle.craq_protocol.proofs.Invariant.{Ages, Clauses, Truth}

later : {A : Type 0} → (w : MachineState A) (n e : ℕ) → w.epoch n < e → (m : ℕ) → w.epoch m ≤ with_value w.epoch n e m
later {A} w n e lt = put_each w.epoch n e (λ m x. w.epoch m ≤ x) (omega arith) (λ m ne. omega arith)

truth_adopts : {A : Type 0} → (w : MachineState A) (g : Ages) (n e : ℕ) → w.epoch n < e → (floor : ℕ → Option ℕ) → (x s t : ℕ) (b : MachineBody A)
    → Truth w g x s t b → Truth (record w { epoch = with_value w.epoch n e; floor = floor }) g x s t b
truth_adopts {A} w g n e lt floor y s t (Entry i x) a = a
truth_adopts {A} w g n e lt floor y s t (Ack k) a = a
truth_adopts {A} w g n e lt floor y s t (Copy xs) a = a
truth_adopts {A} w g n e lt floor y s t (Floor k) a = let le : _ = later w n e lt s in (a.0, omega (arith, a.1), a.2, a.3)

behind_adopts : {A : Type 0} → {w : MachineState A} {g : Ages} → Clauses w g → (n e : ℕ) → w.epoch n < e → is_member (membership_of w.memberships e) n ≡ true
    → (q : ℕ) → is_member (membership_of w.memberships e) q ≡ true → g.rank q < g.rank n → IsPrefix (w.history n) (w.history q)
behind_adopts {A} {w} {g} c n e lt hn q hq less =
    ⊎_elim
    (λ z. let P : List A → Type 0 = λ l. IsPrefix l (w.history q) in subst P (sym (c.empty_at_first n (omega arith))) (prefix_nil (w.history q)))
    (λ p.
    let low : g.born n ≤ w.epoch n = c.shape.since_born (w.epoch n) n (c.is_member_there n p) in
    let old : g.born q ≤ g.born n = c.shape.elders_first e e q n hq hn less in
    c.elders_hold n q (c.shape.stays e (w.epoch n) q hq (omega arith) (omega arith)) less)
    (zero_or (w.epoch n))
  where
    zero_or : (k : ℕ) → (k ≡ 0) ⊎ (0 < k)
    zero_or zero = inl refl
    zero_or (suc k) = inr (omega arith)

pub clauses_adopts : {A : Type 0} → {w : MachineState A} {g : Ages} → Clauses w g → (n e : ℕ) → w.epoch n < e → is_member (membership_of w.memberships e) n ≡ true
    → Clauses (record w { epoch = with_value w.epoch n e; floor = with_value w.floor n None }) g
clauses_adopts {A} {w} {g} c n e lt hn = record {
  shape = c.shape;
  epoch_made = put_each w.epoch n e (λ m x. x ≤ length w.memberships) (membership_past w.memberships e n hn) (λ m ne. c.epoch_made m);
  is_member_there = put_each w.epoch n e (λ m x. 0 < x → is_member (membership_of w.memberships x) m ≡ true) (λ p. hn) (λ m ne. c.is_member_there m);
  running_is_member = c.running_is_member;
  empty_at_first = put_each w.epoch n e (λ m x. x ≡ 0 → w.history m ≡ []) (λ z. absurd (omega arith)) (λ m ne. c.empty_at_first m);
  ready_has_epoch = λ m r. let le : _ = later w n e lt m in let p : _ = c.ready_has_epoch m r in omega arith;
  elders_hold = put_each w.epoch n e (λ m x. (q : ℕ) → is_member (membership_of w.memberships x) q ≡ true → g.rank q < g.rank m → IsPrefix (w.history m) (w.history q))
      (behind_adopts c n e lt hn)
      (λ m ne. c.elders_hold m);
  sender_is_member = c.sender_is_member;
  truthful = λ m i. truth_adopts w g n e lt (with_value w.floor n None) m.epoch m.from m.to m.body (c.truthful m i);
  acknowledged_held = c.acknowledged_held;
  acknowledged_committed = c.acknowledged_committed;
  committed_held = c.committed_held;
  floor_was_sent = λ m k f.
      put_each w.epoch n e (λ m x. (y : Option ℕ) → ((m ≢ n) → y ≡ w.floor m) → ((m ≡ n) → y ≡ None) → y ≡ Some k → (s : ℕ) × Sent w.messages (record { epoch = x; from = s; to = m; body = Floor k }))
      (λ y other same is. let z : y ≡ None = same refl in cc)
      (λ m ne y other same is. c.floor_was_sent m k (sym (other ne) ∙ is))
      m (with_value w.floor n None m)
      (put_each w.floor n None (λ m y. (m ≢ n) → y ≡ w.floor m) (λ ne. absurd (ne refl)) (λ m ne other. refl) m)
      (put_each w.floor n None (λ m y. (m ≡ n) → y ≡ None) (λ eq. refl) (λ m ne eq. absurd (ne eq)) m)
      f;
  elders_ready = c.elders_ready;
  never_last_before = λ s q x r hq less ge below l. let le : _ = later w n e lt q in c.never_last_before s q x r hq less (omega arith) below l;
}

truth_stops : {A : Type 0} → (w : MachineState A) (g : Ages) (running : ℕ → Bool) (e s t : ℕ) (b : MachineBody A) → Truth w g e s t b → Truth (record w { running = running }) g e s t b
truth_stops {A} w g running e s t (Entry i x) a = a
truth_stops {A} w g running e s t (Ack k) a = a
truth_stops {A} w g running e s t (Copy xs) a = a
truth_stops {A} w g running e s t (Floor k) a = a

pub clauses_stops : {A : Type 0} → {w : MachineState A} {g : Ages} → Clauses w g → (n : ℕ) → Clauses (record w { running = with_value w.running n false }) g
clauses_stops {A} {w} {g} c n = record {
  shape = c.shape;
  epoch_made = c.epoch_made;
  is_member_there = c.is_member_there;
  running_is_member = put_each w.running n false (λ m x. x ≡ true → is_member (membership_of w.memberships (length w.memberships)) m ≡ true) (λ f. cc) (λ m ne. c.running_is_member m);
  empty_at_first = c.empty_at_first;
  ready_has_epoch = c.ready_has_epoch;
  elders_hold = c.elders_hold;
  sender_is_member = c.sender_is_member;
  truthful = λ m i. truth_stops w g (with_value w.running n false) m.epoch m.from m.to m.body (c.truthful m i);
  acknowledged_held = c.acknowledged_held;
  acknowledged_committed = c.acknowledged_committed;
  committed_held = c.committed_held;
  floor_was_sent = c.floor_was_sent;
  elders_ready = c.elders_ready;
  never_last_before = c.never_last_before;
}

truth_floors : {A : Type 0} → (w : MachineState A) (g : Ages) (floor : ℕ → Option ℕ) (e s t : ℕ) (b : MachineBody A) → Truth w g e s t b → Truth (record w { floor = floor }) g e s t b
truth_floors {A} w g floor e s t (Entry i x) a = a
truth_floors {A} w g floor e s t (Ack k) a = a
truth_floors {A} w g floor e s t (Copy xs) a = a
truth_floors {A} w g floor e s t (Floor k) a = a

pub clauses_floors : {A : Type 0} → {w : MachineState A} {g : Ages} → Clauses w g → (n s k : ℕ) → Sent w.messages (record { epoch = w.epoch n; from = s; to = n; body = Floor k })
    → Clauses (record w { floor = with_value w.floor n (Some k) }) g
clauses_floors {A} {w} {g} c n s k sent = record {
  shape = c.shape;
  epoch_made = c.epoch_made;
  is_member_there = c.is_member_there;
  running_is_member = c.running_is_member;
  empty_at_first = c.empty_at_first;
  ready_has_epoch = c.ready_has_epoch;
  elders_hold = c.elders_hold;
  sender_is_member = c.sender_is_member;
  truthful = λ m i. truth_floors w g (with_value w.floor n (Some k)) m.epoch m.from m.to m.body (c.truthful m i);
  acknowledged_held = c.acknowledged_held;
  acknowledged_committed = c.acknowledged_committed;
  committed_held = c.committed_held;
  floor_was_sent = λ m j f. put_each w.floor n (Some k) (λ m x. x ≡ Some j → (s : ℕ) × Sent w.messages (record { epoch = w.epoch m; from = s; to = m; body = Floor j }))
      (λ e. let same : k ≡ j = cc in
      let P : ℕ → Type 0 = λ j. (s : ℕ) × Sent w.messages (record { epoch = w.epoch n; from = s; to = n; body = Floor j }) in subst P same (s, sent))
      (λ m ne e. c.floor_was_sent m j e)
      m f;
  elders_ready = c.elders_ready;
  never_last_before = c.never_last_before;
}
