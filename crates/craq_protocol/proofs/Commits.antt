-- The tail commits its entries.
use Rattle.std.proofs.Common.{◌≡◌, ⊎_elim, ℕ, ◌≤◌, true, length, take, subst, arith}
use Rattle.std.proofs.lemmas.Bool.{cases_order}
use Rattle.craq_protocol.specs.Members.{is_member, is_last, membership_of, with_value}
use Rattle.craq_protocol.specs.Machine.{MachineBody, MachineState, Entry, Ack, Copy, Floor}
use Rattle.craq_protocol.specs.Promises.{IsPrefix}
use Rattle.craq_protocol.proofs.Lists.{put_each}
use Rattle.craq_protocol.proofs.Prefix.{prefix_self, prefix_trans, prefix_length, prefix_take}
use Rattle.craq_protocol.proofs.Invariant.{Ages, Clauses, Truth}
use Rattle.craq_protocol.proofs.Places.{older, tail_last, no_tail}

truth_commits : {A : Type 0} → {w : MachineState A} {g : Ages} → Clauses w g → (n : ℕ) → w.running n ≡ true → w.ready n ≡ true → is_last (membership_of w.memberships (w.epoch n)) n ≡ true
    → (acknowledged : ℕ → ℕ) → IsPrefix w.log (w.history n) → (e s t : ℕ) (b : MachineBody A) → Truth w g e s t b → Truth (record w { acknowledged = acknowledged; log = w.history n }) g e s t b
truth_commits {A} c n u r l acknowledged p e s t (Entry i x) a = a
truth_commits {A} c n u r l acknowledged p e s t (Ack k) a = let le : _ = prefix_length p in omega arith
truth_commits {A} c n u r l acknowledged p e s t (Copy xs) a = (prefix_trans a.0 p, a.1)
truth_commits {A} c n u r l acknowledged p e s t (Floor k) a = (a.0, a.1, a.2, λ un i. absurd (no_tail c e s t n a.0 a.1 a.2 un i u r l))

holds_commits : {A : Type 0} → {w : MachineState A} {g : Ages} → Clauses w g → (n : ℕ) → w.running n ≡ true → w.ready n ≡ true → is_last (membership_of w.memberships (w.epoch n)) n ≡ true
    → (m : ℕ) → w.ready m ≡ true → is_member (membership_of w.memberships (length w.memberships)) m ≡ true → IsPrefix (w.history n) (w.history m)
holds_commits {A} {w} {g} c n u r l m rm hm =
    let hn : is_member (membership_of w.memberships (length w.memberships)) n ≡ true = c.running_is_member n u in
    ⊎_elim
    (λ e. let P : ℕ → Type 0 = λ k. IsPrefix (w.history n) (w.history k) in
    subst P (c.shape.rank_is_id (length w.memberships) (length w.memberships) n m hn hm e) (prefix_self (w.history n)))
    (λ o. ⊎_elim
    (λ lt. absurd (tail_last c n m l hn rm hm lt))
    (λ lt. c.elders_hold n m (older c.shape (w.epoch n) (length w.memberships) m n (c.is_member_there n (c.ready_has_epoch n r)) hm lt (c.epoch_made n)) lt)
    o)
    (cases_order (g.rank n) (g.rank m))

pub clauses_commits : {A : Type 0} → {w : MachineState A} {g : Ages} → Clauses w g → (n : ℕ) → w.running n ≡ true → w.ready n ≡ true → is_last (membership_of w.memberships (w.epoch n)) n ≡ true
    → Clauses (record w { acknowledged = with_value w.acknowledged n (length (w.history n)); log = w.history n }) g
clauses_commits {A} {w} {g} c n u r l =
    let p : IsPrefix w.log (w.history n) = c.committed_held n r (c.running_is_member n u) in
    record {
      shape = c.shape;
      epoch_made = c.epoch_made;
      is_member_there = c.is_member_there;
      running_is_member = c.running_is_member;
      empty_at_first = c.empty_at_first;
      ready_has_epoch = c.ready_has_epoch;
      elders_hold = c.elders_hold;
      sender_is_member = c.sender_is_member;
      truthful = λ m s. truth_commits c n u r l (with_value w.acknowledged n (length (w.history n))) p m.epoch m.from m.to m.body (c.truthful m s);
      acknowledged_held = put_each w.acknowledged n (length (w.history n)) (λ m x. x ≤ length (w.history m)) (omega arith) (λ m ne. c.acknowledged_held m);
      acknowledged_committed = put_each w.acknowledged n (length (w.history n)) (λ m x. IsPrefix (take x (w.history m)) (w.history n))
          (prefix_take (length (w.history n)) (w.history n))
          (λ m ne. prefix_trans (c.acknowledged_committed m) p);
      committed_held = holds_commits c n u r l;
      floor_was_sent = c.floor_was_sent;
      elders_ready = c.elders_ready;
      never_last_before = c.never_last_before;
    }
