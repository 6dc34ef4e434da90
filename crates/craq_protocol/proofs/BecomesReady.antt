-- A node becomes ready.
use Rattle.std.proofs.Common.{Some, ◌≡◌, ⊎_elim, ℕ, ◌<◌, ◌≤◌, true, false, length, refl, ap, sym, subst, arith}
use Rattle.std.proofs.lemmas.Bool.{cases_order, cases_lt, both_ways, false_from_ne_true}
use Rattle.craq_protocol.specs.Members.{is_member, is_last, is_next, membership_of, with_value}
use Rattle.craq_protocol.specs.Machine.{MachineBody, MachineState, Entry, Ack, Copy, Floor}
use Rattle.craq_protocol.specs.Promises.{IsPrefix, Sent}
use Rattle.craq_protocol.proofs.Lists.{put_each, next_left, next_right, next_rank, membership_past}
use Rattle.craq_protocol.proofs.Prefix.{prefix_reached}
use Rattle.craq_protocol.proofs.Invariant.{Ages, Clauses, Truth}
use Rattle.craq_protocol.proofs.Places.{before_next, not_last, some_epoch}

-- a ready node stays ready
stays : {A : Type 0} → (w : MachineState A) (n m : ℕ) → w.ready m ≡ true → with_value w.ready n true m ≡ true
stays {A} w n m = put_each w.ready n true (λ k x. w.ready k ≡ true → x ≡ true) (λ r. refl) (λ k ne r. r) m

was_not : {A : Type 0} → (w : MachineState A) (n m : ℕ) → with_value w.ready n true m ≡ false → w.ready m ≡ false
was_not {A} w n m u = false_from_ne_true (w.ready m) (λ r. both_ways (with_value w.ready n true m) u (stays w n m r))

truth_becomes_ready : {A : Type 0} → (w : MachineState A) (g : Ages) (n : ℕ) (e s t : ℕ) (b : MachineBody A) → Truth w g e s t b → Truth (record w { ready = with_value w.ready n true }) g e s t b
truth_becomes_ready {A} w g n e s t (Entry i x) a = a
truth_becomes_ready {A} w g n e s t (Ack k) a = a
truth_becomes_ready {A} w g n e s t (Copy xs) a = a
truth_becomes_ready {A} w g n e s t (Floor k) a = (stays w n s a.0, a.1, a.2, λ u i. a.3 (was_not w n t u) i)

-- the members before a new ready one
front_becomes_ready : {A : Type 0} → {w : MachineState A} {g : Ages} → Clauses w g → (n e s : ℕ) → w.ready s ≡ true → is_next (membership_of w.memberships e) s n ≡ true
    → (q : ℕ) → is_member (membership_of w.memberships (length w.memberships)) q ≡ true → g.rank q < g.rank n → w.ready q ≡ true
front_becomes_ready {A} {w} {g} c n e s rs nx q hq lt =
    let hs : is_member (membership_of w.memberships e) s ≡ true = next_left (membership_of w.memberships e) s n nx in
    let le : g.rank q ≤ g.rank s = before_next c.shape e (length w.memberships) q s n nx hq lt (membership_past w.memberships e s hs) in
    ⊎_elim
    (λ eq. let P : ℕ → Type 0 = λ k. w.ready k ≡ true in subst P (sym (c.shape.rank_is_id (length w.memberships) e q s hq hs eq)) rs)
    (λ o. ⊎_elim (λ less. c.elders_ready s q rs hq less) (λ more. absurd (omega arith)) o)
    (cases_order (g.rank q) (g.rank s))

early_becomes_ready : {A : Type 0} → {w : MachineState A} {g : Ages} → Clauses w g → (n e s : ℕ) → w.ready s ≡ true → e ≤ w.epoch s → is_next (membership_of w.memberships e) s n ≡ true
    → (q x : ℕ) → is_member (membership_of w.memberships (length w.memberships)) q ≡ true → g.rank q < g.rank n → w.epoch q ≤ x → x < g.born n
    → is_last (membership_of w.memberships x) q ≡ true → ⊥
early_becomes_ready {A} {w} {g} c n e s rs es nx q x hq lt ge below l =
    let hs : is_member (membership_of w.memberships e) s ≡ true = next_left (membership_of w.memberships e) s n nx in
    let bn : g.born n ≤ e = c.shape.since_born e n (next_right (membership_of w.memberships e) s n nx) in
    let le : g.rank q ≤ g.rank s = before_next c.shape e (length w.memberships) q s n nx hq lt (membership_past w.memberships e s hs) in
    ⊎_elim
    (λ eq. let same : q ≡ s = c.shape.rank_is_id (length w.memberships) e q s hq hs eq in
    let f : w.epoch q ≡ w.epoch s = ap w.epoch same in absurd (omega arith))
    (λ o. ⊎_elim
    (λ less. ⊎_elim
    (λ a. c.never_last_before s q x rs hq less ge a l)
    (λ a. not_last c.shape x q s l (c.shape.stays e x s hs a (omega arith)) less)
    (cases_lt x (g.born s)))
    (λ more. absurd (omega arith))
    o)
    (cases_order (g.rank q) (g.rank s))

pub clauses_becomes_ready : {A : Type 0} → {w : MachineState A} {g : Ages} → Clauses w g → (n k : ℕ) → w.running n ≡ true → w.ready n ≡ false → w.floor n ≡ Some k → k ≤ length (w.history n)
    → Clauses (record w { ready = with_value w.ready n true }) g
clauses_becomes_ready {A} {w} {g} c n k un rn fl le =
    let sent : (s : ℕ) × Sent w.messages (record { epoch = w.epoch n; from = s; to = n; body = Floor k }) = c.floor_was_sent n k fl in
    let s : ℕ = sent.0 in
    let a : Truth w g (w.epoch n) s n (Floor k) = c.truthful (record { epoch = w.epoch n; from = s; to = n; body = Floor k }) sent.1 in
    let hs : is_member (membership_of w.memberships (w.epoch n)) s ≡ true = next_left (membership_of w.memberships (w.epoch n)) s n a.2 in
    let before : IsPrefix (w.history n) (w.history s) = c.elders_hold n s hs (next_rank g.rank (membership_of w.memberships (w.epoch n)) s n (c.shape.sorted (w.epoch n)) a.2) in
    record {
      shape = c.shape;
      epoch_made = c.epoch_made;
      is_member_there = c.is_member_there;
      running_is_member = c.running_is_member;
      empty_at_first = c.empty_at_first;
      ready_has_epoch = put_each w.ready n true (λ m x. x ≡ true → 0 < w.epoch m) (λ r. some_epoch w.memberships (w.epoch n) s hs) (λ m ne r. c.ready_has_epoch m r);
      elders_hold = c.elders_hold;
      sender_is_member = c.sender_is_member;
      truthful = λ m i. truth_becomes_ready w g n m.epoch m.from m.to m.body (c.truthful m i);
      acknowledged_held = c.acknowledged_held;
      acknowledged_committed = c.acknowledged_committed;
      committed_held = put_each w.ready n true (λ m x. x ≡ true → is_member (membership_of w.memberships (length w.memberships)) m ≡ true → IsPrefix w.log (w.history m))
          (λ r i. prefix_reached k (a.3 rn (c.running_is_member n un)) before le)
          (λ m ne r i. c.committed_held m r i);
      floor_was_sent = c.floor_was_sent;
      elders_ready = λ m q r hq lt. stays w n q (
          put_each w.ready n true (λ m x. (q : ℕ) → x ≡ true → is_member (membership_of w.memberships (length w.memberships)) q ≡ true → g.rank q < g.rank m → w.ready q ≡ true)
          (λ q r hq lt. front_becomes_ready c n (w.epoch n) s a.0 a.2 q hq lt)
          (λ m ne q r hq lt. c.elders_ready m q r hq lt)
          m q r hq lt);
      never_last_before = λ m q x r hq lt ge below l.
          put_each w.ready n true (λ m y. y ≡ true → g.rank q < g.rank m → x < g.born m → ⊥)
          (λ r lt below. early_becomes_ready c n (w.epoch n) s a.0 a.1 a.2 q x hq lt ge below l)
          (λ m ne r lt below. c.never_last_before m q x r hq lt ge below l)
          m r lt below;
    }
