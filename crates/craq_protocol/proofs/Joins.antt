-- A node joins.
use Rattle.std.proofs.Common.{Option, Some, None, ◌≡◌, inl, inr, ⊎_elim, ℕ, zero, suc, ◌<◌, Bool, true, false, List, [], ◌∷◌, ◌++◌, length, refl, ap, sym, subst, arith}
use Rattle.std.proofs.lemmas.Bool.{false_from_ne_true}
use Rattle.craq_protocol.specs.Members.{is_member, membership_of, with_value}
use Rattle.craq_protocol.specs.Machine.{MachineBody, MachineState, Entry, Ack, Copy, Floor}
use Rattle.craq_protocol.proofs.Lists.{put_each, put_same, put_other, put_id, push_parts, push_keeps, push_new}
use Rattle.craq_protocol.proofs.Invariant.{Ages, Shape, Clauses, Truth}
use Rattle.craq_protocol.proofs.Places.{some_epoch}
use Rattle.craq_protocol.proofs.Shapes.{aged, other, shape_ages, shape_joins}
use Rattle.craq_protocol.proofs.NextMembership.{Fresh, clauses_next_membership, with_membership}

truth_ages : {A : Type 0} → (w : MachineState A) (g : Ages) → Shape w.memberships w.joined g → (n : ℕ) → is_member w.joined n ≡ false
    → (e s t : ℕ) (b : MachineBody A) → is_member (membership_of w.memberships e) s ≡ true → Truth w g e s t b → Truth w (aged w.memberships g n) e s t b
truth_ages {A} w g p n out e s t (Entry i x) h a = λ q hq le.
    a q hq (omega (arith, put_other g.rank n g.top q (other p n out e q hq), put_other g.rank n g.top s (other p n out e s h)))
truth_ages {A} w g p n out e s t (Ack k) h a = a
truth_ages {A} w g p n out e s t (Copy xs) h a = (
  a.0,
  λ q hq le.
      a.1 q hq (omega (arith, put_other g.rank n g.top q (other p n out e q hq), put_other g.rank n g.top s (other p n out e s h))),
)
truth_ages {A} w g p n out e s t (Floor k) h a = a

-- the node that joins gets its place
clauses_ages : {A : Type 0} → {w : MachineState A} {g : Ages} → Clauses w g → (n : ℕ) → is_member w.joined n ≡ false → Clauses w (aged w.memberships g n)
clauses_ages {A} {w} {g} k n out =
    let rank : (x m : ℕ) → is_member (membership_of w.memberships x) m ≡ true → with_value g.rank n g.top m ≡ g.rank m = λ x m h. put_other g.rank n g.top m (other k.shape n out x m h) in
    let here : (m : ℕ) → w.ready m ≡ true → is_member (membership_of w.memberships (w.epoch m)) m ≡ true = λ m r. k.is_member_there m (k.ready_has_epoch m r) in
    record {
      shape = shape_ages k.shape n out;
      epoch_made = k.epoch_made;
      is_member_there = k.is_member_there;
      running_is_member = k.running_is_member;
      empty_at_first = k.empty_at_first;
      ready_has_epoch = k.ready_has_epoch;
      elders_hold = λ m q h lt.
          let hm : is_member (membership_of w.memberships (w.epoch m)) m ≡ true = k.is_member_there m (some_epoch w.memberships (w.epoch m) q h) in
          k.elders_hold m q h (omega (arith, rank (w.epoch m) q h, rank (w.epoch m) m hm));
      sender_is_member = k.sender_is_member;
      truthful = λ m s. truth_ages w g k.shape n out m.epoch m.from m.to m.body (k.sender_is_member m s) (k.truthful m s);
      acknowledged_held = k.acknowledged_held;
      acknowledged_committed = k.acknowledged_committed;
      committed_held = k.committed_held;
      floor_was_sent = k.floor_was_sent;
      elders_ready = λ s q r h lt. k.elders_ready s q r h (omega (arith, rank (length w.memberships) q h, rank (w.epoch s) s (here s r)));
      never_last_before = λ s m x r h lt ge below l.
          let b : with_value g.born n (suc (length w.memberships)) s ≡ g.born s = put_other g.born n (suc (length w.memberships)) s (other k.shape n out (w.epoch s) s (here s r)) in
          k.never_last_before s m x r h (omega (arith, rank (length w.memberships) m h, rank (w.epoch s) s (here s r))) ge (omega arith) l;
    }

-- a node that never was a member
pub record Blank {A : Type 0} (w : MachineState A) (n : ℕ) : Type 0 where
  pub epoch : w.epoch n ≡ 0
  pub ready : w.ready n ≡ false
  pub history : w.history n ≡ []
  pub acknowledged : w.acknowledged n ≡ 0
  pub floor : w.floor n ≡ None

none_from : (o : Option ℕ) → ((k : ℕ) → o ≡ Some k → ⊥) → o ≡ None
none_from None f = refl
none_from (Some k) f = absurd (f k refl)

pub blank_yet : {A : Type 0} → {w : MachineState A} {g : Ages} → Clauses w g → (n : ℕ) → is_member w.joined n ≡ false → Blank w n
blank_yet {A} {w} {g} k n out =
    let e : w.epoch n ≡ 0 = zero_from (w.epoch n) (λ p. other k.shape n out (w.epoch n) n (k.is_member_there n p) refl) in
    let h : w.history n ≡ [] = k.empty_at_first n e in
    record {
      epoch = e;
      ready = false_from_ne_true (w.ready n) (λ r. let p : _ = k.ready_has_epoch n r in absurd (omega arith));
      history = h;
      acknowledged = let a : _ = k.acknowledged_held n in let l : length (w.history n) ≡ 0 = ap length h in omega arith;
      floor = none_from (w.floor n) (λ j f.
          let s : _ = k.floor_was_sent n j f in
          let i : _ = k.sender_is_member (record { epoch = w.epoch n; from = s.0; to = n; body = Floor j }) s.1 in
          let p : 0 < w.epoch n = some_epoch w.memberships (w.epoch n) s.0 i in absurd (omega arith));
    }
  where
    zero_from : (x : ℕ) → (0 < x → ⊥) → x ≡ 0
    zero_from zero f = refl
    zero_from (suc x) f = absurd (f (omega arith))

-- the next world, without the fields that stay as they were
joins_bare : {A : Type 0} → {w : MachineState A} {g : Ages} → Clauses w g → (n : ℕ) → is_member w.joined n ≡ false → Blank w n
    → Clauses (with_membership w (membership_of w.memberships (length w.memberships) ++ n ∷ []) (w.joined ++ n ∷ []) (with_value w.running n true)) (aged w.memberships g n)
joins_bare {A} {w} {g} k n out b =
    let c : List ℕ = membership_of w.memberships (length w.memberships) in
    let new : Fresh w (aged w.memberships g n) n = record {
      unready = b.ready;
      absent = λ x h. other k.shape n out x n h refl;
      above = λ s r lt.
          let hs : is_member (membership_of w.memberships (w.epoch s)) s ≡ true = k.is_member_there s (k.ready_has_epoch s r) in
          omega (arith, lt, put_same g.rank n g.top, put_other g.rank n g.top s (other k.shape n out (w.epoch s) s hs), k.shape.below_top (w.epoch s) s hs);
    } in
    clauses_next_membership (clauses_ages k n out) (c ++ n ∷ []) (w.joined ++ n ∷ []) (with_value w.running n true) (shape_joins k.shape n out)
    (put_each w.running n true (λ m x. x ≡ true → is_member (c ++ n ∷ []) m ≡ true) (λ r. push_new c n) (λ m ne r. push_keeps c n m (k.running_is_member m r)))
    (λ m h. ⊎_elim (λ old. inl old) (λ e. let P : ℕ → Type 0 = λ j. Fresh w (aged w.memberships g n) j in inr (subst P e new)) (push_parts c n m h))

pub clauses_joins : {A : Type 0} → {w : MachineState A} {g : Ages} → Clauses w g → (n : ℕ) → is_member w.joined n ≡ false
    → Clauses (record w {
      memberships = w.memberships ++ (membership_of w.memberships (length w.memberships) ++ n ∷ []) ∷ [];
      joined = w.joined ++ n ∷ [];
      running = with_value w.running n true;
      epoch = with_value w.epoch n 0;
      ready = with_value w.ready n false;
      history = with_value w.history n [];
      acknowledged = with_value w.acknowledged n 0;
      floor = with_value w.floor n None;
    }) (aged w.memberships g n)
clauses_joins {A} {w} {g} k n out =
    let b : Blank w n = blank_yet k n out in
    let v : MachineState A = with_membership w (membership_of w.memberships (length w.memberships) ++ n ∷ []) (w.joined ++ n ∷ []) (with_value w.running n true) in
    let p0 : Clauses v (aged w.memberships g n) = joins_bare k n out b in
    let p1 : Clauses (record v { epoch = with_value w.epoch n 0 }) (aged w.memberships g n) =
    let P : (ℕ → ℕ) → Type 0 = λ f. Clauses (record v { epoch = f }) (aged w.memberships g n) in subst P (sym (put_id w.epoch n 0 b.epoch)) p0 in
    let p2 : Clauses (record v { epoch = with_value w.epoch n 0; ready = with_value w.ready n false }) (aged w.memberships g n) =
    let P : (ℕ → Bool) → Type 0 = λ f. Clauses (record v { epoch = with_value w.epoch n 0; ready = f }) (aged w.memberships g n) in subst P (sym (put_id w.ready n false b.ready)) p1 in
    let p3 : Clauses (record v { epoch = with_value w.epoch n 0; ready = with_value w.ready n false; history = with_value w.history n [] }) (aged w.memberships g n) =
    let P : (ℕ → List A) → Type 0 = λ f. Clauses (record v { epoch = with_value w.epoch n 0; ready = with_value w.ready n false; history = f }) (aged w.memberships g n) in subst P (sym (put_id w.history n [] b.history)) p2 in
    let p4 : Clauses (record v { epoch = with_value w.epoch n 0; ready = with_value w.ready n false; history = with_value w.history n []; acknowledged = with_value w.acknowledged n 0 }) (aged w.memberships g n) =
    let P : (ℕ → ℕ) → Type 0 = λ f. Clauses (record v { epoch = with_value w.epoch n 0; ready = with_value w.ready n false; history = with_value w.history n []; acknowledged = f }) (aged w.memberships g n) in subst P (sym (put_id w.acknowledged n 0 b.acknowledged)) p3 in
    let P : (ℕ → Option ℕ) → Type 0 = λ f. Clauses (record v { epoch = with_value w.epoch n 0; ready = with_value w.ready n false; history = with_value w.history n []; acknowledged = with_value w.acknowledged n 0; floor = f }) (aged w.memberships g n) in
    subst P (sym (put_id w.floor n None b.floor)) p4
