-- The master makes the next membership.
use Rattle.std.proofs.Common.{◌≡◌, ◌⊎◌, inl, ⊎_elim, ℕ, ◌<◌, ◌≤◌, Bool, true, false, List, [], ◌∷◌, ◌++◌, length, sym, subst, arith}
use Rattle.std.proofs.lemmas.Bool.{both_ways}
use Rattle.craq_protocol.specs.Members.{is_member, is_last, is_next, membership_of, without}
use Rattle.craq_protocol.specs.Machine.{MachineBody, MachineState, Entry, Ack, Copy, Floor}
use Rattle.craq_protocol.proofs.Lists.{membership_old, membership_past, membership_present, length_push, next_right, without_parts, without_keeps}
use Rattle.craq_protocol.proofs.Invariant.{Ages, Shape, Clauses, Truth}
use Rattle.craq_protocol.proofs.Shapes.{shape_removes}

-- m is no member yet
pub record Fresh {A : Type 0} (w : MachineState A) (g : Ages) (m : ℕ) : Type 0 where
  pub unready : w.ready m ≡ false
  pub absent : (x : ℕ) → is_member (membership_of w.memberships x) m ≡ true → ⊥
  pub above : (s : ℕ) → w.ready s ≡ true → g.rank m < g.rank s → ⊥

-- the next world
abbrev pub with_membership : {A : Type 0} → MachineState A → List ℕ → List ℕ → (ℕ → Bool) → MachineState A
with_membership {A} w c joined running = record w { memberships = w.memberships ++ c ∷ []; joined = joined; running = running }

truth_next_membership : {A : Type 0} → (w : MachineState A) (g : Ages) (c joined : List ℕ) (running : ℕ → Bool)
    → ((m : ℕ) → is_member c m ≡ true → (is_member (membership_of w.memberships (length w.memberships)) m ≡ true) ⊎ Fresh w g m)
    → (e s t : ℕ) (b : MachineBody A) → e ≤ length w.memberships → Truth w g e s t b → Truth (with_membership w c joined running) g e s t b
truth_next_membership {A} w g c joined running f e s t (Entry i x) le a = λ q hq. let P : List ℕ → Type 0 = λ l. is_member l q ≡ true in a q (subst P (membership_old w.memberships c e le) hq)
truth_next_membership {A} w g c joined running f e s t (Ack k) le a = a
truth_next_membership {A} w g c joined running f e s t (Copy xs) le a = (a.0, λ q hq. let P : List ℕ → Type 0 = λ l. is_member l q ≡ true in a.1 q (subst P (membership_old w.memberships c e le) hq))
truth_next_membership {A} w g c joined running f e s t (Floor k) le a = (
  a.0,
  a.1,
  let P : List ℕ → Type 0 = λ l. is_next l s t ≡ true in subst P (sym (membership_old w.memberships c e le)) a.2,
  λ u i.
      let P : List ℕ → Type 0 = λ l. is_member l t ≡ true in
      ⊎_elim (λ old. a.3 u old) (λ new. absurd (new.absent e (next_right (membership_of w.memberships e) s t a.2))) (f t (subst P (membership_present w.memberships c) i)),
)

pub clauses_next_membership : {A : Type 0} → {w : MachineState A} {g : Ages} → Clauses w g → (c joined : List ℕ) (running : ℕ → Bool)
    → Shape (w.memberships ++ c ∷ []) joined g
    → ((m : ℕ) → running m ≡ true → is_member c m ≡ true)
    → ((m : ℕ) → is_member c m ≡ true → (is_member (membership_of w.memberships (length w.memberships)) m ≡ true) ⊎ Fresh w g m)
    → Clauses (with_membership w c joined running) g
clauses_next_membership {A} {w} {g} k c joined running shape up f =
    let old : (x : ℕ) → x ≤ length w.memberships → membership_of (w.memberships ++ c ∷ []) x ≡ membership_of w.memberships x = membership_old w.memberships c in
    let new : (m : ℕ) → is_member (membership_of (w.memberships ++ c ∷ []) (length (w.memberships ++ c ∷ []))) m ≡ true → (is_member (membership_of w.memberships (length w.memberships)) m ≡ true) ⊎ Fresh w g m =
    λ m h. let P : List ℕ → Type 0 = λ l. is_member l m ≡ true in f m (subst P (membership_present w.memberships c) h) in
    record {
      shape = shape;
      epoch_made = λ n. omega (arith, k.epoch_made n, length_push w.memberships c);
      is_member_there = λ n p. let P : List ℕ → Type 0 = λ l. is_member l n ≡ true in subst P (sym (old (w.epoch n) (k.epoch_made n))) (k.is_member_there n p);
      running_is_member = λ n u. let P : List ℕ → Type 0 = λ l. is_member l n ≡ true in subst P (sym (membership_present w.memberships c)) (up n u);
      empty_at_first = k.empty_at_first;
      ready_has_epoch = k.ready_has_epoch;
      elders_hold = λ n q h. let P : List ℕ → Type 0 = λ l. is_member l q ≡ true in k.elders_hold n q (subst P (old (w.epoch n) (k.epoch_made n)) h);
      sender_is_member = λ m s.
          let h : is_member (membership_of w.memberships m.epoch) m.from ≡ true = k.sender_is_member m s in
          let P : List ℕ → Type 0 = λ l. is_member l m.from ≡ true in subst P (sym (old m.epoch (membership_past w.memberships m.epoch m.from h))) h;
      truthful = λ m s. truth_next_membership w g c joined running f m.epoch m.from m.to m.body (membership_past w.memberships m.epoch m.from (k.sender_is_member m s)) (k.truthful m s);
      acknowledged_held = k.acknowledged_held;
      acknowledged_committed = k.acknowledged_committed;
      committed_held = λ n r h. ⊎_elim (λ i. k.committed_held n r i) (λ i. absurd (both_ways (w.ready n) i.unready r)) (new n h);
      floor_was_sent = k.floor_was_sent;
      elders_ready = λ s q r h lt. ⊎_elim (λ i. k.elders_ready s q r i lt) (λ i. absurd (i.above s r lt)) (new q h);
      never_last_before = λ s n x r h lt ge below l. ⊎_elim
          (λ i.
          let b : g.born s ≤ w.epoch s = k.shape.since_born (w.epoch s) s (k.is_member_there s (k.ready_has_epoch s r)) in
          let e : w.epoch s ≤ length w.memberships = k.epoch_made s in
          let P : List ℕ → Type 0 = λ c. is_last c n ≡ true in
          k.never_last_before s n x r i lt ge below (subst P (old x (omega arith)) l))
          (λ i. i.above s r lt)
          (new n h);
    }

pub clauses_removes : {A : Type 0} → {w : MachineState A} {g : Ages} → Clauses w g → (n : ℕ) → w.running n ≡ false
    → Clauses (record w { memberships = w.memberships ++ without (membership_of w.memberships (length w.memberships)) n ∷ [] }) g
clauses_removes {A} {w} {g} k n down =
    clauses_next_membership k (without (membership_of w.memberships (length w.memberships)) n) w.joined w.running (shape_removes k.shape n)
    (λ m u. without_keeps (membership_of w.memberships (length w.memberships)) n m (k.running_is_member m u)
    (λ e. let P : ℕ → Type 0 = λ j. w.running j ≡ true in both_ways (w.running n) down (subst P e u)))
    (λ m h. inl (without_parts (membership_of w.memberships (length w.memberships)) n m h).0)
