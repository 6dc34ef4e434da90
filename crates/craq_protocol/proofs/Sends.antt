-- A true message is sent.
use Rattle.std.proofs.Common.{◌≡◌, inr, ⊎_elim, ℕ, true, List, ◌∷◌, subst}
use Rattle.craq_protocol.specs.Members.{is_member, membership_of}
use Rattle.craq_protocol.specs.Machine.{MachineBody, Message, MachineState, Entry, Ack, Copy, Floor}
use Rattle.craq_protocol.proofs.Invariant.{Ages, Clauses, Truth}

truth_sends : {A : Type 0} → (w : MachineState A) (g : Ages) (messages : List (Message A)) (e s t : ℕ) (b : MachineBody A) → Truth w g e s t b → Truth (record w { messages = messages }) g e s t b
truth_sends {A} w g messages e s t (Entry i x) a = a
truth_sends {A} w g messages e s t (Ack k) a = a
truth_sends {A} w g messages e s t (Copy xs) a = a
truth_sends {A} w g messages e s t (Floor k) a = a

pub clauses_sends : {A : Type 0} → {w : MachineState A} {g : Ages} → Clauses w g → (m : Message A) → is_member (membership_of w.memberships m.epoch) m.from ≡ true → Truth w g m.epoch m.from m.to m.body → Clauses (record w { messages = m ∷ w.messages }) g
clauses_sends {A} {w} {g} c m h a = record {
  shape = c.shape;
  epoch_made = c.epoch_made;
  is_member_there = c.is_member_there;
  running_is_member = c.running_is_member;
  empty_at_first = c.empty_at_first;
  ready_has_epoch = c.ready_has_epoch;
  elders_hold = c.elders_hold;
  sender_is_member = λ k i. ⊎_elim (λ e. let P : Message A → Type 0 = λ k. is_member (membership_of w.memberships k.epoch) k.from ≡ true in subst P e h) (λ s. c.sender_is_member k s) i;
  truthful = λ k i. ⊎_elim
      (λ e. let P : Message A → Type 0 = λ k. Truth (record w { messages = m ∷ w.messages }) g k.epoch k.from k.to k.body in
      subst P e (truth_sends w g (m ∷ w.messages) m.epoch m.from m.to m.body a))
      (λ s. truth_sends w g (m ∷ w.messages) k.epoch k.from k.to k.body (c.truthful k s))
      i;
  acknowledged_held = c.acknowledged_held;
  acknowledged_committed = c.acknowledged_committed;
  committed_held = c.committed_held;
  floor_was_sent = λ n k f. let s : _ = c.floor_was_sent n k f in (s.0, inr s.1);
  elders_ready = c.elders_ready;
  never_last_before = c.never_last_before;
}
