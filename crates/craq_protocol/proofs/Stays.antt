-- Nothing is taken back, at each kind of change.
use Rattle.std.proofs.Common.{Option, None, ◌≡◌, inr, ℕ, ◌<◌, ◌≤◌, true, false, List, [], ◌∷◌, ◌++◌, refl, sym, subst, ◌∙◌, arith}
use Rattle.std.proofs.lemmas.Bool.{both_ways}
use Rattle.craq_protocol.specs.Members.{is_member, with_value}
use Rattle.craq_protocol.specs.Machine.{Message, MachineState}
use Rattle.craq_protocol.specs.Promises.{IsPrefix, Later}
use Rattle.craq_protocol.proofs.Lists.{put_each, membership_old, length_push, push_keeps}
use Rattle.craq_protocol.proofs.Prefix.{prefix_self, prefix_nil, prefix_trans}
use Rattle.craq_protocol.proofs.Joins.{Blank}

pub later_self : {A : Type 0} → (w : MachineState A) → Later w w
later_self {A} w = record {
  log = prefix_self w.log;
  history = λ n. prefix_self (w.history n);
  acknowledged = λ n. omega arith;
  epoch = λ n. omega arith;
  ready = λ n r. r;
  stopped = λ n j s. s;
  sent = λ m s. s;
  joined = λ n j. j;
  epochs = omega arith;
  members = λ e le. refl;
}

pub later_trans : {A : Type 0} {u v w : MachineState A} → Later u v → Later v w → Later u w
later_trans {A} {u} {v} {w} a b = record {
  log = prefix_trans a.log b.log;
  history = λ n. prefix_trans (a.history n) (b.history n);
  acknowledged = λ n. omega (arith, a.acknowledged n, b.acknowledged n);
  epoch = λ n. omega (arith, a.epoch n, b.epoch n);
  ready = λ n r. b.ready n (a.ready n r);
  stopped = λ n j s. b.stopped n (a.joined n j) (a.stopped n j s);
  sent = λ m s. b.sent m (a.sent m s);
  joined = λ n j. b.joined n (a.joined n j);
  epochs = omega (arith, a.epochs, b.epochs);
  members = λ e le. b.members e (omega (arith, a.epochs)) ∙ a.members e le;
}

pub later_grows : {A : Type 0} → (w : MachineState A) (n : ℕ) (h : List A) → IsPrefix (w.history n) h → Later w (record w { history = with_value w.history n h })
later_grows {A} w n h p = let s : Later w w = later_self w in record {
  log = s.log;
  history = put_each w.history n h (λ m x. IsPrefix (w.history m) x) p (λ m ne. prefix_self (w.history m));
  acknowledged = s.acknowledged;
  epoch = s.epoch;
  ready = s.ready;
  stopped = s.stopped;
  sent = s.sent;
  joined = s.joined;
  epochs = s.epochs;
  members = s.members;
}

pub later_marks : {A : Type 0} → (w : MachineState A) (n p : ℕ) → w.acknowledged n ≤ p → Later w (record w { acknowledged = with_value w.acknowledged n p })
later_marks {A} w n p le = let s : Later w w = later_self w in record {
  log = s.log;
  history = s.history;
  acknowledged = put_each w.acknowledged n p (λ m x. w.acknowledged m ≤ x) le (λ m ne. omega arith);
  epoch = s.epoch;
  ready = s.ready;
  stopped = s.stopped;
  sent = s.sent;
  joined = s.joined;
  epochs = s.epochs;
  members = s.members;
}

pub later_logs : {A : Type 0} → (w : MachineState A) (log : List A) → IsPrefix w.log log → Later w (record w { log = log })
later_logs {A} w log p = let s : Later w w = later_self w in record {
  log = p;
  history = s.history;
  acknowledged = s.acknowledged;
  epoch = s.epoch;
  ready = s.ready;
  stopped = s.stopped;
  sent = s.sent;
  joined = s.joined;
  epochs = s.epochs;
  members = s.members;
}

pub later_becomes_ready : {A : Type 0} → (w : MachineState A) (n : ℕ) → Later w (record w { ready = with_value w.ready n true })
later_becomes_ready {A} w n = let s : Later w w = later_self w in record {
  log = s.log;
  history = s.history;
  acknowledged = s.acknowledged;
  epoch = s.epoch;
  ready = put_each w.ready n true (λ m x. w.ready m ≡ true → x ≡ true) (λ r. refl) (λ m ne r. r);
  stopped = s.stopped;
  sent = s.sent;
  joined = s.joined;
  epochs = s.epochs;
  members = s.members;
}

pub later_adopts : {A : Type 0} → (w : MachineState A) (n e : ℕ) (floor : ℕ → Option ℕ) → w.epoch n < e → Later w (record w { epoch = with_value w.epoch n e; floor = floor })
later_adopts {A} w n e floor lt = let s : Later w w = later_self w in record {
  log = s.log;
  history = s.history;
  acknowledged = s.acknowledged;
  epoch = put_each w.epoch n e (λ m x. w.epoch m ≤ x) (omega arith) (λ m ne. omega arith);
  ready = s.ready;
  stopped = s.stopped;
  sent = s.sent;
  joined = s.joined;
  epochs = s.epochs;
  members = s.members;
}

pub later_floors : {A : Type 0} → (w : MachineState A) (floor : ℕ → Option ℕ) → Later w (record w { floor = floor })
later_floors {A} w floor = let s : Later w w = later_self w in record {
  log = s.log;
  history = s.history;
  acknowledged = s.acknowledged;
  epoch = s.epoch;
  ready = s.ready;
  stopped = s.stopped;
  sent = s.sent;
  joined = s.joined;
  epochs = s.epochs;
  members = s.members;
}

pub later_stops : {A : Type 0} → (w : MachineState A) (n : ℕ) → Later w (record w { running = with_value w.running n false })
later_stops {A} w n = let s : Later w w = later_self w in record {
  log = s.log;
  history = s.history;
  acknowledged = s.acknowledged;
  epoch = s.epoch;
  ready = s.ready;
  stopped = put_each w.running n false (λ m x. is_member w.joined m ≡ true → w.running m ≡ false → x ≡ false) (λ j r. refl) (λ m ne j r. r);
  sent = s.sent;
  joined = s.joined;
  epochs = s.epochs;
  members = s.members;
}

pub later_sends : {A : Type 0} → (w : MachineState A) (m : Message A) → Later w (record w { messages = m ∷ w.messages })
later_sends {A} w m = let s : Later w w = later_self w in record {
  log = s.log;
  history = s.history;
  acknowledged = s.acknowledged;
  epoch = s.epoch;
  ready = s.ready;
  stopped = s.stopped;
  sent = λ k i. inr i;
  joined = s.joined;
  epochs = s.epochs;
  members = s.members;
}

pub later_next_membership : {A : Type 0} → (w : MachineState A) (c : List ℕ) → Later w (record w { memberships = w.memberships ++ c ∷ [] })
later_next_membership {A} w c = let s : Later w w = later_self w in record {
  log = s.log;
  history = s.history;
  acknowledged = s.acknowledged;
  epoch = s.epoch;
  ready = s.ready;
  stopped = s.stopped;
  sent = s.sent;
  joined = s.joined;
  epochs = omega (arith, length_push w.memberships c);
  members = λ e le. membership_old w.memberships c e le;
}

pub later_joins : {A : Type 0} → (w : MachineState A) (n : ℕ) (c : List ℕ) → is_member w.joined n ≡ false → Blank w n
    → Later w (record w {
      memberships = w.memberships ++ c ∷ [];
      joined = w.joined ++ n ∷ [];
      running = with_value w.running n true;
      epoch = with_value w.epoch n 0;
      ready = with_value w.ready n false;
      history = with_value w.history n [];
      acknowledged = with_value w.acknowledged n 0;
      floor = with_value w.floor n None;
    })
later_joins {A} w n c out b = record {
  log = prefix_self w.log;
  history = put_each w.history n [] (λ m x. IsPrefix (w.history m) x) (let P : List A → Type 0 = λ l. IsPrefix l [] in subst P (sym b.history) (prefix_nil [])) (λ m ne. prefix_self (w.history m));
  acknowledged = put_each w.acknowledged n 0 (λ m x. w.acknowledged m ≤ x) (omega (arith, b.acknowledged)) (λ m ne. omega arith);
  epoch = put_each w.epoch n 0 (λ m x. w.epoch m ≤ x) (omega (arith, b.epoch)) (λ m ne. omega arith);
  ready = put_each w.ready n false (λ m x. w.ready m ≡ true → x ≡ true) (λ r. absurd (both_ways (w.ready n) b.ready r)) (λ m ne r. r);
  stopped = put_each w.running n true (λ m x. is_member w.joined m ≡ true → w.running m ≡ false → x ≡ false) (λ j r. absurd (both_ways (is_member w.joined n) out j)) (λ m ne j r. r);
  sent = λ m s. s;
  joined = λ m j. push_keeps w.joined n m j;
  epochs = omega (arith, length_push w.memberships c);
  members = λ e le. membership_old w.memberships c e le;
}
