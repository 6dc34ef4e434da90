-- The invariant implies the promises.
use Rattle.std.proofs.Common.{◌≡◌, ⊎_elim, ℕ, ◌<◌, ◌≤◌, true, ◌&&◌, List, length, take, ap, sym, subst, arith}
use Rattle.std.proofs.lemmas.Bool.{and_parts, cases_order}
use Rattle.std.proofs.lemmas.List.{length-take-le}
use Rattle.craq_protocol.specs.Members.{is_member, is_last, membership_of, IsDistinct}
use Rattle.craq_protocol.specs.Machine.{MachineBody, MachineState, MachineMove, Copy, is_tail, initial_state, after_moves}
use Rattle.craq_protocol.specs.Promises.{IsPrefix, Before, IsSafe, Later}
use Rattle.craq_protocol.proofs.Lists.{get_has, sorted_at}
use Rattle.craq_protocol.proofs.Indices.{sorted_distinct}
use Rattle.craq_protocol.proofs.Prefix.{prefix_nil, prefix_length, prefix_is_take}
use Rattle.craq_protocol.proofs.Invariant.{Ages, Clauses, HoldsLog, Truth, Invariant}
use Rattle.craq_protocol.proofs.Places.{older, one_tail}
use Rattle.craq_protocol.proofs.LeadsTo.{LeadsTo}
use Rattle.craq_protocol.proofs.EachMove.{run_goes}
use Rattle.craq_protocol.proofs.Opening.{opening_holds}

before_has : {c : List ℕ} {q n : ℕ} → Before c q n → (is_member c q ≡ true) × (is_member c n ≡ true)
before_has {c} {q} {n} b =
    let P : ℕ → Type 0 = λ k. is_member c k ≡ true in
    (subst P b.at_front (get_has c b.front (omega (arith, b.order, b.within))), subst P b.at_back (get_has c b.back b.within))

before_rank : {A : Type 0} → {w : MachineState A} {g : Ages} → Clauses w g → (x q n : ℕ) → Before (membership_of w.memberships x) q n → g.rank q < g.rank n
before_rank {A} {w} {g} k x q n b =
    let lt : _ = sorted_at g.rank (membership_of w.memberships x) b.front b.back (k.shape.sorted x) b.order b.within in
    omega (arith, lt, ap g.rank b.at_front, ap g.rank b.at_back)

tail_parts : {A : Type 0} → (w : MachineState A) (n : ℕ) → is_tail w n ≡ true → (w.running n ≡ true) × (w.ready n ≡ true) × (is_last (membership_of w.memberships (w.epoch n)) n ≡ true)
tail_parts {A} w n e =
    let a : _ = and_parts (w.running n && w.ready n) (is_last (membership_of w.memberships (w.epoch n)) n) e in
    let b : _ = and_parts (w.running n) (w.ready n) a.0 in
    (b.0, b.1, a.1)

acked_safe : {A : Type 0} → {w : MachineState A} {g : Ages} → Clauses w g → (n : ℕ) → (w.acknowledged n ≤ length (w.history n)) × (w.acknowledged n ≤ length w.log) × (take (w.acknowledged n) (w.history n) ≡ take (w.acknowledged n) w.log)
acked_safe {A} {w} k n =
    let l : length (take (w.acknowledged n) (w.history n)) ≡ w.acknowledged n = length-take-le (w.acknowledged n) (w.history n) (k.acknowledged_held n) in
    let p : IsPrefix (take (w.acknowledged n) (w.history n)) w.log = k.acknowledged_committed n in
    let P : ℕ → Type 0 = λ j. take j w.log ≡ take (w.acknowledged n) (w.history n) in
    (k.acknowledged_held n, omega (arith, prefix_length p), sym (subst P l (prefix_is_take p)))

upstream_now : {A : Type 0} → {w : MachineState A} {g : Ages} → Clauses w g → (n q : ℕ) → Before (membership_of w.memberships (length w.memberships)) q n → IsPrefix (w.history n) (w.history q)
upstream_now {A} {w} {g} k n q b =
    let lt : g.rank q < g.rank n = before_rank k (length w.memberships) q n b in
    ⊎_elim
    (λ e. let P : List A → Type 0 = λ l. IsPrefix l (w.history q) in subst P (sym (k.empty_at_first n e)) (prefix_nil (w.history q)))
    (λ o. ⊎_elim
    (λ z. absurd (omega arith))
    (λ p. k.elders_hold n q (older k.shape (w.epoch n) (length w.memberships) q n (k.is_member_there n p) (before_has b).0 lt (k.epoch_made n)) lt)
    o)
    (cases_order (w.epoch n) 0)

pub safe : {A : Type 0} → {w : MachineState A} → Invariant w → IsSafe w
safe {A} {w} i =
    let k : Clauses w i.ages = i.clauses in
    record {
      committed = k.committed_held;
      acknowledged = acked_safe k;
      tail = λ n e. let t : _ = tail_parts w n e in let h : HoldsLog w n = i.tails n t.0 t.1 t.2 in h.0;
      tail_knows = λ n e. let t : _ = tail_parts w n e in let h : HoldsLog w n = i.tails n t.0 t.1 t.2 in omega (arith, h.1, k.acknowledged_held n);
      one_tail = λ n m e f. let t : _ = tail_parts w n e in let u : _ = tail_parts w m f in one_tail k n m t.0 t.1 t.2 u.0 u.1 u.2;
      ack = λ m p s e. let P : MachineBody A → Type 0 = λ b. Truth w i.ages m.epoch m.from m.to b in subst P e (k.truthful m s);
      copy = λ m xs s e.
          let P : MachineBody A → Type 0 = λ b. Truth w i.ages m.epoch m.from m.to b in
          let a : Truth w i.ages m.epoch m.from m.to (Copy xs) = subst P e (k.truthful m s) in a.0;
      predecessors_hold = λ n q b. k.elders_hold n q (before_has b).0 (before_rank k (w.epoch n) q n b);
      predecessors_hold_now = upstream_now k;
      predecessors_ready = λ n q b r. k.elders_ready n q r (before_has b).0 (before_rank k (length w.memberships) q n b);
      distinct = λ e. sorted_distinct i.ages.rank (membership_of w.memberships e) (k.shape.sorted e);
      epoch = k.epoch_made;
      member = k.is_member_there;
      alive = k.running_is_member;
    }

pub always_safe : {A : Type 0} → (ms : List ℕ) (moves : List (MachineMove A)) → IsDistinct ms → IsSafe (after_moves (initial_state ms) moves)
always_safe {A} ms moves d = let g : LeadsTo (initial_state ms) (after_moves (initial_state ms) moves) = run_goes moves (initial_state ms) (opening_holds A ms d) in safe g.invariant

pub always_grows : {A : Type 0} → (ms : List ℕ) (moves later : List (MachineMove A)) → IsDistinct ms → Later (after_moves (initial_state ms) moves) (after_moves (after_moves (initial_state ms) moves) later)
always_grows {A} ms moves later d =
    let a : LeadsTo (initial_state ms) (after_moves (initial_state ms) moves) = run_goes moves (initial_state ms) (opening_holds A ms d) in
    let b : LeadsTo (after_moves (initial_state ms) moves) (after_moves (after_moves (initial_state ms) moves) later) = run_goes later (after_moves (initial_state ms) moves) a.invariant in
    b.later
