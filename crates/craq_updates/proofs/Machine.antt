-- The effect of a protocol move: each history is a prefix of an earlier one, and the log is the old
-- one or a tail's.
use Rattle.std.proofs.Common.{◌≡◌, ◌≢◌, ⊎_elim, ℕ, suc, ◌==◌, true, ◌&&◌, List, [], ◌∷◌, length, sym, subst, ◌∙◌, arith}
use Rattle.std.proofs.lemmas.Bool.{cond_both, and_parts, or_cases, eqb-true, cases_eq, both_ways}
use Rattle.craq_protocol.specs.Members.{is_member, is_next, with_value, IsDistinct}
use Rattle.craq_protocol.specs.Machine.{MachineState, known_membership, is_tail, after_commit}
use Rattle.craq_protocol.specs.Promises.{IsPrefix, Before, IsSafe}
use Rattle.craq_protocol.proofs.Lists.{put_same, put_other, is_member_here}

-- ---- neighbours

later_index : (m : ℕ) (ms : List ℕ) (a b : ℕ) → Before ms a b → Before (m ∷ ms) a b
later_index m ms a b h = record { front = suc h.front; back = suc h.back; order = omega (arith, h.order); within = omega (arith, h.within); at_front = h.at_front; at_back = h.at_back }

pub next_before : (ms : List ℕ) (a b : ℕ) → is_next ms a b ≡ true → Before ms a b
unfolding is_next
next_before [] a b h = absurd (cc)
next_before (m ∷ []) a b h = absurd (cc)
next_before (m ∷ k ∷ ms) a b h =
    ⊎_elim
    (λ e.
    let p : ((m == a) ≡ true) × ((k == b) ≡ true) = and_parts (m == a) (k == b) e in
    record { front = 0; back = 1; order = omega arith; within = omega arith; at_front = eqb-true m a p.0; at_back = eqb-true k b p.1 })
    (λ e. later_index m (k ∷ ms) a b (next_before (k ∷ ms) a b e))
    (or_cases ((m == a) && (k == b)) (is_next (k ∷ ms) a b) h)

-- no id is its own successor
pub next_other : (ms : List ℕ) (a : ℕ) → IsDistinct ms → is_next ms a a ≡ true → ⊥
unfolding is_next
next_other [] a d h = cc
next_other (m ∷ []) a d h = cc
next_other (m ∷ k ∷ ms) a d h =
    ⊎_elim
    (λ e.
    let p : ((m == a) ≡ true) × ((k == a) ≡ true) = and_parts (m == a) (k == a) e in
    let same : k ≡ m = eqb-true k a p.1 ∙ sym (eqb-true m a p.0) in
    let P : ℕ → Type 0 = λ j. is_member (k ∷ ms) j ≡ true in
    both_ways (is_member (k ∷ ms) m) d.0 (subst P same (is_member_here k ms)))
    (λ e. next_other (k ∷ ms) a d.1 e)
    (or_cases ((m == a) && (k == a)) (is_next (k ∷ ms) a a) h)

-- ---- a property of all histories

-- P holds of each prefix of a list of which it holds
abbrev pub IsClosed : {A : Type 0} → (List A → Type 0) → Type 0
IsClosed {A} P = (xs ys : List A) → IsPrefix xs ys → P ys → P xs

pub record Held {A : Type 0} (P : List A → Type 0) (w : MachineState A) : Type 0 where
  pub histories : (n : ℕ) → P (w.history n)
  pub log : P w.log

pub held_commit : {A : Type 0} (P : List A → Type 0) (w : MachineState A) (n : ℕ) → Held P w → Held P (after_commit w n)
held_commit P w n h =
    cond_both (is_tail w n) (record w { acknowledged = with_value w.acknowledged n (length (w.history n)); log = w.history n }) w (λ v. Held P v)
    (λ e. record { histories = h.histories; log = h.histories n })
    (λ e. h)

-- one history is replaced
pub history_put : {A : Type 0} (P : List A → Type 0) (f : ℕ → List A) (n : ℕ) (xs : List A) → ((m : ℕ) → P (f m)) → P xs → (m : ℕ) → P (with_value f n xs m)
history_put {A} P f n xs h p m =
    ⊎_elim
    (λ e. let Q : List A → Type 0 = λ l. P l in let R : ℕ → Type 0 = λ k. P (with_value f n xs k) in subst R (sym e) (subst Q (sym (put_same f n xs)) p))
    (λ ne. let Q : List A → Type 0 = λ l. P l in subst Q (sym (put_other f n xs m ne)) (h m))
    (cases_eq m n)

-- the history that a node has from its predecessor is a prefix of the predecessor's
pub from_predecessor : {A : Type 0} (P : List A → Type 0) → IsClosed P → (w v : MachineState A) (n from : ℕ) (xs : List A) → Held P w → IsSafe v
    → is_next (known_membership w n) from n ≡ true → known_membership v n ≡ known_membership w n → v.history n ≡ xs
    → ((m : ℕ) → m ≢ n → v.history m ≡ w.history m) → P xs
from_predecessor {A} P c w v n from xs h s nx same is others =
    let Q : List ℕ → Type 0 = λ l. is_next l from n ≡ true in
    let nv : is_next (known_membership v n) from n ≡ true = subst Q (sym same) nx in
    let p : IsPrefix (v.history n) (v.history from) = s.predecessors_hold n from (next_before (known_membership v n) from n nv) in
    let ne : from ≢ n = λ e. let R : ℕ → Type 0 = λ k. is_next (known_membership v n) k n ≡ true in next_other (known_membership v n) n (s.distinct (v.epoch n)) (subst R e nv) in
    let S : List A → Type 0 = λ l. P l in
    subst S is (c (v.history n) (v.history from) p (subst S (sym (others from ne)) (h.histories from)))
