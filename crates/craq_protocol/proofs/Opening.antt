-- The opening.
use Rattle.std.proofs.Common.{◌≡◌, ◌≢◌, ⊎_elim, ℕ, zero, suc, ◌<◌, ◌≤◌, ◌==◌, true, false, cond, List, [], ◌∷◌, length, refl, sym, subst, arith}
use Rattle.std.proofs.lemmas.Bool.{both_ways, cond_both, cond-true, cond-false, eq-eqb, ne_eqb}
use Rattle.craq_protocol.specs.Members.{is_member, membership_of, IsDistinct}
use Rattle.craq_protocol.specs.Machine.{initial_state}
use Rattle.craq_protocol.proofs.Lists.{Sorted, is_member_none, is_member_cases, last_has, sorted_like, sorted_same}
use Rattle.craq_protocol.proofs.Prefix.{prefix_nil}
use Rattle.craq_protocol.proofs.Invariant.{Ages, Shape, Clauses, Invariant}

-- the place of n
place : List ℕ → ℕ → ℕ
place [] n = 0
place (m ∷ ms) n = cond (m == n) 0 (suc (place ms n))

apart : (m : ℕ) (ms : List ℕ) (n : ℕ) → is_member ms m ≡ false → is_member ms n ≡ true → m ≢ n
apart m ms n out h e = let P : ℕ → Type 0 = λ k. is_member ms k ≡ true in both_ways (is_member ms m) out (subst P (sym e) h)

place_here : (m : ℕ) (ms : List ℕ) → place (m ∷ ms) m ≡ 0
unfolding place
place_here m ms = cond-true (m == m) 0 (suc (place ms m)) (eq-eqb m m refl)

place_there : (m : ℕ) (ms : List ℕ) (n : ℕ) → m ≢ n → place (m ∷ ms) n ≡ suc (place ms n)
unfolding place
place_there m ms n ne = cond-false (m == n) 0 (suc (place ms n)) (ne_eqb m n ne)

place_sorted : (ms : List ℕ) → IsDistinct ms → Sorted (place ms) ms
place_sorted [] d = tt
place_sorted (m ∷ ms) d = (
  λ k h. omega (arith, place_here m ms, place_there m ms k (apart m ms k d.0 h)),
  sorted_like (place ms) (place (m ∷ ms)) ms
      (λ a b ha hb lt. omega (arith, place_there m ms a (apart m ms a d.0 ha), place_there m ms b (apart m ms b d.0 hb)))
      (place_sorted ms d.1),
)

place_under : (ms : List ℕ) (n : ℕ) → is_member ms n ≡ true → place ms n < length ms
unfolding place
place_under [] n h = absurd (is_member_none n h)
place_under (m ∷ ms) n h =
    cond_both (m == n) 0 (suc (place ms n)) (λ x. x < suc (length ms)) (λ e. omega arith)
    (λ e. ⊎_elim (λ same. absurd (both_ways (m == n) e (eq-eqb m n same))) (λ i. let lt : _ = place_under ms n i in omega arith) (is_member_cases m ms n h))

membership_one : (ms : List ℕ) → membership_of (ms ∷ []) 1 ≡ ms
unfolding membership_of
membership_one ms = refl

in_one : (ms : List ℕ) (x n : ℕ) → is_member (membership_of (ms ∷ []) x) n ≡ true → (x ≡ 1) × (is_member ms n ≡ true)
unfolding membership_of
in_one ms zero n h = absurd (is_member_none n h)
in_one ms (suc zero) n h = (refl, h)
in_one ms (suc (suc x)) n h = absurd (is_member_none n h)

back_one : (ms : List ℕ) (n : ℕ) → is_member ms n ≡ true → (x : ℕ) → x ≡ 1 → is_member (membership_of (ms ∷ []) x) n ≡ true
back_one ms n h x e =
    let P : List ℕ → Type 0 = λ l. is_member l n ≡ true in
    let Q : ℕ → Type 0 = λ x. is_member (membership_of (ms ∷ []) x) n ≡ true in
    subst Q (sym e) (subst P (sym (membership_one ms)) h)

sorted_one : (ms : List ℕ) → IsDistinct ms → (x : ℕ) → Sorted (place ms) (membership_of (ms ∷ []) x)
unfolding membership_of
sorted_one ms d zero = tt
sorted_one ms d (suc zero) = place_sorted ms d
sorted_one ms d (suc (suc x)) = tt

ages : List ℕ → Ages
ages ms = record { rank = place ms; born = λ n. 1; top = length ms }

shape_opens : (ms : List ℕ) → IsDistinct ms → Shape (ms ∷ []) ms (ages ms)
unfolding ages
shape_opens ms d = record {
  sorted = sorted_one ms d;
  since_born = λ x n h. omega (arith, (in_one ms x n h).0);
  stays = λ x y n h ge le. back_one ms n (in_one ms x n h).1 y (omega (arith, (in_one ms x n h).0));
  elders_first = λ x y n m hn hm lt. omega arith;
  rank_is_id = λ x y n m hn hm e. sorted_same (place ms) ms n m (place_sorted ms d) (in_one ms x n hn).1 (in_one ms y m hm).1 e;
  is_listed = λ x n h. (in_one ms x n h).1;
  below_top = λ x n h. place_under ms n (in_one ms x n h).1;
}

clauses_opens : (A : Type 0) (ms : List ℕ) → IsDistinct ms → Clauses (initial_state {A = A} ms) (ages ms)
unfolding ages
clauses_opens A ms d = record {
  shape = shape_opens ms d;
  epoch_made = λ n. cond_both (is_member ms n) 1 0 (λ x. x ≤ 1) (λ e. omega arith) (λ e. omega arith);
  is_member_there = λ n. cond_both (is_member ms n) 1 0 (λ x. 0 < x → is_member (membership_of (ms ∷ []) x) n ≡ true) (λ e p. back_one ms n e 1 refl) (λ e p. absurd (omega arith));
  running_is_member = λ n h. back_one ms n h 1 refl;
  empty_at_first = λ n e. refl;
  ready_has_epoch = λ n h. cond_both (is_member ms n) 1 0 (λ x. 0 < x) (λ e. omega arith) (λ e. absurd (both_ways (is_member ms n) e h));
  elders_hold = λ n q h lt. prefix_nil [];
  sender_is_member = λ m s. absurd s;
  truthful = λ m s. absurd s;
  acknowledged_held = λ n. omega arith;
  acknowledged_committed = λ n. prefix_nil [];
  committed_held = λ n r h. prefix_nil [];
  floor_was_sent = λ n k e. absurd (cc);
  elders_ready = λ s q r h lt. (in_one ms 1 q h).1;
  never_last_before = λ s n x r h lt ge below l. let p : _ = in_one ms x n (last_has (membership_of (ms ∷ []) x) n l) in absurd (omega (arith, p.0));
}

pub opening_holds : (A : Type 0) (ms : List ℕ) → IsDistinct ms → Invariant (initial_state {A = A} ms)
opening_holds A ms d = record { ages = ages ms; clauses = clauses_opens A ms d; tails = λ n u r l. (refl, omega arith) }
