-- The next membership is a membership.
use Rattle.std.proofs.Common.{◌≡◌, ℕ, suc, ◌+◌, ◌<◌, ◌≤◌, Bool, true, false, List, [], ◌∷◌, ◌++◌, length, refl, rules, sym, ◌∙◌, ap, arith, length-append}
use Rattle.std.specs.Prelude.{◌==◌, ◌||◌, nat_eq, if◌then◌else◌}
use Rattle.std.specs.List.{IsDistinct, AllByRecursion}
use Rattle.craq_names.specs.Limits.{greatest_count, member_limit}
use Rattle.craq_model.specs.Members.{IsMembership, is_member, without}
use Rattle.craq_epochs.specs.Mastered.{IsMastered, opened_master}

abbrev AreUsed : List ℕ → List ℕ → Type 0
AreUsed used ms = AllByRecursion (λ id. is_member used id ≡ true) ms

abbrev AreIds : List ℕ → Type 0
AreIds ms = AllByRecursion (λ id. (1 ≤ id) × (id ≤ greatest_count)) ms

own : (id : ℕ) → (id == id) ≡ true
own id = search rules

true_or : (a b : Bool) → b ≡ true → (a || b) ≡ true
true_or true b h = refl
true_or false b h = h

or_false : (a b : Bool) → (a || b) ≡ false → (a ≡ false) × (b ≡ false)
or_false true b h = cc
or_false false b h = (refl, h)

used_more_front : (m : ℕ) (used ms : List ℕ) → AreUsed used ms → AreUsed (m ∷ used) ms
unfolding is_member
used_more_front m used [] h = tt
used_more_front m used (k ∷ ms) h = (true_or (m == k) (is_member used k) h.0, used_more_front m used ms h.1)

-- each member of the first membership is used
pub used_at_first : (ms : List ℕ) → AreUsed ms ms
unfolding is_member
used_at_first [] = tt
used_at_first (m ∷ ms) = (ap (λ b. b || is_member ms m) (own m), used_more_front m ms ms (used_at_first ms))

member_more : (used : List ℕ) (id k : ℕ) → is_member used k ≡ true → is_member (used ++ id ∷ []) k ≡ true
unfolding is_member
member_more [] id k h = cc
member_more (m ∷ used) id k h =
    let split : (b : Bool) → (b || is_member used k) ≡ true → (b || is_member (used ++ id ∷ []) k) ≡ true = elim [ true ↦ λ h. refl | false ↦ λ h. member_more used id k h ] in
    split (m == k) h

member_last : (used : List ℕ) (id : ℕ) → is_member (used ++ id ∷ []) id ≡ true
unfolding is_member
member_last [] id = ap (λ b. b || false) (own id)
member_last (m ∷ used) id = true_or (m == id) (is_member (used ++ id ∷ []) id) (member_last used id)

-- the members and the new one are used after the join
pub used_after_join : (used ms : List ℕ) (id : ℕ) → AreUsed used ms → AreUsed (used ++ id ∷ []) (ms ++ id ∷ [])
used_after_join used [] id h = (member_last used id, tt)
used_after_join used (m ∷ ms) id h = (member_more used id m h.0, used_after_join used ms id h.1)

-- the members that stay are used
pub used_without : (used ms : List ℕ) (id : ℕ) → AreUsed used ms → AreUsed used (without ms id)
unfolding without
used_without used [] id h = tt
used_without used (m ∷ ms) id h =
    let rest = used_without used ms id h.1 in
    let split : (b : Bool) → AreUsed used (if b then without ms id else m ∷ without ms id) = elim [ true ↦ rest | false ↦ (h.0, rest) ] in
    split (m == id)

ids_more : (ms : List ℕ) (id : ℕ) → AreIds ms → 1 ≤ id → id ≤ greatest_count → AreIds (ms ++ id ∷ [])
ids_more [] id h low high = ((low, high), tt)
ids_more (m ∷ ms) id h low high = (h.0, ids_more ms id h.1 low high)

ids_without : (ms : List ℕ) (id : ℕ) → AreIds ms → AreIds (without ms id)
unfolding without
ids_without [] id h = tt
ids_without (m ∷ ms) id h =
    let rest = ids_without ms id h.1 in
    let split : (b : Bool) → AreIds (if b then without ms id else m ∷ without ms id) = elim [ true ↦ rest | false ↦ (h.0, rest) ] in
    split (m == id)

abbrev IsNone : ℕ → List ℕ → Type 0
IsNone m ms = AllByRecursion (λ k. nat_eq m k ≡ false) ms

none_more : (m : ℕ) (ms : List ℕ) (id : ℕ) → IsNone m ms → nat_eq m id ≡ false → IsNone m (ms ++ id ∷ [])
none_more m [] id h apart = (apart, tt)
none_more m (k ∷ ms) id h apart = (h.0, none_more m ms id h.1 apart)

none_without : (m : ℕ) (ms : List ℕ) (id : ℕ) → IsNone m ms → IsNone m (without ms id)
unfolding without
none_without m [] id h = tt
none_without m (k ∷ ms) id h =
    let rest = none_without m ms id h.1 in
    let split : (b : Bool) → IsNone m (if b then without ms id else k ∷ without ms id) = elim [ true ↦ rest | false ↦ (h.0, rest) ] in
    split (k == id)

distinct_more : (ms : List ℕ) (id : ℕ) → IsDistinct nat_eq ms → AllByRecursion (λ m. nat_eq m id ≡ false) ms → IsDistinct nat_eq (ms ++ id ∷ [])
unfolding IsDistinct
distinct_more [] id h apart = (tt, tt)
distinct_more (m ∷ ms) id h apart = (none_more m ms id h.0 apart.0, distinct_more ms id h.1 apart.1)

distinct_without : (ms : List ℕ) (id : ℕ) → IsDistinct nat_eq ms → IsDistinct nat_eq (without ms id)
unfolding IsDistinct without
distinct_without [] id h = tt
distinct_without (m ∷ ms) id h =
    let rest = distinct_without ms id h.1 in
    let split : (b : Bool) → IsDistinct nat_eq (if b then without ms id else m ∷ without ms id) = elim [ true ↦ rest | false ↦ (none_without m ms id h.0, rest) ] in
    split (m == id)

same_number : (m id : ℕ) → nat_eq m id ≡ true → m ≡ id
same_number m id h = search rules

-- an id that was never used is no member
apart_from_used : (used ms : List ℕ) (id : ℕ) → AreUsed used ms → is_member used id ≡ false → AllByRecursion (λ m. nat_eq m id ≡ false) ms
apart_from_used used [] id h fresh = tt
apart_from_used used (m ∷ ms) id h fresh =
    let split : (b : Bool) → nat_eq m id ≡ b → nat_eq m id ≡ false = elim [
      | true ↦ λ e.
          let same : is_member used id ≡ true = ap (is_member used) (sym (same_number m id e)) ∙ h.0 in
          let clash : true ≡ false = sym same ∙ fresh in
          cc
      | false ↦ λ e. e
    ] in
    (split (nat_eq m id) refl, apart_from_used used ms id h.1 fresh)

length_without_le : (ms : List ℕ) (id : ℕ) → length (without ms id) ≤ length ms
unfolding without
length_without_le [] id = omega arith
length_without_le (m ∷ ms) id =
    let rest = length_without_le ms id in
    let split : (b : Bool) → length (if b then without ms id else m ∷ without ms id) ≤ suc (length ms) = elim [ true ↦ omega (arith, rest) | false ↦ omega (arith, rest) ] in
    split (m == id)

-- of at least two members, one stays
some_stay : (ms : List ℕ) (id : ℕ) → IsDistinct nat_eq ms → 2 ≤ length ms → 1 ≤ length (without ms id)
unfolding IsDistinct without
some_stay [] id h two = absurd (omega arith)
some_stay (m ∷ []) id h two = absurd (omega arith)
some_stay (m ∷ k ∷ ms) id h two =
    let other : (a b : Bool) → (m == id) ≡ a → (k == id) ≡ b → 1 ≤ length (if a then (if b then without ms id else k ∷ without ms id) else m ∷ (if b then without ms id else k ∷ without ms id)) = elim [
      | true ↦ elim [
        | true ↦ λ e f.
            let same : m ≡ k = same_number m id e ∙ sym (same_number k id f) in
            let clash : true ≡ false = sym (own k) ∙ ap (λ n. n == k) (sym same) ∙ h.0.0 in
            cc
        | false ↦ λ e f. omega arith
      ]
      | false ↦ λ b e f. omega arith
    ] in
    other (m == id) (k == id) refl refl

-- a membership after a join
pub membership_after_join : (used ms : List ℕ) (id : ℕ) → IsMembership ms → AreUsed used ms → is_member used id ≡ false → 1 ≤ id → id ≤ greatest_count → length ms < member_limit → IsMembership (ms ++ id ∷ [])
membership_after_join used ms id h all fresh low high room =
    record {
      some = omega (arith, length-append ms (id ∷ []));
      few = omega (arith, length-append ms (id ∷ []));
      ids = ids_more ms id h.ids low high;
      distinct = distinct_more ms id h.distinct (apart_from_used used ms id all fresh);
    }

-- a membership after a removal
pub membership_without : (ms : List ℕ) (id : ℕ) → IsMembership ms → 2 ≤ length ms → IsMembership (without ms id)
membership_without ms id h two =
    let few = h.few in
    record {
      some = some_stay ms id h.distinct two;
      few = omega (arith, length_without_le ms id);
      ids = ids_without ms id h.ids;
      distinct = distinct_without ms id h.distinct;
    }

-- the master's invariant holds after a join, after a removal and at the opening
pub mastered_after_join : (chain epoch id : ℕ) (ms used : List ℕ) → IsMastered (record { chain = chain; epoch = epoch; members = ms; used = used }) → is_member used id ≡ false → 1 ≤ id → id ≤ greatest_count → length ms < member_limit → IsMastered (record { chain = chain; epoch = epoch + 1; members = ms ++ id ∷ []; used = used ++ id ∷ [] })
mastered_after_join chain epoch id ms used h fresh low high room =
    record {
      membership = membership_after_join used ms id h.membership h.all_used fresh low high room;
      from_one = omega arith;
      all_used = used_after_join used ms id h.all_used;
    }

pub mastered_after_removal : (chain epoch id : ℕ) (ms used : List ℕ) → IsMastered (record { chain = chain; epoch = epoch; members = ms; used = used }) → 2 ≤ length ms → IsMastered (record { chain = chain; epoch = epoch + 1; members = without ms id; used = used })
mastered_after_removal chain epoch id ms used h two =
    record { membership = membership_without ms id h.membership two; from_one = omega arith; all_used = used_without used ms id h.all_used }

pub mastered_at_first : (chain : ℕ) (ms : List ℕ) → IsMembership ms → IsMastered (opened_master chain ms)
mastered_at_first chain ms h = record { membership = h; from_one = omega arith; all_used = used_at_first ms }
