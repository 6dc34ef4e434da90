-- The memberships keep their shape, as a member is removed or joins.
use Rattle.std.proofs.Common.{◌≡◌, ◌≢◌, ◌⊎◌, inl, inr, ⊎_elim, ℕ, suc, ◌<◌, ◌≤◌, true, false, List, [], ◌∷◌, ◌++◌, length, refl, ap, sym, subst, ◌∙◌, arith}
use Rattle.std.proofs.lemmas.Bool.{cases_lt, both_ways}
use Rattle.craq_protocol.specs.Members.{is_member, membership_of, with_value, without}
use Rattle.craq_protocol.proofs.Lists.{Sorted, put_same, put_other, sorted_like, membership_old, membership_new, membership_beyond, membership_cases, length_push, push_parts, push_keeps, push_new, push_sorted, without_parts, without_sorted}
use Rattle.craq_protocol.proofs.Invariant.{Ages, Shape}

-- m is n, which never was a member
pub record New (cs : List (List ℕ)) (joined : List ℕ) (g : Ages) (n m : ℕ) : Type 0 where
  pub only : m ≡ n
  pub young : g.born m ≡ suc (length cs)
  pub high : (x q : ℕ) → is_member (membership_of cs x) q ≡ true → g.rank q < g.rank m
  pub below : g.rank m < g.top
  pub listed : is_member joined m ≡ true

-- the properties of a member, old or new
abbrev Old : List (List ℕ) → ℕ → ℕ → Type 0
Old cs x m = (z : ℕ) × (is_member (membership_of cs z) m ≡ true) × (z ≤ x) × (z ≤ length cs)

sort : (cs : List (List ℕ)) (joined : List ℕ) (g : Ages) (n : ℕ) (c : List ℕ)
    → ((m : ℕ) → is_member c m ≡ true → (is_member (membership_of cs (length cs)) m ≡ true) ⊎ New cs joined g n m)
    → (x m : ℕ) → is_member (membership_of (cs ++ c ∷ []) x) m ≡ true → Old cs x m ⊎ New cs joined g n m
sort cs joined g n c f x m h =
    ⊎_elim
    (λ a. inl (x, a.1, omega arith, a.0))
    (λ b. ⊎_elim (λ d. let e : x ≡ suc (length cs) = b.0 in inl (length cs, d, omega arith, omega arith)) (λ d. inr d) (f m b.1))
    (membership_cases cs c x m h)

pub shape_next_membership : {cs : List (List ℕ)} {joined : List ℕ} {g : Ages} → Shape cs joined g → (n : ℕ) (c later : List ℕ)
    → Sorted g.rank c
    → ((m : ℕ) → is_member c m ≡ true → (is_member (membership_of cs (length cs)) m ≡ true) ⊎ New cs later g n m)
    → ((m : ℕ) → is_member joined m ≡ true → is_member later m ≡ true)
    → Shape (cs ++ c ∷ []) later g
shape_next_membership {cs} {joined} {g} s n c later so f kept =
    let Was : ℕ → ℕ → Type 0 = λ x m. Old cs x m ⊎ New cs later g n m in
    let was : (x m : ℕ) → is_member (membership_of (cs ++ c ∷ []) x) m ≡ true → Was x m = sort cs later g n c f in
    record {
      sorted = λ x.
          let P : List ℕ → Type 0 = Sorted g.rank in
          ⊎_elim
          (λ gt. ⊎_elim
          (λ past. subst P (sym (membership_beyond (cs ++ c ∷ []) x past)) tt)
          (λ le. let e : x ≡ suc (length cs) = omega (arith, length_push cs c) in subst P (sym (ap (membership_of (cs ++ c ∷ [])) e ∙ membership_new cs c)) so)
          (cases_lt (length (cs ++ c ∷ [])) x))
          (λ le. subst P (sym (membership_old cs c x le)) (s.sorted x))
          (cases_lt (length cs) x);
      since_born = λ x m h. ⊎_elim
          (λ a. let b : _ = s.since_born a.0 m a.1 in omega (arith, a.2))
          (λ b. ⊎_elim (λ d. let le : _ = s.since_born x m d.1 in omega arith) (λ d. omega (arith, d.0, b.young)) (membership_cases cs c x m h))
          (was x m h);
      stays = λ x y m h ge le.
          let P : List ℕ → Type 0 = λ l. is_member l m ≡ true in
          ⊎_elim
          (λ a. subst P (sym (membership_old cs c y (omega (arith, a.0)))) (s.stays x y m a.1 ge le))
          (λ b. ⊎_elim
          (λ gt. let e : x ≡ y = omega (arith, b.0) in let Q : ℕ → Type 0 = λ k. is_member (membership_of (cs ++ c ∷ []) k) m ≡ true in subst Q e h)
          (λ ge2. ⊎_elim
          (λ d. subst P (sym (membership_old cs c y ge2)) (s.stays (length cs) y m d ge ge2))
          (λ d. absurd (omega (arith, d.young)))
          (f m b.1))
          (cases_lt (length cs) y))
          (membership_cases cs c x m h);
      elders_first = λ x y p q hp hq lt. ⊎_elim
          (λ a. ⊎_elim
          (λ b. s.elders_first a.0 b.0 p q a.1 b.1 lt)
          (λ b. let le : _ = s.since_born a.0 p a.1 in omega (arith, a.3, b.young))
          (was y q hq))
          (λ a. ⊎_elim
          (λ b. let gt : _ = a.high b.0 q b.1 in absurd (omega arith))
          (λ b. let e : g.rank p ≡ g.rank q = ap g.rank (a.only ∙ sym b.only) in absurd (omega arith))
          (was y q hq))
          (was x p hp);
      rank_is_id = λ x y p q hp hq e. ⊎_elim
          (λ a. ⊎_elim
          (λ b. s.rank_is_id a.0 b.0 p q a.1 b.1 e)
          (λ b. let gt : _ = b.high a.0 p a.1 in absurd (omega arith))
          (was y q hq))
          (λ a. ⊎_elim
          (λ b. let gt : _ = a.high b.0 q b.1 in absurd (omega arith))
          (λ b. a.only ∙ sym b.only)
          (was y q hq))
          (was x p hp);
      is_listed = λ x m h. ⊎_elim (λ a. kept m (s.is_listed a.0 m a.1)) (λ b. b.listed) (was x m h);
      below_top = λ x m h. ⊎_elim (λ a. s.below_top a.0 m a.1) (λ b. b.below) (was x m h);
    }

pub shape_removes : {cs : List (List ℕ)} {joined : List ℕ} {g : Ages} → Shape cs joined g → (n : ℕ) → Shape (cs ++ without (membership_of cs (length cs)) n ∷ []) joined g
shape_removes {cs} {joined} {g} s n =
    shape_next_membership s n (without (membership_of cs (length cs)) n) joined
    (without_sorted g.rank (membership_of cs (length cs)) n (s.sorted (length cs)))
    (λ m h. inl (without_parts (membership_of cs (length cs)) n m h).0)
    (λ m h. h)

-- n gets the next place
abbrev pub aged : List (List ℕ) → Ages → ℕ → Ages
aged cs g n = record { rank = with_value g.rank n g.top; born = with_value g.born n (suc (length cs)); top = suc g.top }

pub other : {cs : List (List ℕ)} {joined : List ℕ} {g : Ages} → Shape cs joined g → (n : ℕ) → is_member joined n ≡ false → (x m : ℕ) → is_member (membership_of cs x) m ≡ true → m ≢ n
other {cs} {joined} s n out x m h e =
    let P : ℕ → Type 0 = λ k. is_member joined k ≡ true in
    both_ways (is_member joined n) out (subst P e (s.is_listed x m h))

pub shape_ages : {cs : List (List ℕ)} {joined : List ℕ} {g : Ages} → Shape cs joined g → (n : ℕ) → is_member joined n ≡ false → Shape cs joined (aged cs g n)
shape_ages {cs} {joined} {g} s n out =
    let rank : (x m : ℕ) → is_member (membership_of cs x) m ≡ true → with_value g.rank n g.top m ≡ g.rank m = λ x m h. put_other g.rank n g.top m (other s n out x m h) in
    let born : (x m : ℕ) → is_member (membership_of cs x) m ≡ true → with_value g.born n (suc (length cs)) m ≡ g.born m = λ x m h. put_other g.born n (suc (length cs)) m (other s n out x m h) in
    record {
      sorted = λ x. sorted_like g.rank (with_value g.rank n g.top) (membership_of cs x) (λ a b ha hb lt. omega (arith, rank x a ha, rank x b hb)) (s.sorted x);
      since_born = λ x m h. omega (arith, born x m h, s.since_born x m h);
      stays = λ x y m h ge le. s.stays x y m h (omega (arith, born x m h)) le;
      elders_first = λ x y p q hp hq lt. let le : _ = s.elders_first x y p q hp hq (omega (arith, rank x p hp, rank y q hq)) in omega (arith, born x p hp, born y q hq);
      rank_is_id = λ x y p q hp hq e. s.rank_is_id x y p q hp hq (omega (arith, rank x p hp, rank y q hq));
      is_listed = s.is_listed;
      below_top = λ x m h. omega (arith, rank x m h, s.below_top x m h);
    }

pub shape_joins : {cs : List (List ℕ)} {joined : List ℕ} {g : Ages} → Shape cs joined g → (n : ℕ) → is_member joined n ≡ false
    → Shape (cs ++ (membership_of cs (length cs) ++ n ∷ []) ∷ []) (joined ++ n ∷ []) (aged cs g n)
shape_joins {cs} {joined} {g} s n out =
    let a : Shape cs joined (aged cs g n) = shape_ages s n out in
    let top : with_value g.rank n g.top n ≡ g.top = put_same g.rank n g.top in
    let high : (x q : ℕ) → is_member (membership_of cs x) q ≡ true → with_value g.rank n g.top q < with_value g.rank n g.top n =
    λ x q h. omega (arith, top, put_other g.rank n g.top q (other s n out x q h), s.below_top x q h) in
    let new : New cs (joined ++ n ∷ []) (aged cs g n) n n = record {
      only = refl;
      young = put_same g.born n (suc (length cs));
      high = high;
      below = omega (arith, top);
      listed = push_new joined n;
    } in
    shape_next_membership a n (membership_of cs (length cs) ++ n ∷ []) (joined ++ n ∷ [])
    (push_sorted (with_value g.rank n g.top) (membership_of cs (length cs)) n (a.sorted (length cs)) (λ k h. high (length cs) k h))
    (λ m h. ⊎_elim (λ old. inl old) (λ e. let P : ℕ → Type 0 = λ k. New cs (joined ++ n ∷ []) (aged cs g n) n k in inr (subst P e new)) (push_parts (membership_of cs (length cs)) n m h))
    (λ m h. push_keeps joined n m h)
