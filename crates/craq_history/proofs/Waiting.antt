-- Waiting updates whose positions rise.
use Rattle.std.proofs.Common.{◌≡◌, ◌<◌, ◌≤◌, ◌∙◌, sym, ap, refl, subst, ℕ, suc, zero, nat_le, nat_lt, Bool, true, false, ◌&&◌, List, [], ◌∷◌, ◌++◌, length, drop, get_or, arith}
use Rattle.std.specs.Ordering.{is_le, is_lt, nat_cmp}
use Rattle.std.proofs.lemmas.Bool.{and_parts, and_from, leb-true, le-leb, lt-ltb, le-ltb, cond-true, cond-false}
use Rattle.std.proofs.lemmas.Bool.Decides.{nat_tests}
use Rattle.craq_model.specs.declared.waiting.WaitingUpdate.{WaitingUpdate}
use Rattle.craq_model.specs.Deliveries.{later_updates}
use Rattle.craq_history.specs.Waiting.{rise_from, rise}

pub is_le_same : (m n : ℕ) → is_le (nat_cmp m n) ≡ nat_le m n
is_le_same m n = grind (arith, nat_tests)

pub is_before : (m n : ℕ) (r : Bool) → r ≡ is_lt (nat_cmp m n) → r ≡ true → m < n
is_before m n r lt holds = grind (arith, lt, holds)

pub is_not_before : (m n : ℕ) (r : Bool) → r ≡ is_lt (nat_cmp m n) → r ≡ false → n ≤ m
is_not_before m n r lt fails = grind (arith, lt, fails)

and_same : (a b c : Bool) → (a && (b && c)) ≡ ((a && b) && c)
and_same true b c = refl
and_same false b c = refl

-- one more at the end: its position is compared with the last one's
pub rise_more : (low : ℕ) (us : List WaitingUpdate) (i : ℕ) (last u : WaitingUpdate) → length us ≡ suc i → last ≡ get_or us i last
    → rise_from low (us ++ u ∷ []) ≡ (rise_from low us && nat_le last.position u.position)
rise_more low [] i last u n e = absurd (omega (arith, n))
rise_more low (v ∷ []) zero last u n e =
    subst (λ (w : WaitingUpdate). rise_from low (v ∷ u ∷ []) ≡ ((nat_le low v.position && true) && nat_le w.position u.position)) (sym e)
    (ap (λ (b : Bool). nat_le low v.position && b) (and_true (nat_le v.position u.position)) ∙ ap (λ (b : Bool). b && nat_le v.position u.position) (sym (and_true (nat_le low v.position))))
  where
    and_true : (b : Bool) → (b && true) ≡ b
    and_true true = refl
    and_true false = refl
rise_more low (v ∷ []) (suc i) last u n e = absurd (omega (arith, n))
rise_more low (v ∷ w ∷ us) zero last u n e = absurd (omega (arith, n))
rise_more low (v ∷ w ∷ us) (suc i) last u n e =
    ap (λ (b : Bool). nat_le low v.position && b) (rise_more v.position (w ∷ us) i last u (omega (arith, n)) e)
    ∙ and_same (nat_le low v.position) (rise_from v.position (w ∷ us)) (nat_le last.position u.position)

-- positions that rise from one number rise from a lower one
pub rise_lower : (low high : ℕ) (us : List WaitingUpdate) → low ≤ high → rise_from high us ≡ true → rise_from low us ≡ true
rise_lower low high [] l r = refl
rise_lower low high (u ∷ us) l r =
    let parts : _ = and_parts (nat_le high u.position) (rise_from u.position us) r in
    let above : high ≤ u.position = leb-true high u.position parts.0 in
    and_from (nat_le low u.position) (rise_from u.position us) (le-leb low u.position (omega (arith, l, above))) parts.1

all_later : (low position : ℕ) (us : List WaitingUpdate) → position < low → rise_from low us ≡ true → later_updates position us ≡ us
unfolding later_updates
all_later low position [] l r = refl
all_later low position (u ∷ us) l r =
    let parts : _ = and_parts (nat_le low u.position) (rise_from u.position us) r in
    let above : low ≤ u.position = leb-true low u.position parts.0 in
    let is : position < u.position = omega (arith, l, above) in
    cond-true (nat_lt position u.position) (u ∷ later_updates position us) (later_updates position us) (lt-ltb position u.position is)
    ∙ ap (λ (l : List WaitingUpdate). u ∷ l) (all_later u.position position us is parts.1)

-- if the first one is later, all are
pub first_is_later : (position : ℕ) (us : List WaitingUpdate) (first : WaitingUpdate) → rise us ≡ true → first ≡ get_or us 0 first → position < first.position → later_updates position us ≡ us
unfolding later_updates
first_is_later position [] first r e l = refl
first_is_later position (u ∷ us) first r e l =
    let parts : _ = and_parts (nat_le 0 u.position) (rise_from u.position us) r in
    let is : position < u.position = subst (λ (w : WaitingUpdate). position < w.position) e l in
    all_later u.position position (u ∷ us) is (and_from (nat_le u.position u.position) (rise_from u.position us) (le-leb u.position u.position (omega arith)) parts.1)

-- the first one is not later: the others remain
pub first_goes : (position : ℕ) (us : List WaitingUpdate) (first : WaitingUpdate) → 0 < length us → first ≡ get_or us 0 first → first.position ≤ position → later_updates position (drop 1 us) ≡ later_updates position us
unfolding later_updates
first_goes position [] first n e l = refl
first_goes position (u ∷ us) first n e l =
    let is : u.position ≤ position = subst (λ (w : WaitingUpdate). w.position ≤ position) e l in
    sym (cond-false (nat_lt position u.position) (u ∷ later_updates position us) (later_updates position us) (le-ltb position u.position is))

pub rest_rises : (us : List WaitingUpdate) → rise us ≡ true → rise (drop 1 us) ≡ true
rest_rises [] r = refl
rest_rises (u ∷ us) r = rise_lower 0 u.position us (omega arith) (and_parts (nat_le 0 u.position) (rise_from u.position us) r).1
