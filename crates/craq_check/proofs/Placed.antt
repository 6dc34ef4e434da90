-- The test of all replies at their places does not depend on their order: sorted by place, one pass
-- along the updates tests them all.
use Rattle.std.proofs.Common.{◌≡◌, ℕ, suc, ◌+◌, ◌<◌, ◌≤◌, Bool, true, false, cond, length, get_or, drop, drop-cons, add-one, List, [], ◌∷◌, Option, Some, None, unwrap_or, refl, sym, ap, subst, ◌∙◌, arith}
use Rattle.std.specs.Prelude.{◌==◌, ◌&&◌, not, if◌then◌else◌, is_some}
use Rattle.std.specs.Option.{option_map}
use Rattle.std.specs.List.{list_all, sum_by}
use Rattle.std.specs.List.Sorted.{IsPermutation, IsNonDecreasingBy}
use Rattle.std.proofs.lemmas.List.Sums.{sum_by-cons}
use Rattle.std.proofs.lemmas.List.Sorted.{sum_by-IsPermutation}
use Rattle.craq_commands.specs.declared.state.State.{State}
use Rattle.craq_commands.specs.SingleCopy.{apply}
use Rattle.craq_commands.specs.declared.command.Update.{Update}
use Rattle.craq_check.specs.Tests.{AskOf, Placed, is_said_to, is_said_here, said_first, are_said}
use Rattle.craq_check.proofs.Bools.{both_and, first_met}
use Rattle.craq_check.proofs.Lists.{same_number}

-- no place is below the one before it, and the first is not below this
abbrev pub Rise : ℕ → List Placed → Type 0
Rise low [] = Unit {0}
Rise low (x ∷ xs) = (low ≤ x.1) × Rise x.1 xs

rise_lower : (k low : ℕ) (xs : List Placed) → k ≤ low → Rise low xs → Rise k xs
rise_lower k low [] less h = tt
rise_lower k low (x ∷ xs) less h = let first : low ≤ x.1 = h.0 in (omega (arith, less, first), h.1)

rises_from : (low : ℕ) (xs : List Placed) → ((d : Placed) → 0 < length xs → low ≤ (get_or xs 0 d).1) → IsNonDecreasingBy (λ (x : Placed). x.1) xs → Rise low xs
rises_from low [] first h = tt
rises_from low (x ∷ xs) first h = (first x (omega arith), rises_from x.1 xs (λ d some. h 0 1 d (omega arith) (omega (arith, some))) (λ i j d less within. h (suc i) (suc j) d (omega (arith, less)) (omega (arith, within))))

pub rises : (xs : List Placed) → IsNonDecreasingBy (λ (x : Placed). x.1) xs → Rise 0 xs
rises xs h = rises_from 0 xs (λ d some. omega arith) h

-- ---- replies of other places

elsewhere : (ask_at : AskOf) (state : State) (count : ℕ) (x : Placed) → (x.1 == count) ≡ false → is_said_here ask_at state count x ≡ true
unfolding is_said_here
elsewhere ask_at state count x h = rw h refl

at_place : (ask_at : AskOf) (state : State) (count : ℕ) (x : Placed) → (x.1 == count) ≡ true → is_said_here ask_at state count x ≡ is_said_to state x.0 (ask_at x.0.node x.0.ticket)
unfolding is_said_here
at_place ask_at state count x h = rw h refl

none_here : (ask_at : AskOf) (state : State) (count low : ℕ) (xs : List Placed) → count < low → Rise low xs → list_all (is_said_here ask_at state count) xs ≡ true
none_here ask_at state count low [] less h = refl
none_here ask_at state count low (x ∷ xs) less h =
    let first : low ≤ x.1 = h.0 in
    let apart : (x.1 == count) ≡ false = grind (arith, less, first) in
    both_and (is_said_here ask_at state count x) (list_all (is_said_here ask_at state count) xs) (elsewhere ask_at state count x apart)
    (none_here ask_at state count x.1 xs (omega (arith, less, first)) h.1)

-- a reply whose place is passed is not tested again
past : (ask_at : AskOf) (x : Placed) (xs : List Placed) (state : State) (k : ℕ) (us : List Update) → x.1 < k → are_said ask_at (x ∷ xs) state k us ≡ are_said ask_at xs state k us
unfolding are_said
past ask_at x xs state k [] low =
    let apart : (x.1 == k) ≡ false = grind (arith, low) in
    sym (first_met (is_said_here ask_at state k x) (list_all (is_said_here ask_at state k) xs) (elsewhere ask_at state k x apart))
past ask_at x xs state k (u ∷ us) low =
    let apart : (x.1 == k) ≡ false = grind (arith, low) in
    let here : (is_said_here ask_at state k x && list_all (is_said_here ask_at state k) xs) ≡ list_all (is_said_here ask_at state k) xs = sym (first_met (is_said_here ask_at state k x) (list_all (is_said_here ask_at state k) xs) (elsewhere ask_at state k x apart)) in
    let later : are_said ask_at (x ∷ xs) (apply state u) (k + 1) us ≡ are_said ask_at xs (apply state u) (k + 1) us = past ask_at x xs (apply state u) (k + 1) us (omega (arith, low)) in
    λ i. here i && later i

-- ---- replies of one place

-- the state of the test once the replies of a place are passed
pub record Passed (ask_at : AskOf) (state : State) (count : ℕ) (xs later : List Placed) : Type 0 where
  pub here : list_all (is_said_here ask_at state count) xs ≡ true
  pub rise : Rise (count + 1) later
  pub goes_on : (next : State) (us : List Update) → are_said ask_at xs next (count + 1) us ≡ are_said ask_at later next (count + 1) us

same_some : (xs ys : List Placed) → Some xs ≡ Some ys → xs ≡ ys
same_some xs ys h = ap (λ (o : Option (List Placed)). unwrap_or o []) h

stays : (ask_at : AskOf) (state : State) (count : ℕ) (x : Placed) (xs : List Placed) → (x.1 == count) ≡ false → Rise count (x ∷ xs) → Passed ask_at state count (x ∷ xs) (x ∷ xs)
stays ask_at state count x xs apart h =
    let first : count ≤ x.1 = h.0 in
    let less : count < x.1 = grind (arith, apart, first) in
    let same : x.1 ≤ x.1 = omega arith in
    let next : count + 1 ≤ x.1 = omega (arith, less) in
    record {
      here = none_here ask_at state count x.1 (x ∷ xs) less (same, h.1);
      rise = (next, h.1);
      goes_on = λ later us. refl;
    }

goes : (ask_at : AskOf) (state : State) (count : ℕ) (x : Placed) (xs later : List Placed) → (x.1 == count) ≡ true → is_said_to state x.0 (ask_at x.0.node x.0.ticket) ≡ true → Passed ask_at state count xs later → Passed ask_at state count (x ∷ xs) later
goes ask_at state count x xs later at said p =
    let same : x.1 ≡ count = same_number x.1 count at in
    record {
      here = both_and (is_said_here ask_at state count x) (list_all (is_said_here ask_at state count) xs) (at_place ask_at state count x at ∙ said) p.here;
      rise = p.rise;
      goes_on = λ next us. past ask_at x xs next (count + 1) us (omega (arith, same)) ∙ p.goes_on next us;
    }

one : (ask_at : AskOf) (state : State) (count : ℕ) (x : Placed) (xs later : List Placed) (b t : Bool) → (x.1 == count) ≡ b → is_said_to state x.0 (ask_at x.0.node x.0.ticket) ≡ t → Rise count (x ∷ xs) → (Rise count xs → said_first ask_at state count xs ≡ Some later → Passed ask_at state count xs later) → (if not b then Some (x ∷ xs) else if t then said_first ask_at state count xs else None) ≡ Some later → Passed ask_at state count (x ∷ xs) later
one ask_at state count x xs later false t at said h f e =
    let P : List Placed → Type 0 = Passed ask_at state count (x ∷ xs) in
    subst P (same_some (x ∷ xs) later e) (stays ask_at state count x xs at h)
one ask_at state count x xs later true true at said h f e =
    let same : x.1 ≡ count = same_number x.1 count at in
    goes ask_at state count x xs later at said (f (rise_lower count x.1 xs (omega (arith, same)) h.1) e)
one ask_at state count x xs later true false at said h f e = let bad : ⊥ = cc in absurd bad

pub passes : (ask_at : AskOf) (state : State) (count : ℕ) (xs later : List Placed) → Rise count xs → said_first ask_at state count xs ≡ Some later → Passed ask_at state count xs later
unfolding said_first
passes ask_at state count [] later h e =
    let P : List Placed → Type 0 = Passed ask_at state count [] in
    subst P (same_some [] later e) (record { here = refl; rise = tt; goes_on = λ next us. refl })
passes ask_at state count (x ∷ xs) later h e =
    one ask_at state count x xs later (x.1 == count) (is_said_to state x.0 (ask_at x.0.node x.0.ticket)) refl refl h (passes ask_at state count xs later) e

refused : (ask_at : AskOf) (state : State) (count : ℕ) (x : Placed) (xs : List Placed) (b t : Bool) → (x.1 == count) ≡ b → is_said_to state x.0 (ask_at x.0.node x.0.ticket) ≡ t → (said_first ask_at state count xs ≡ None → list_all (is_said_here ask_at state count) xs ≡ false) → (if not b then Some (x ∷ xs) else if t then said_first ask_at state count xs else None) ≡ None → list_all (is_said_here ask_at state count) (x ∷ xs) ≡ false
refused ask_at state count x xs false t at said f e = let bad : ⊥ = cc in absurd bad
refused ask_at state count x xs true true at said f e =
    sym (first_met (is_said_here ask_at state count x) (list_all (is_said_here ask_at state count) xs) (at_place ask_at state count x at ∙ said)) ∙ f e
refused ask_at state count x xs true false at said f e =
    let no : is_said_here ask_at state count x ≡ false = at_place ask_at state count x at ∙ said in
    ap (λ b. b && list_all (is_said_here ask_at state count) xs) no

-- if one is refused, not all are the copy's
pub fails : (ask_at : AskOf) (state : State) (count : ℕ) (xs : List Placed) → said_first ask_at state count xs ≡ None → list_all (is_said_here ask_at state count) xs ≡ false
unfolding said_first
fails ask_at state count [] e = let bad : ⊥ = cc in absurd bad
fails ask_at state count (x ∷ xs) e =
    refused ask_at state count x xs (x.1 == count) (is_said_to state x.0 (ask_at x.0.node x.0.ticket)) refl refl (fails ask_at state count xs) e

ended : (ask_at : AskOf) (state : State) (count : ℕ) (xs : List Placed) (o : Option (List Placed)) → Rise count xs → said_first ask_at state count xs ≡ o → is_some o ≡ list_all (is_said_here ask_at state count) xs
ended ask_at state count xs None h e = sym (fails ask_at state count xs e)
ended ask_at state count xs (Some later) h e = sym (passes ask_at state count xs later h e).here

-- ---- along the updates

-- the last state
pub at_the_end : (ask_at : AskOf) (state : State) (count : ℕ) (xs : List Placed) → Rise count xs → is_some (said_first ask_at state count xs) ≡ are_said ask_at xs state count []
unfolding are_said
at_the_end ask_at state count xs h = ended ask_at state count xs (said_first ask_at state count xs) h refl

-- a state before the last
pub refused_here : (ask_at : AskOf) (state : State) (count : ℕ) (xs : List Placed) (u : Update) (us : List Update) → said_first ask_at state count xs ≡ None → false ≡ are_said ask_at xs state count (u ∷ us)
unfolding are_said
refused_here ask_at state count xs u us e = ap (λ b. b && are_said ask_at xs (apply state u) (count + 1) us) (sym (fails ask_at state count xs e))

pub goes_on_from : (ask_at : AskOf) (state : State) (count : ℕ) (xs later : List Placed) (u : Update) (us : List Update) → Rise count xs → said_first ask_at state count xs ≡ Some later → are_said ask_at later (apply state u) (count + 1) us ≡ are_said ask_at xs state count (u ∷ us)
unfolding are_said
goes_on_from ask_at state count xs later u us h e =
    let p : Passed ask_at state count xs later = passes ask_at state count xs later h e in
    sym (p.goes_on (apply state u) us) ∙ first_met (list_all (is_said_here ask_at state count) xs) (are_said ask_at xs (apply state u) (count + 1) us) p.here

pub rises_on : (ask_at : AskOf) (state : State) (count : ℕ) (xs later : List Placed) → Rise count xs → said_first ask_at state count xs ≡ Some later → Rise (count + 1) later
rises_on ask_at state count xs later h e = (passes ask_at state count xs later h e).rise

-- ---- in any order

weight : {A : Type 0} → (A → Bool) → A → ℕ
weight p x = cond (p x) 0 1

split : (b r : Bool) (n : ℕ) → r ≡ (n == 0) → (b && r) ≡ (cond b 0 1 + n == 0)
split true r n h = let same : n ≡ 0 + n = omega arith in h ∙ ap (λ m. m == 0) same
split false r n h = let more : (1 + n == 0) ≡ false = grind arith in sym more

all_by_sum : {A : Type 0} (p : A → Bool) (xs : List A) → list_all p xs ≡ (sum_by (weight p) xs == 0)
unfolding weight
all_by_sum p [] = refl
all_by_sum p (x ∷ xs) = split (p x) (list_all p xs) (sum_by (weight p) xs) (all_by_sum p xs) ∙ ap (λ n. n == 0) (sym (sum_by-cons (weight p) x xs))

all_moved : {A : Type 0} (p : A → Bool) (xs ys : List A) → IsPermutation xs ys → list_all p ys ≡ list_all p xs
all_moved p xs ys h = all_by_sum p ys ∙ ap (λ n. n == 0) (sum_by-IsPermutation (weight p) xs ys h) ∙ sym (all_by_sum p xs)

pub said_in_any_order : (ask_at : AskOf) (xs ys : List Placed) (state : State) (count : ℕ) (us : List Update) → IsPermutation xs ys → are_said ask_at ys state count us ≡ are_said ask_at xs state count us
unfolding are_said
said_in_any_order ask_at xs ys state count [] h = all_moved (is_said_here ask_at state count) xs ys h
said_in_any_order ask_at xs ys state count (u ∷ us) h =
    λ i. all_moved (is_said_here ask_at state count) xs ys h i && said_in_any_order ask_at xs ys (apply state u) (count + 1) us h i

-- the list from a place on
pub front : {A : Type 0} (xs : List A) (i : ℕ) (x : A) → i < length xs → x ≡ get_or xs i x → drop i xs ≡ x ∷ drop (i + 1) xs
front xs i x low is = drop-cons xs i x low ∙ (λ j. sym is j ∷ drop (sym (add-one i) j) xs)

pub some_first : {A B : Type 0} (f : A → B) (o : Option A) → is_some o ≡ is_some (option_map f o)
some_first f None = refl
some_first f (Some x) = refl
