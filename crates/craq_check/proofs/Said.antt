-- The tests of replies and of the single copy's answers decide their rules.
use Rattle.std.proofs.Common.{◌≡◌, ℕ, zero, suc, ◌+◌, ◌≤◌, Bool, true, false, length, take, List, [], ◌∷◌, Option, Some, None, refl, sym, ap, subst, ◌∙◌, arith}
use Rattle.std.specs.Prelude.{◌==◌, ◌&&◌, not, is_some, if◌then◌else◌}
use Rattle.std.specs.List.{list_all}
use Rattle.std.specs.Cmp.Lexicographic.{bytes_decides}
use Rattle.craq_names.specs.Maps.{same_bytes, at_number}
use Rattle.craq_commands.specs.Kept.{Window, is_stale, is_new, said_of, largest}
use Rattle.craq_commands.specs.Objects.{object_of}
use Rattle.craq_commands.specs.declared.state.State.{State}
use Rattle.craq_commands.specs.SingleCopy.{said, apply, after_from}
use Rattle.craq_commands.specs.declared.command.Update.{Update}
use Rattle.craq_commands.specs.declared.reply.Reply.{Reply}
use Rattle.craq_commands.specs.declared.reply.Reply.TheVariants.{Written, Mismatch, TooLong, NotANumber, Overflow, Underflow, Done, CompareFailed, Stale}
use Rattle.craq_model.specs.declared.ask.Ask.{Ask}
use Rattle.craq_model.specs.declared.ask.Ask.TheVariants as asks
use Rattle.craq_model.specs.declared.ask.Answer.{Answer}
use Rattle.craq_model.specs.declared.ask.Answer.TheVariants as answers
use Rattle.craq_runs.specs.Valid.{IsSaid}
use Rattle.craq_check.specs.Tests.{AskOf, Placed, all_pairs, reply_kind, reply_number, found_of, same_found, same_reply, is_reply, is_said, is_said_here, are_said}
use Rattle.craq_check.proofs.Bools.{and_both, both_and}
use Rattle.craq_check.proofs.Lists.{same_number, number_same}

pub one_found : (x y : ℕ × List ℕ) → same_found x y ≡ true → x ≡ y
one_found x y h =
    let b : ((x.0 == y.0) ≡ true) × (same_bytes x.1 y.1 ≡ true) = and_both (x.0 == y.0) (same_bytes x.1 y.1) h in
    let version : x.0 ≡ y.0 = same_number x.0 y.0 b.0 in
    let value : x.1 ≡ y.1 = (bytes_decides x.1 y.1).0 b.1 in
    λ i. (version i, value i)

pub found_one : (x y : ℕ × List ℕ) → x ≡ y → same_found x y ≡ true
found_one x y h =
    both_and (x.0 == y.0) (same_bytes x.1 y.1) (number_same x.0 y.0 (ap (λ (p : ℕ × List ℕ). p.0) h)) ((bytes_decides x.1 y.1).1 (ap (λ (p : ℕ × List ℕ). p.1) h))

all_found : (xs ys : List (ℕ × List ℕ)) → all_pairs same_found xs ys ≡ true → xs ≡ ys
unfolding all_pairs
all_found [] [] h = refl
all_found [] (y ∷ ys) h = cc
all_found (x ∷ xs) [] h = cc
all_found (x ∷ xs) (y ∷ ys) h =
    let b : (same_found x y ≡ true) × (all_pairs same_found xs ys ≡ true) = and_both (same_found x y) (all_pairs same_found xs ys) h in
    λ i. one_found x y b.0 i ∷ all_found xs ys b.1 i

found_again : (xs : List (ℕ × List ℕ)) → all_pairs same_found xs xs ≡ true
unfolding all_pairs
found_again [] = refl
found_again (x ∷ xs) = both_and (same_found x x) (all_pairs same_found xs xs) (found_one x x refl) (found_again xs)

-- the reply with these parts
made_of : ℕ → ℕ → List (ℕ × List ℕ) → Reply
made_of k n found =
    if k == 0 then Written n
    else if k == 1 then Mismatch n
    else if k == 2 then TooLong
    else if k == 3 then NotANumber
    else if k == 4 then Overflow
    else if k == 5 then Underflow
    else if k == 6 then Done found
    else if k == 7 then CompareFailed n
    else Stale n

made_again : (r : Reply) → made_of (reply_kind r) (reply_number r) (found_of r) ≡ r
unfolding made_of
made_again (Written version) = refl
made_again (Mismatch version) = refl
made_again TooLong = refl
made_again NotANumber = refl
made_again Overflow = refl
made_again Underflow = refl
made_again (Done found) = refl
made_again (CompareFailed place) = refl
made_again (Stale last) = refl

one_reply : (x y : Reply) → same_reply x y ≡ true → x ≡ y
unfolding same_reply
one_reply x y h =
    let b : (((reply_kind x == reply_kind y) && (reply_number x == reply_number y)) ≡ true) × (all_pairs same_found (found_of x) (found_of y) ≡ true) = and_both ((reply_kind x == reply_kind y) && (reply_number x == reply_number y)) (all_pairs same_found (found_of x) (found_of y)) h in
    let d : ((reply_kind x == reply_kind y) ≡ true) × ((reply_number x == reply_number y) ≡ true) = and_both (reply_kind x == reply_kind y) (reply_number x == reply_number y) b.0 in
    let kind : reply_kind x ≡ reply_kind y = same_number (reply_kind x) (reply_kind y) d.0 in
    let number : reply_number x ≡ reply_number y = same_number (reply_number x) (reply_number y) d.1 in
    let found : found_of x ≡ found_of y = all_found (found_of x) (found_of y) b.1 in
    let parts : made_of (reply_kind x) (reply_number x) (found_of x) ≡ made_of (reply_kind y) (reply_number y) (found_of y) = λ i. made_of (kind i) (number i) (found i) in
    sym (made_again x) ∙ parts ∙ made_again y

reply_again : (x : Reply) → same_reply x x ≡ true
unfolding same_reply
reply_again x =
    both_and ((reply_kind x == reply_kind x) && (reply_number x == reply_number x)) (all_pairs same_found (found_of x) (found_of x)) (both_and (reply_kind x == reply_kind x) (reply_number x == reply_number x) (number_same (reply_kind x) (reply_kind x) refl) (number_same (reply_number x) (reply_number x) refl)) (found_again (found_of x))

some_reply : (o : Option Reply) (r : Reply) → is_reply o r ≡ true → o ≡ Some r
unfolding is_reply
some_reply None r h = cc
some_reply (Some x) r h = ap Some (one_reply x r h)

reply_some : (o : Option Reply) (r : Reply) → o ≡ Some r → is_reply o r ≡ true
unfolding is_reply
reply_some o r h = let P : Option Reply → Type 0 = λ x. is_reply x r ≡ true in subst P (sym h) (reply_again r)

pub said_so : (state : State) (ask : Ask) (answer : Answer) → is_said state ask answer ≡ true → IsSaid state ask answer
unfolding is_said
said_so state (asks.Update u) (answers.Update reply) h = some_reply (said state u.client u.number) reply h
said_so state (asks.Read mode object) (answers.Read version value) h = one_found (object_of state.objects object.key) (version, value) h
said_so state (asks.Update u) (answers.Read version value) h = cc
said_so state (asks.Read mode object) (answers.Update reply) h = cc

pub so_said : (state : State) (ask : Ask) (answer : Answer) → IsSaid state ask answer → is_said state ask answer ≡ true
unfolding is_said
so_said state (asks.Update u) (answers.Update reply) h = reply_some (said state u.client u.number) reply h
so_said state (asks.Read mode object) (answers.Read version value) h = found_one (object_of state.objects object.key) (version, value) h
so_said state (asks.Update u) (answers.Read version value) h = absurd h
so_said state (asks.Read mode object) (answers.Update reply) h = absurd h

-- ---- along the updates

pub said_at : (ask_at : AskOf) (xs : List Placed) (state : State) (count : ℕ) (us : List Update) → are_said ask_at xs state count us ≡ true → (n k : ℕ) → n ≤ length us → count + n ≡ k → list_all (is_said_here ask_at (after_from state (take n us)) k) xs ≡ true
unfolding are_said
said_at ask_at xs state count [] h zero k low e =
    let P : ℕ → Type 0 = λ j. list_all (is_said_here ask_at state j) xs ≡ true in
    let here : count ≡ k = omega (arith, e) in
    subst P here h
said_at ask_at xs state count [] h (suc n) k low e = let bad : ⊥ = omega (arith, low) in absurd bad
said_at ask_at xs state count (u ∷ us) h zero k low e =
    let P : ℕ → Type 0 = λ j. list_all (is_said_here ask_at state j) xs ≡ true in
    let here : count ≡ k = omega (arith, e) in
    subst P here (and_both (list_all (is_said_here ask_at state count) xs) (are_said ask_at xs (apply state u) (count + 1) us) h).0
said_at ask_at xs state count (u ∷ us) h (suc n) k low e =
    said_at ask_at xs (apply state u) (count + 1) us (and_both (list_all (is_said_here ask_at state count) xs) (are_said ask_at xs (apply state u) (count + 1) us) h).1 n k (omega (arith, low)) (omega (arith, e))

pub at_said : (ask_at : AskOf) (xs : List Placed) (state : State) (count : ℕ) (us : List Update) → ((n k : ℕ) → n ≤ length us → count + n ≡ k → list_all (is_said_here ask_at (after_from state (take n us)) k) xs ≡ true) → are_said ask_at xs state count us ≡ true
unfolding are_said
at_said ask_at xs state count [] f = f 0 count (omega arith) (omega arith)
at_said ask_at xs state count (u ∷ us) f =
    both_and (list_all (is_said_here ask_at state count) xs) (are_said ask_at xs (apply state u) (count + 1) us)
    (f 0 count (omega arith) (omega arith))
    (at_said ask_at xs (apply state u) (count + 1) us (λ n k low e. f (suc n) k (omega (arith, low)) (omega (arith, e))))

-- ---- new numbers

unsaid : (found : Option Reply) (old : Bool) (stale : Reply) → (not (is_some found) && not old) ≡ not (is_some (if old then Some stale else found))
unsaid None true stale = refl
unsaid None false stale = refl
unsaid (Some x) true stale = refl
unsaid (Some x) false stale = refl

-- exactly a new number has no kept reply
pub new_is_unsaid : (w : Window) (number : ℕ) → is_new w number ≡ not (is_some (said_of w number))
unfolding is_new said_of
new_is_unsaid w number = unsaid (at_number w number) (is_stale w number) (Stale (largest w))
