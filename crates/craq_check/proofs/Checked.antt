-- The tests decide whether an explanation is one of what was seen.
use Rattle.std.proofs.Common.{◌≡◌, ◌↔◌, ℕ, zero, suc, ◌+◌, ◌-◌, ◌<◌, ◌≤◌, add-one, Bool, true, length, List, [], ◌∷◌, Option, Some, None, refl, sym, subst, arith}
use Rattle.std.specs.Prelude.{◌==◌, nat_le, ◌&&◌, slice_index}
use Rattle.std.specs.List.{list_all, AllZip}
use Rattle.craq_commands.specs.declared.state.State.{State}
use Rattle.craq_commands.specs.SingleCopy.{opening_state}
use Rattle.craq_commands.specs.declared.command.Update.{Update}
use Rattle.craq_runs.specs.declared.explanation.Explanation.{Explanation}
use Rattle.craq_runs.specs.declared.explanation.Place.{Place}
use Rattle.craq_runs.specs.Seen.{Seen, Asked, Answered, ask_of, ask_with, update_at, strong_answers}
use Rattle.craq_runs.specs.Valid.{committed, committed_after, state_at, same_request, same_name, HasForm, OnlyGrows, IsExplained, StrongHold, IsChecked}
use Rattle.craq_check.specs.Tests.{Placed, stand_once, all_pairs, is_named, never_fall, asked_in_time, is_in_time, are_in_time, is_said_to, is_said_here, placed, are_said, has_form, only_grows, strong_by, strong_hold, is_checked_by, is_checked}
use Rattle.craq_check.proofs.Bools.{and_both, both_and, only_if, if_so}
use Rattle.craq_check.proofs.Lists.{same_number, number_same, at_most, most_at, distinct, once, named, names, all_kept, kept_all, rises, risen, last_highest, asked_by, by_asked}
use Rattle.craq_check.proofs.Said.{said_so, so_said, said_at, at_said}

-- ---- the form

form_holds : (s : Seen) (e : Explanation) → has_form s.moves (strong_answers s) (committed s e) e ≡ true → HasForm s e
unfolding has_form
form_holds s e h =
    let all : Bool = length (committed s e) == length e.asks in
    let lens : Bool = length e.lens == s.moves in
    let places : Bool = all_pairs is_named (strong_answers s) e.places in
    let b : ((all && lens) ≡ true) × (places ≡ true) = and_both (all && lens) places h in
    let d : (all ≡ true) × (lens ≡ true) = and_both all lens b.0 in
    record {
      asks = all_kept (update_at s.asks) e.asks (same_number (length (committed s e)) (length e.asks) d.0);
      lens = same_number (length e.lens) s.moves d.1;
      places = named (strong_answers s) e.places b.1;
    }

form_met : (s : Seen) (e : Explanation) → HasForm s e → has_form s.moves (strong_answers s) (committed s e) e ≡ true
unfolding has_form
form_met s e f =
    let all : Bool = length (committed s e) == length e.asks in
    let lens : Bool = length e.lens == s.moves in
    let places : Bool = all_pairs is_named (strong_answers s) e.places in
    both_and (all && lens) places
    (both_and all lens (number_same (length (committed s e)) (length e.asks) (kept_all (update_at s.asks) e.asks f.asks)) (number_same (length e.lens) s.moves f.lens))
    (names (strong_answers s) e.places f.places)

-- ---- the list

asked_at : (numbers lens : List ℕ) → asked_in_time numbers 1 lens ≡ true → (move place : ℕ) → place < slice_index (0 ∷ lens) move → slice_index numbers place ≤ move
asked_at numbers lens h zero place low = omega (arith, low)
asked_at numbers lens h (suc k) place low = let by : slice_index numbers place ≤ 1 + k = asked_by numbers 1 lens h k place low in omega (arith, by)

-- the parts of the test
record ListTests (moves : ℕ) (us : List Update) (e : Explanation) : Type 0 where
  falls : never_fall 0 e.lens ≡ true
  ends : slice_index (0 ∷ e.lens) moves ≡ length us
  asked : asked_in_time e.asks 1 e.lens ≡ true
  once : stand_once same_request us ≡ true

list_tests : (moves : ℕ) (us : List Update) (e : Explanation) → only_grows moves us e ≡ true → ListTests moves us e
unfolding only_grows
list_tests moves us e h =
    let falls : Bool = never_fall 0 e.lens in
    let ends : Bool = slice_index (0 ∷ e.lens) moves == length us in
    let asked : Bool = asked_in_time e.asks 1 e.lens in
    let single : Bool = stand_once same_request us in
    let b : ((falls && ends && asked) ≡ true) × (single ≡ true) = and_both (falls && ends && asked) single h in
    let d : ((falls && ends) ≡ true) × (asked ≡ true) = and_both (falls && ends) asked b.0 in
    let f : (falls ≡ true) × (ends ≡ true) = and_both falls ends d.0 in
    record { falls = f.0; ends = same_number (slice_index (0 ∷ e.lens) moves) (length us) f.1; asked = d.1; once = b.1 }

list_holds : (s : Seen) (e : Explanation) → length e.lens ≡ s.moves → ListTests s.moves (committed s e) e → OnlyGrows s e
list_holds s e len t =
    record {
      grows = λ move low.
          let P : ℕ → Type 0 = λ k. slice_index (0 ∷ e.lens) move ≤ slice_index (0 ∷ e.lens) k in
          let short : move < length e.lens = omega (arith, low, len) in
          subst P (sym (add-one move)) (rises 0 e.lens t.falls move short);
      ends = t.ends;
      asked = asked_at e.asks e.lens t.asked;
      once = distinct same_request (committed s e) t.once;
    }

list_met : (s : Seen) (e : Explanation) → length e.lens ≡ s.moves → OnlyGrows s e → only_grows s.moves (committed s e) e ≡ true
unfolding only_grows
list_met s e len g =
    let us : List Update = committed s e in
    let falls : Bool = never_fall 0 e.lens in
    let ends : Bool = slice_index (0 ∷ e.lens) s.moves == length us in
    let asked : Bool = asked_in_time e.asks 1 e.lens in
    let single : Bool = stand_once same_request us in
    let rising : (k : ℕ) → k < length e.lens → slice_index (0 ∷ e.lens) k ≤ slice_index e.lens k = λ k low.
    let P : ℕ → Type 0 = λ j. slice_index (0 ∷ e.lens) k ≤ slice_index (0 ∷ e.lens) j in
    let short : k < s.moves = omega (arith, low, len) in
    subst P (add-one k) (g.grows k short)
    in
    let timely : (k place : ℕ) → place < slice_index e.lens k → slice_index e.asks place ≤ 1 + k = λ k place low.
    let by : slice_index e.asks place ≤ suc k = g.asked (suc k) place low in omega (arith, by)
    in
    both_and (falls && ends && asked) single
    (both_and (falls && ends) asked (both_and falls ends (risen 0 e.lens rising) (number_same (slice_index (0 ∷ e.lens) s.moves) (length us) g.ends)) (by_asked e.asks 1 e.lens timely))
    (once same_request us g.once)

-- no more is committed after a move than at the end
none_above : (s : Seen) (e : Explanation) → length e.lens ≡ s.moves → ListTests s.moves (committed s e) e → (move : ℕ) → committed_after e move ≤ length (committed s e)
none_above s e len t move =
    let most : slice_index (0 ∷ e.lens) move ≤ slice_index (0 ∷ e.lens) (length e.lens) = last_highest 0 e.lens t.falls move in
    let P : ℕ → Type 0 = λ n. slice_index (0 ∷ e.lens) move ≤ slice_index (0 ∷ e.lens) n in
    let Q : ℕ → Type 0 = λ n. slice_index (0 ∷ e.lens) move ≤ n in
    subst Q t.ends (subst P len most)

-- ---- strong replies

explain_one : (s : Seen) (e : Explanation) (a : Answered) (p : Place) (o : Option Asked) → ask_of s.asks a ≡ o → is_in_time e.lens a p o ≡ true → ((n : ℕ) → n ≤ length (committed s e) → is_said_here (ask_with s.asks) (state_at s e n) n (a, p.position) ≡ true) → ((move : ℕ) → committed_after e move ≤ length (committed s e)) → IsExplained s e a p
unfolding is_said_here
explain_one s e a p None q t f bound = let bad : ⊥ = cc in absurd bad
explain_one s e a p (Some ask) q t f bound =
    let first : Bool = nat_le ask.move a.move in
    let before : Bool = nat_le (slice_index (0 ∷ e.lens) (ask.move - 1)) p.position in
    let beyond : Bool = nat_le p.position (slice_index (0 ∷ e.lens) a.move) in
    let b : ((first && before) ≡ true) × (beyond ≡ true) = and_both (first && before) beyond t in
    let d : (first ≡ true) × (before ≡ true) = and_both first before b.0 in
    let not_beyond : p.position ≤ committed_after e a.move = at_most p.position (slice_index (0 ∷ e.lens) a.move) b.1 in
    let most : committed_after e a.move ≤ length (committed s e) = bound a.move in
    let low : p.position ≤ length (committed s e) = omega (arith, not_beyond, most) in
    let state : State = state_at s e p.position in
    let so : is_said_to state a (ask_of s.asks a) ≡ true = if_so (p.position == p.position) (is_said_to state a (ask_of s.asks a)) (f p.position low) (number_same p.position p.position refl) in
    let P : Option Asked → Type 0 = λ x. is_said_to state a x ≡ true in
    record {
      ask = ask;
      is_ask = q;
      asked_first = at_most ask.move a.move d.0;
      not_before = at_most (slice_index (0 ∷ e.lens) (ask.move - 1)) p.position d.1;
      not_beyond = not_beyond;
      is_said = said_so state ask.ask a.answer (subst P q so);
    }

-- the test that a place was reached in time
timed : Seen → Explanation → Answered → Place → Bool
timed s e a p = is_in_time e.lens a p (ask_of s.asks a)

explain_all : (s : Seen) (e : Explanation) (xs : List Answered) (ps : List Place) → all_pairs (timed s e) xs ps ≡ true → ((n : ℕ) → n ≤ length (committed s e) → list_all (is_said_here (ask_with s.asks) (state_at s e n) n) (placed xs ps) ≡ true) → ((move : ℕ) → committed_after e move ≤ length (committed s e)) → AllZip (IsExplained s e) xs ps
unfolding all_pairs placed timed
explain_all s e [] [] t f bound = tt
explain_all s e [] (p ∷ ps) t f bound = cc
explain_all s e (a ∷ xs) [] t f bound = cc
explain_all s e (a ∷ xs) (p ∷ ps) t f bound =
    let b : (timed s e a p ≡ true) × (all_pairs (timed s e) xs ps ≡ true) = and_both (timed s e a p) (all_pairs (timed s e) xs ps) t in (
      explain_one s e a p (ask_of s.asks a) refl b.0 (λ n low. (and_both (is_said_here (ask_with s.asks) (state_at s e n) n (a, p.position)) (list_all (is_said_here (ask_with s.asks) (state_at s e n) n) (placed xs ps)) (f n low)).0) bound,
      explain_all s e xs ps b.1 (λ n low. (and_both (is_said_here (ask_with s.asks) (state_at s e n) n (a, p.position)) (list_all (is_said_here (ask_with s.asks) (state_at s e n) n) (placed xs ps)) (f n low)).1) bound,
    )

one_timed : (s : Seen) (e : Explanation) (a : Answered) (p : Place) → IsExplained s e a p → timed s e a p ≡ true
unfolding timed
one_timed s e a p x =
    let first : Bool = nat_le x.ask.move a.move in
    let before : Bool = nat_le (slice_index (0 ∷ e.lens) (x.ask.move - 1)) p.position in
    let beyond : Bool = nat_le p.position (slice_index (0 ∷ e.lens) a.move) in
    let P : Option Asked → Type 0 = λ o. is_in_time e.lens a p o ≡ true in
    subst P (sym x.is_ask)
    (both_and (first && before) beyond
    (both_and first before (most_at x.ask.move a.move x.asked_first) (most_at (slice_index (0 ∷ e.lens) (x.ask.move - 1)) p.position x.not_before))
    (most_at p.position (slice_index (0 ∷ e.lens) a.move) x.not_beyond))

one_said : (s : Seen) (e : Explanation) (n : ℕ) (a : Answered) (p : Place) → IsExplained s e a p → is_said_here (ask_with s.asks) (state_at s e n) n (a, p.position) ≡ true
unfolding is_said_here
one_said s e n a p x =
    only_if (p.position == n) (is_said_to (state_at s e n) a (ask_of s.asks a))
    (λ t.
    let here : p.position ≡ n = same_number p.position n t in
    let P : ℕ → Type 0 = λ k. is_said_to (state_at s e k) a (ask_of s.asks a) ≡ true in
    let Q : Option Asked → Type 0 = λ o. is_said_to (state_at s e p.position) a o ≡ true in
    subst P here (subst Q (sym x.is_ask) (so_said (state_at s e p.position) x.ask.ask a.answer x.is_said)))

pairs_met : {A B : Type 0} (test : A → B → Bool) (R : A → B → Type 0) → ((x : A) (y : B) → R x y → test x y ≡ true) → (xs : List A) (ys : List B) → AllZip R xs ys → all_pairs test xs ys ≡ true
unfolding all_pairs
pairs_met test R f [] [] h = refl
pairs_met test R f [] (y ∷ ys) h = absurd h
pairs_met test R f (x ∷ xs) [] h = absurd h
pairs_met test R f (x ∷ xs) (y ∷ ys) h = both_and (test x y) (all_pairs test xs ys) (f x y h.0) (pairs_met test R f xs ys h.1)

placed_met : (test : Placed → Bool) (R : Answered → Place → Type 0) → ((a : Answered) (p : Place) → R a p → test (a, p.position) ≡ true) → (xs : List Answered) (ps : List Place) → AllZip R xs ps → list_all test (placed xs ps) ≡ true
unfolding placed
placed_met test R f [] ps h = refl
placed_met test R f (a ∷ xs) [] h = refl
placed_met test R f (a ∷ xs) (p ∷ ps) h = both_and (test (a, p.position)) (list_all test (placed xs ps)) (f a p h.0) (placed_met test R f xs ps h.1)

strong_holds : (s : Seen) (e : Explanation) → ((move : ℕ) → committed_after e move ≤ length (committed s e)) → strong_hold (ask_with s.asks) (strong_answers s) (committed s e) e ≡ true → StrongHold s e
unfolding strong_hold are_in_time timed
strong_holds s e bound h =
    let xs : List Answered = strong_answers s in
    let us : List Update = committed s e in
    let single : Bool = stand_once same_name xs in
    let time : Bool = all_pairs (timed s e) xs e.places in
    let copy : Bool = are_said (ask_with s.asks) (placed xs e.places) opening_state 0 us in
    let b : ((single && time) ≡ true) × (copy ≡ true) = and_both (single && time) copy h in
    let d : (single ≡ true) × (time ≡ true) = and_both single time b.0 in
    record {
      explained = explain_all s e xs e.places d.1 (λ n low. said_at (ask_with s.asks) (placed xs e.places) opening_state 0 us b.1 n n low (omega arith)) bound;
      once = distinct same_name xs d.0;
    }

strong_met : (s : Seen) (e : Explanation) → StrongHold s e → strong_hold (ask_with s.asks) (strong_answers s) (committed s e) e ≡ true
unfolding strong_hold are_in_time timed
strong_met s e h =
    let xs : List Answered = strong_answers s in
    let us : List Update = committed s e in
    let single : Bool = stand_once same_name xs in
    let time : Bool = all_pairs (timed s e) xs e.places in
    let copy : Bool = are_said (ask_with s.asks) (placed xs e.places) opening_state 0 us in
    both_and (single && time) copy
    (both_and single time (once same_name xs h.once) (pairs_met (timed s e) (IsExplained s e) (one_timed s e) xs e.places h.explained))
    (at_said (ask_with s.asks) (placed xs e.places) opening_state 0 us (λ n k low at.
    let same : n ≡ k = omega (arith, at) in
    let P : ℕ → Type 0 = λ j. list_all (is_said_here (ask_with s.asks) (state_at s e n) j) (placed xs e.places) ≡ true in
    subst P same (placed_met (is_said_here (ask_with s.asks) (state_at s e n) n) (IsExplained s e) (one_said s e n) xs e.places h.explained)))

-- ---- the whole

holds : (s : Seen) (e : Explanation) → is_checked s e ≡ true → IsChecked s e
unfolding is_checked is_checked_by strong_by strong_answers
holds s e h =
    let form : Bool = has_form s.moves (strong_answers s) (committed s e) e in
    let list : Bool = only_grows s.moves (committed s e) e in
    let strong : Bool = strong_hold (ask_with s.asks) (strong_answers s) (committed s e) e in
    let b : ((form && list) ≡ true) × (strong ≡ true) = and_both (form && list) strong h in
    let d : (form ≡ true) × (list ≡ true) = and_both form list b.0 in
    let f : HasForm s e = form_holds s e d.0 in
    let t : ListTests s.moves (committed s e) e = list_tests s.moves (committed s e) e d.1 in
    record { form = f; list = list_holds s e f.lens t; strong = strong_holds s e (none_above s e f.lens t) b.1 }

met : (s : Seen) (e : Explanation) → IsChecked s e → is_checked s e ≡ true
unfolding is_checked is_checked_by strong_by strong_answers
met s e c =
    let form : Bool = has_form s.moves (strong_answers s) (committed s e) e in
    let list : Bool = only_grows s.moves (committed s e) e in
    let strong : Bool = strong_hold (ask_with s.asks) (strong_answers s) (committed s e) e in
    both_and (form && list) strong (both_and form list (form_met s e c.form) (list_met s e c.form.lens c.list)) (strong_met s e c.strong)

-- the tests decide
pub decides : (s : Seen) (e : Explanation) → (is_checked s e ≡ true) ↔ IsChecked s e
decides s e = (holds s e, met s e)
