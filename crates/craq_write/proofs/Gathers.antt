-- Gathering the parts of a state.
use Rattle.std.proofs.Common.{◌≡◌, eq-eqb, ℕ, ◌+◌, ◌≤◌, Bool, true, false, cond, List, [], length, Option, None, Some, is_some, refl, sym, ap, subst, ◌∙◌, arith}
use Rattle.std.proofs.lemmas.Bool.{cond-false}
use Rattle.std.proofs.lemmas.Bool.Decides.{nat_tests}
use Rattle.std.specs.List.{list_all}
use Rattle.std.specs.Prelude.{◌==◌, ◌||◌, not, IsSome, T, nat_le, nat_lt, if◌then◌else◌}
use Rattle.std.specs.Ordering.{nat_cmp, eq_by_cmp}
use Rattle.std.specs.Cmp.{unsigned_ties, nat_cmp_total}
use Rattle.std.specs.FinMap.Entries.{is_sorted, length-put}
use Rattle.craq_names.specs.Maps.{at_number, put_number}
use Rattle.craq_commands.specs.declared.state.State.{State}
use Rattle.craq_history.specs.declared.change.Change.{Change}
use Rattle.craq_history.specs.declared.change.GatheringChange.TheVariants.{Stays, Gains, Dropped}
use Rattle.craq_history.specs.declared.change.HistoryChange.{HistoryChange}
use Rattle.craq_history.specs.Change.{gathering_by, no_change}
use Rattle.craq_history.specs.Effects.{IsApart, IsEffectOf}
use Rattle.craq_model.specs.declared.gathering.Gathering.{Gathering}
use Rattle.craq_model.specs.declared.message.StatePart.{StatePart}
use Rattle.craq_model.specs.declared.step.Step.{Step}
use Rattle.craq_model.specs.declared.step.Why.TheVariants.{AlreadyHave, TooFar}
use Rattle.craq_model.specs.Parts.{gathered_position, gathering_for, is_in_order, is_whole, joined_state, new_gathering, with_part}
use Rattle.craq_model.specs.Deliveries.{gathered_transition, gathering_transition, is_outdated, with_copy}
use Rattle.craq_model.specs.Plain.{Plain, length_of}
use Rattle.craq_model.specs.Settle.{Transition, readiness_transition, transition_ignoring, without_reached}
use Rattle.craq_write.specs.Gathered.{AreInOrder, IsInOrder, gathering_at, is_beside}
use Rattle.std.proofs.lemmas.List.Elements.{All-from_recursion}

-- the code's equality of numbers is the one by which maps are searched
pub same_numbers : (x y : ℕ) → (x == y) ≡ eq_by_cmp nat_cmp x y
same_numbers x y = unsigned_ties x y

dropped_or_not : (b : Bool) (p : Plain) → (if b then record p { gathering = None } else p) ≡ record p { gathering = gathering_by (if b then Dropped else Stays) p.gathering }
dropped_or_not true p = refl
dropped_or_not false p = refl

-- the node without a gathering whose position it has reached
pub without_reached_is : (p : Plain) → without_reached p ≡ record p { gathering = gathering_by (gathering_at p.gathering (length_of p)) p.gathering }
unfolding without_reached
without_reached_is p = dropped_or_not (nat_le (gathered_position p.gathering) (length_of p)) p

apart_or_not : (b : Bool) (h : HistoryChange) → IsApart (if b then Dropped else Stays) h
apart_or_not true h = tt
apart_or_not false h = tt

pub apart : (g : Option Gathering) (count : ℕ) (h : HistoryChange) → IsApart (gathering_at g count) h
apart g count h = apart_or_not (nat_le (gathered_position g) count) h

-- inserting one more part
pub one_more : (parts : List (ℕ × State)) (n : ℕ) (s : State) → T (is_sorted nat_cmp parts) → is_some (at_number parts n) ≡ false → length (put_number parts n s) ≡ length parts + 1
one_more parts n s rise none = length-put nat_cmp nat_cmp_total n s parts rise ∙ ap (λ b. cond b (length parts) (length parts + 1)) none

-- a part that is not outdated belongs to the state that is gathered then
pub gathering_position : (g : Option Gathering) (part : StatePart) → nat_lt part.position (gathered_position g) ≡ false → (gathering_for part g).position ≡ part.position
gathering_position None part h = refl
gathering_position (Some g) part h =
    let le : g.position ≤ part.position = grind (arith, nat_tests, h) in
    elim (nat_lt g.position part.position) as (λ b. nat_lt g.position part.position ≡ b → (if b then new_gathering part else g).position ≡ part.position) [
      | true ↦ λ e. refl
      | false ↦ λ e. same g.position part.position le e
    ] refl
  where
    same : (m n : ℕ) → m ≤ n → nat_lt m n ≡ false → m ≡ n
    same m n le e = grind (arith, nat_tests, le, e)

pub is_current : (p : Plain) (part : StatePart) → is_outdated p part ≡ false → (gathering_for part p.gathering).position ≡ part.position
is_current p part h = gathering_position p.gathering part (second (nat_le part.position (length_of p)) (nat_lt part.position (gathered_position p.gathering)) h)
  where
    second : (a b : Bool) → (a || b) ≡ false → b ≡ false
    second true b e = absurd cc
    second false b e = e

pub none_in_order : AreInOrder []
none_in_order = record { numbers = tt; states = All-from_recursion (λ (held : ℕ × State). IsInOrder held.1) [] tt }

-- the last missing part completes the state
pub completes : (p : Plain) (g : Gathering) (part : StatePart) (parts : List (ℕ × State)) (count : ℕ) (state : State) → parts ≡ g.parts → count ≡ g.count → g.position ≡ part.position → T (is_sorted nat_cmp parts)
    → is_some (at_number parts part.number) ≡ false → (length parts + 1 == count) ≡ true → state ≡ joined_state (put_number parts part.number part.state)
    → gathered_transition p (with_part g part) ≡ readiness_transition (with_copy p part.position state)
completes p g part parts count state same total at rise none whole is =
    let rising : T (is_sorted nat_cmp g.parts) = subst (λ (l : List (ℕ × State)). T (is_sorted nat_cmp l)) same rise in
    let absent : is_some (at_number g.parts part.number) ≡ false = ap (λ (l : List (ℕ × State)). is_some (at_number l part.number)) (sym same) ∙ none in
    let all : (length g.parts + 1 == g.count) ≡ true = ap (λ (l : List (ℕ × State)). length l + 1 == g.count) (sym same) ∙ ap (λ n. length parts + 1 == n) (sym total) ∙ whole in
    let joined : state ≡ joined_state (put_number g.parts part.number part.state) = is ∙ ap (λ (l : List (ℕ × State)). joined_state (put_number l part.number part.state)) same in
    rw (one_more g.parts part.number part.state rising absent, all, at, joined) refl

-- one more part is kept, and some are still missing
pub gains : (p : Plain) (part : StatePart) (parts : List (ℕ × State)) (count : ℕ) (c : Change) (s : Step) → parts ≡ (gathering_for part p.gathering).parts → count ≡ (gathering_for part p.gathering).count
    → T (is_sorted nat_cmp parts) → is_some (at_number parts part.number) ≡ false → (length parts + 1 == count) ≡ false → c ≡ record no_change { gathering = Gains part }
    → s ≡ record { ticket = None; outs = []; ignored = None } → IsEffectOf p (c, s) (gathered_transition p (with_part (gathering_for part p.gathering) part))
gains p part parts count c s same total rise none missing is st =
    let g = gathering_for part p.gathering in
    let rising : T (is_sorted nat_cmp g.parts) = subst (λ (l : List (ℕ × State)). T (is_sorted nat_cmp l)) same rise in
    let absent : is_some (at_number g.parts part.number) ≡ false = ap (λ (l : List (ℕ × State)). is_some (at_number l part.number)) (sym same) ∙ none in
    let some : (length g.parts + 1 == g.count) ≡ false = ap (λ (l : List (ℕ × State)). length l + 1 == g.count) (sym same) ∙ ap (λ n. length parts + 1 == n) (sym total) ∙ missing in
    let waits : gathered_transition p (with_part g part) ≡ (record p { gathering = Some (with_part g part) }, record { ticket = None; outs = []; ignored = None }) =
    gathers_on p (with_part g part) (rw (one_more g.parts part.number part.state rising absent) some)
    in
    let ready : (p.ready || false) ≡ p.ready = no_other p.ready in
    record {
      is = waits ∙ rw (is, st, ready) refl;
      can = rw is (record { ticket = λ t. absurd cc; position = tt; apart = refl });
      still = λ h. let none : false ≡ true = subst (λ (x : Step). IsSome x.ignored) st h in absurd cc;
    }
  where
    no_other : (b : Bool) → (b || false) ≡ b
    no_other true = refl
    no_other false = refl

    gathers_on : (p : Plain) (g : Gathering) → is_whole g ≡ false → gathered_transition p g ≡ (record p { gathering = Some g }, record { ticket = None; outs = []; ignored = None })
    gathers_on p g e = rw e refl

-- a part that fits is kept
pub fits : (p : Plain) (g : Gathering) (part : StatePart) (parts : List (ℕ × State)) (count : ℕ) → parts ≡ g.parts → count ≡ g.count → part.count ≡ count → is_some (at_number parts part.number) ≡ false
    → list_all (is_beside part) parts ≡ true → gathering_transition p g part ≡ gathered_transition p (with_part g part)
unfolding is_in_order
fits p g part parts count same total counted none between =
    let after : Transition = gathered_transition p (with_part g part) in
    let ordered : Transition = if not (is_in_order g part) then transition_ignoring p TooFar else after in
    let new : Transition = if is_some (at_number g.parts part.number) then transition_ignoring p AlreadyHave else ordered in
    cond-false (not (part.count == g.count)) (transition_ignoring p TooFar) new (ap not (eq-eqb part.count g.count (counted ∙ total)))
    ∙ cond-false (is_some (at_number g.parts part.number)) (transition_ignoring p AlreadyHave) ordered (ap (λ (l : List (ℕ × State)). is_some (at_number l part.number)) (sym same) ∙ none)
    ∙ cond-false (not (is_in_order g part)) (transition_ignoring p TooFar) after (ap not (ap (list_all (is_beside part)) (sym same) ∙ between))
