-- The parts of a state that a node gathers, and the state once no part is missing.
use Rattle.std.proofs.Common.{◌≡◌, ◌<◌, ◌≤◌, ℕ, zero, suc, ◌+◌, ◌-◌, ◌*◌, nat_lt, Bool, true, false, ◌&&◌, T, List, [], ◌∷◌, map, length, take, Option, Some, None, refl, sym, ap, subst, ◌∙◌, arith}
use Rattle.std.proofs.lemmas.Bool.{cond_both, ltb-false}
use Rattle.std.specs.List.{AllByRecursion, range_with_len}
use Rattle.std.specs.Ordering.{nat_cmp, is_lt}
use Rattle.std.specs.Cmp.{ranked, nat_cmp_total}
use Rattle.std.specs.declared.cmp.Ordering.TheVariants.{Less, Equal, Greater}
use Rattle.std.specs.FinMap.Entries.{by_order, below_all, is_sorted, is_sorted-put}
use Rattle.craq_names.specs.Maps.{put_number}
use Rattle.craq_names.proofs.Lists.{all_like}
use Rattle.craq_names.proofs.Numbers.{less_of}
use Rattle.craq_commands.specs.declared.entry.Entry.{Entry}
use Rattle.craq_commands.specs.declared.state.State.{State}
use Rattle.craq_commands.specs.SingleCopy.{opening_state, after_entries}
use Rattle.craq_model.specs.declared.gathering.Gathering.{Gathering}
use Rattle.craq_model.specs.declared.message.StatePart.{StatePart}
use Rattle.craq_model.specs.Parts.{share, part_count, part_of, parts_of, gathered_position, new_gathering, gathering_for, with_part, joined_state}
use Rattle.craq_protocol.specs.Machine as machine
use Rattle.craq_protocol.specs.Machine.{MachineState, Message}
use Rattle.craq_protocol.specs.Promises.{IsPrefix, IsReached, IsSafe}
use Rattle.craq_protocol.proofs.Prefix.{prefix_is_take}
use Rattle.craq_protocol.proofs.Reached.{reached_safe}
use Rattle.craq_laws.proofs.Parts.{parts_joined}
use Rattle.craq_refinement.specs.Follows.{said, PartFollows, PartWasSent, held_part, IsGathered, AreGathered}

first : (a b : Bool) → T (a && b) → T a
first true b p = tt
first false b p = absurd p

second : (a b : Bool) → T (a && b) → T b
second true b p = p
second false b p = absurd p

-- the parts held, by number
abbrev pub Held : Type 0
Held = List (ℕ × State)

abbrev AreAbove : ℕ → Held → Type 0
AreAbove n hs = AllByRecursion (λ (h : ℕ × State). n < h.0) hs

all_above : (n : ℕ) (hs : Held) → T (below_all nat_cmp n hs) → AreAbove n hs
all_above n [] b = tt
all_above n (h ∷ hs) b = (less_of n h.0 (first (is_lt (nat_cmp n h.0)) (below_all nat_cmp n hs) b), all_above n hs (second (is_lt (nat_cmp n h.0)) (below_all nat_cmp n hs) b))

-- the part of a number
abbrev pub numbered : State → ℕ → ℕ × State
numbered s i = (i, share s (64 * (i - 1)) (64 * i))

-- one of the parts from this number to that one
pub record IsPartOf (s : State) (from to : ℕ) (h : ℕ × State) : Type 0 where
  pub low : from ≤ h.0
  pub high : h.0 < to
  pub is : share s (64 * (h.0 - 1)) (64 * h.0) ≡ h.1

no_gap : (s : State) (n a k : ℕ) → n < a + suc k → AreAbove n (map (numbered s) (range_with_len (a + 1) k)) → n ≤ a
no_gap s n a zero high above = omega (arith, high)
no_gap s n a (suc k) high above = omega (arith, above.0)

-- if there are as many parts with ascending numbers as there are numbers, each number has its part
all_parts : (s : State) (hs : Held) (a k : ℕ) → length hs ≡ k → AllByRecursion (IsPartOf s a (a + k)) hs → T (is_sorted nat_cmp hs) → hs ≡ map (numbered s) (range_with_len a k)
all_parts s [] a zero len is rises = refl
all_parts s [] a (suc k) len is rises = absurd (omega (arith, len))
all_parts s (h ∷ hs) a zero len is rises = absurd (omega (arith, len))
all_parts s (h ∷ hs) a (suc k) len is rises =
    let above : AreAbove h.0 hs = all_above h.0 hs (first (below_all nat_cmp h.0 hs) (is_sorted nat_cmp hs) rises) in
    let later : AllByRecursion (IsPartOf s (a + 1) (a + 1 + k)) hs = both hs (omega (arith, is.0.low)) above is.1 in
    let rest : hs ≡ map (numbered s) (range_with_len (a + 1) k) = all_parts s hs (a + 1) k (omega (arith, len)) later (second (below_all nat_cmp h.0 hs) (is_sorted nat_cmp hs) rises) in
    let same : h.0 ≡ a = let le : h.0 ≤ a = no_gap s h.0 a k is.0.high (subst (AreAbove h.0) rest above) in omega (arith, le, is.0.low) in
    let here : h ≡ numbered s h.0 = λ i. (h.0, sym is.0.is i) in
    λ i. (here ∙ ap (numbered s) same) i ∷ rest i
  where
    both : (l : Held) → a ≤ h.0 → AreAbove h.0 l → AllByRecursion (IsPartOf s a (a + suc k)) l → AllByRecursion (IsPartOf s (a + 1) (a + 1 + k)) l
    both [] low above is = tt
    both (x ∷ l) low above is = (record { low = omega (arith, above.0, low); high = omega (arith, is.0.high); is = is.0.is }, both l low above.1 is.1)

numbered_parts : (position : ℕ) (s : State) (is : List ℕ) → map (numbered s) is ≡ map (λ (p : StatePart). (p.number, p.state)) (map (part_of position s) is)
numbered_parts position s [] = refl
numbered_parts position s (i ∷ is) = ap (λ (l : Held). numbered s i ∷ l) (numbered_parts position s is)

-- the parts together are the state
pub parts_are_state : (position : ℕ) (s : State) (hs : Held) → length hs ≡ part_count s → AllByRecursion (IsPartOf s 1 (1 + part_count s)) hs → T (is_sorted nat_cmp hs) → joined_state hs ≡ s
unfolding parts_of
parts_are_state position s hs len is rises =
    ap joined_state (all_parts s hs 1 (part_count s) len is rises ∙ numbered_parts position s (range_with_len 1 (part_count s))) ∙ parts_joined position s

-- ---- sent messages

-- the entries of a copy are the first that are committed
pub copied_entries : {w : MachineState Entry} → IsReached w → (epoch from to : ℕ) (part : StatePart) (f : PartFollows w.messages epoch from to part) → f.entries ≡ take part.position w.log
copied_entries {w} r epoch from to part f =
    let s : IsSafe w = reached_safe r in
    let p : IsPrefix f.entries w.log = s.copy (said epoch from to (machine.Copy f.entries)) f.entries f.sent refl in
    sym (prefix_is_take p) ∙ ap (λ n. take n w.log) f.count

-- so a part that was sent is a part of the state after the first committed entries
pub part_is : {w : MachineState Entry} → IsReached w → (epoch from to : ℕ) (part : StatePart) → PartFollows w.messages epoch from to part
    → part_of part.position (after_entries opening_state (take part.position w.log)) part.number ≡ part
part_is {w} r epoch from to part f = ap (λ es. part_of part.position (after_entries opening_state es) part.number) (sym (copied_entries r epoch from to part f)) ∙ f.share

-- the state that is gathered
abbrev pub gathered_state : MachineState Entry → Gathering → State
gathered_state w g = after_entries opening_state (take g.position w.log)

held_is : {w : MachineState Entry} → IsReached w → (g : Gathering) → g.count ≡ part_count (gathered_state w g) → (h : ℕ × State) → PartWasSent w.messages (held_part g h)
    → IsPartOf (gathered_state w g) 1 (1 + part_count (gathered_state w g)) h
held_is {w} r g count h f = record {
  low = f.3.first;
  high = omega (arith, f.3.last, count);
  is = ap (λ (p : StatePart). p.state) (part_is r f.0 f.1 f.2 (held_part g h) f.3);
}

-- a complete gathering is the state
pub whole_state : {w : MachineState Entry} → IsReached w → (g : Gathering) → IsGathered w.messages g → g.count ≡ part_count (gathered_state w g) → length g.parts ≡ g.count → joined_state g.parts ≡ gathered_state w g
whole_state {w} r g i count all =
    parts_are_state g.position (gathered_state w g) g.parts (all ∙ count)
    (all_like (λ (h : ℕ × State). PartWasSent w.messages (held_part g h)) (IsPartOf (gathered_state w g) 1 (1 + part_count (gathered_state w g))) g.parts (held_is r g count) i.parts)
    i.numbers_rise

-- ---- one more part

all_put : (P : ℕ × State → Type 0) (hs : Held) (n : ℕ) (s : State) → P (n, s) → AllByRecursion P hs → AllByRecursion P (put_number hs n s)
all_put P [] n s p a = (p, tt)
all_put P (h ∷ hs) n s p a =
    elim (nat_cmp n h.0) as (λ o. o ≡ nat_cmp n h.0 → AllByRecursion P (by_order o ((n, s) ∷ h ∷ hs) ((h.0, s) ∷ hs) (h ∷ put_number hs n s))) [
      | Less ↦ λ e. (p, a)
      | Equal ↦ λ e. (subst (λ k. P (k, s)) (ranked n h.0 Equal e) p, a.1)
      | Greater ↦ λ e. (a.0, all_put P hs n s p a.1)
    ] refl

pub gathers : {messages : List (Message Entry)} (g : Gathering) (part : StatePart) → IsGathered messages g → part.position ≡ g.position → part.count ≡ g.count → PartWasSent messages part → IsGathered messages (with_part g part)
gathers {messages} g part i position count sent =
    let P : StatePart → Type 0 = λ p. PartWasSent messages p in
    let same : part ≡ held_part g (part.number, part.state) = λ j. record { position = position j; number = part.number; count = count j; state = part.state } in
    record {
      numbers_rise = is_sorted-put nat_cmp nat_cmp_total part.number part.state g.parts i.numbers_rise;
      parts = all_put (λ (h : ℕ × State). PartWasSent messages (held_part g h)) g.parts part.number part.state (subst P same sent) i.parts;
    }

-- the gathering of a part has the part's position
pub gathered_at : (part : StatePart) (o : Option Gathering) → nat_lt part.position (gathered_position o) ≡ false → part.position ≡ (gathering_for part o).position
gathered_at part None h = refl
gathered_at part (Some g) h =
    cond_both (nat_lt g.position part.position) (new_gathering part) g (λ (x : Gathering). part.position ≡ x.position)
    (λ e. refl)
    (λ e.
    let up : g.position ≤ part.position = ltb-false part.position g.position h in
    let down : part.position ≤ g.position = ltb-false g.position part.position e in
    omega (arith, up, down))

pub belongs : {messages : List (Message Entry)} (part : StatePart) (o : Option Gathering) → AreGathered messages o → IsGathered messages (gathering_for part o)
belongs part None a = record { numbers_rise = tt; parts = tt }
belongs {messages} part (Some g) a =
    cond_both (nat_lt g.position part.position) (new_gathering part) g (λ (x : Gathering). IsGathered messages x) (λ e. record { numbers_rise = tt; parts = tt }) (λ e. a)
