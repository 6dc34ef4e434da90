-- The messages of a ready node to its unready successor, and the effect of each there.
use Rattle.std.proofs.Common.{◌≡◌, ◌⊎◌, inl, inr, ℕ, suc, ◌-◌, ◌<◌, ◌≤◌, ◌*◌, ◌==◌, nat_le, nat_lt, Bool, true, false, not, ◌||◌, ◌&&◌, cond, List, [], ◌++◌, Option, Some, None, is_some, refl, ap, sym, subst, ◌∙◌, arith}
use Rattle.std.proofs.lemmas.Bool.{cond_both, both_ways, eq-eqb, leb-true, le-leb, ltb-true, ltb-false, not-true}
use Rattle.std.specs.List.{AllByRecursion}
use Rattle.craq_names.specs.Maps.{at_number}
use Rattle.craq_commands.specs.declared.state.State.{State}
use Rattle.craq_model.specs.declared.gathering.Gathering.{Gathering}
use Rattle.craq_model.specs.declared.message.StatePart.{StatePart}
use Rattle.craq_model.specs.declared.step.Why.TheVariants.{NotNeighbour, AlreadyHave, TooFar}
use Rattle.craq_model.specs.Deliveries.{copy_transition, floor_transition, gathered_transition, gathering_transition, is_outdated, part_transition, with_copy}
use Rattle.craq_model.specs.Members.{is_id}
use Rattle.craq_model.specs.Parts.{gathered_position, gathering_for, is_in_order, is_whole, joined_state, new_gathering, share, with_part}
use Rattle.craq_model.specs.Plain.{Plain, is_tail, length_of, predecessor}
use Rattle.craq_model.specs.Sends.{tick_sends}
use Rattle.craq_model.specs.Settle.{Transition, all_committed, all_given, answer_outs, is_reached, readiness_transition, settling_transition, transition_ignoring, transition_with, without_reached}
use Rattle.craq_refinement.proofs.Gathered.{IsPartOf}
use Rattle.craq_recovery.proofs.Acks.{is_id_here}
use Rattle.craq_recovery.proofs.Entries.{readiness_length}
use Rattle.craq_recovery.proofs.Pieces.{Rises, in_order, put_here, put_keeps}
use Rattle.craq_recovery.proofs.Lines.{by_test, for_position}

either_way : (a b : Bool) (X : Type 0) → (a || b) ≡ true → (a ≡ true → X) → (b ≡ true → X) → X
either_way true b X o f g = f refl
either_way false b X o f g = g o

-- ---- a state

pub copy_reaches : (p : Plain) (sender position : ℕ) (state : State) → predecessor p ≡ Some sender → (p.ready ≡ true → position ≤ length_of p) → position ≤ length_of (copy_transition p sender position state).0
unfolding copy_transition
copy_reaches p sender position state pred ready =
    let P : Transition → Type 0 = λ t. position ≤ length_of t.0 in
    let q : Plain = with_copy p position state in
    let t1 : Transition = cond (p.ready || nat_le position (length_of p)) (transition_ignoring p AlreadyHave) (readiness_transition q) in
    cond_both (not (is_id (predecessor p) sender)) (transition_ignoring p NotNeighbour) t1 P
    (λ e. absurd (both_ways (is_id (predecessor p) sender) (not-true (is_id (predecessor p) sender) e) (is_id_here (predecessor p) sender pred)))
    (λ e. cond_both (p.ready || nat_le position (length_of p)) (transition_ignoring p AlreadyHave) (readiness_transition q) P
    (λ o. either_way p.ready (nat_le position (length_of p)) (position ≤ length_of p) o ready (λ l. leb-true position (length_of p) l))
    (λ o. let same : length_of (readiness_transition q).0 ≡ length_of q = readiness_length q in omega (arith, same)))

-- ---- the floor

settling_ready : (q : Plain) → q.ready ≡ true → (settling_transition q).0.ready ≡ true
unfolding settling_transition
settling_ready q r = by_test (is_tail q) (λ (t : Transition). t.0.ready ≡ true) (transition_with (all_committed q) (answer_outs (all_given q) ++ tick_sends (all_committed q))) (transition_with q (tick_sends q)) r r

readies : (q : Plain) → not q.ready ≡ true → is_reached q.floor (length_of q) ≡ true → (readiness_transition q).0.ready ≡ true
unfolding readiness_transition
readies q r f =
    let t1 : Transition = settling_transition (record q { ready = true; gathering = None }) in
    let t2 : Transition = transition_with (without_reached q) [] in
    let both : (not q.ready && is_reached q.floor (length_of q)) ≡ true = ap (λ x. x && is_reached q.floor (length_of q)) r ∙ f in
    cond_both (not q.ready && is_reached q.floor (length_of q)) t1 t2 (λ (t : Transition). t.0.ready ≡ true)
    (λ e. settling_ready (record q { ready = true; gathering = None }) refl)
    (λ e. absurd (both_ways (not q.ready && is_reached q.floor (length_of q)) e both))

-- a node that holds as many entries as the floor says is then ready
pub floor_readies : (p : Plain) (sender count : ℕ) → predecessor p ≡ Some sender → count ≤ length_of p → (floor_transition p sender count).0.ready ≡ true
unfolding floor_transition
floor_readies p sender count pred le =
    let P : Transition → Type 0 = λ t. t.0.ready ≡ true in
    let q : Plain = record p { floor = Some count } in
    let t1 : Transition = cond p.ready (transition_ignoring p AlreadyHave) (readiness_transition q) in
    cond_both (not (is_id (predecessor p) sender)) (transition_ignoring p NotNeighbour) t1 P
    (λ e. absurd (both_ways (is_id (predecessor p) sender) (not-true (is_id (predecessor p) sender) e) (is_id_here (predecessor p) sender pred)))
    (λ e. cond_both p.ready (transition_ignoring p AlreadyHave) (readiness_transition q) P
    (λ r. r)
    (λ r. readies q (ap not r) (le-leb count (length_of p) le)))

-- ---- parts

-- the part of this number is gathered, of the state after a position in this number of parts
pub record HasPart (position count number : ℕ) (o : Option Gathering) : Type 0 where
  pub gathering : Gathering
  pub is : o ≡ Some gathering
  pub at : gathering.position ≡ position
  pub of : gathering.count ≡ count
  pub has : is_some (at_number gathering.parts number) ≡ true

-- all parts up to a number are gathered
abbrev pub HasParts : ℕ → ℕ → ℕ → Option Gathering → Type 0
HasParts position count number o = (j : ℕ) → 1 ≤ j → j ≤ number → HasPart position count j o

-- nothing later is gathered
abbrev pub NoneLater : ℕ → Option Gathering → Type 0
NoneLater position o = (g : Gathering) → o ≡ Some g → g.position ≤ position

-- the node holds this number of entries, or gathers the state after them and has the parts up to
-- this number
abbrev pub HasTaken : ℕ → ℕ → ℕ → Plain → Type 0
HasTaken position count number p = (position ≤ length_of p) ⊎ (NoneLater position p.gathering × HasParts position count number p.gathering)

held_goes_on : (part : StatePart) (o : Option Gathering) (g : Gathering) → o ≡ Some g → g.position ≡ part.position → gathering_for part o ≡ g
held_goes_on part None g is at = absurd (cc)
held_goes_on part (Some k) g is at =
    let same : k ≡ g = cc in
    let P : Gathering → Type 0 = λ x. x.position ≡ part.position in
    let here : k.position ≡ part.position = subst P (sym same) at in
    cond_both (nat_lt k.position part.position) (new_gathering part) k (λ (x : Gathering). x ≡ g)
    (λ e. let lt : k.position < part.position = ltb-true k.position part.position e in absurd (omega (arith, lt, here)))
    (λ e. same)

pub for_count : (part : StatePart) (o : Option Gathering) → nat_lt part.position (gathered_position o) ≡ false → ((g : Gathering) → o ≡ Some g → g.position ≡ part.position → g.count ≡ part.count)
    → (gathering_for part o).count ≡ part.count
for_count part None late counts = refl
for_count part (Some g) late counts =
    cond_both (nat_lt g.position part.position) (new_gathering part) g (λ (x : Gathering). x.count ≡ part.count)
    (λ e. refl)
    (λ e. let a : part.position ≤ g.position = ltb-false g.position part.position e in let b : g.position ≤ part.position = ltb-false part.position g.position late in counts g refl (omega (arith, a, b)))

for_held : (part : StatePart) (n : ℕ) (o : Option Gathering) → is_some (at_number (gathering_for part o).parts n) ≡ true → o ≡ Some (gathering_for part o)
for_held part n None h = absurd (cc)
for_held part n (Some g) h =
    cond_both (nat_lt g.position part.position) (new_gathering part) g (λ (x : Gathering). is_some (at_number x.parts n) ≡ true → Some g ≡ Some x)
    (λ e h. absurd (cc))
    (λ e h. refl)
    h

pub none_later : (position n : ℕ) (o : Option Gathering) → NoneLater position o → nat_lt position (gathered_position o) ≡ false
none_later position n None a =
    cond_both (nat_lt position 0) true false (λ (b : Bool). nat_lt position 0 ≡ false)
    (λ e. let lt : position < 0 = ltb-true position 0 e in absurd (omega (arith, lt)))
    (λ e. e)
none_later position n (Some g) a =
    cond_both (nat_lt position g.position) true false (λ (b : Bool). nat_lt position g.position ≡ false)
    (λ e. let lt : position < g.position = ltb-true position g.position e in let le : g.position ≤ position = a g refl in absurd (omega (arith, lt, le)))
    (λ e. e)

-- a part joins those that are held
part_joins : (p : Plain) (g : Gathering) (part : StatePart) (i : ℕ) (s : State) (k : ℕ) → g.position ≡ part.position → g.count ≡ part.count → part.number ≡ suc i → NoneLater part.position p.gathering
    → Rises s → share s (64 * (part.number - 1)) (64 * part.number) ≡ part.state → AllByRecursion (IsPartOf s 1 k) g.parts
    → ((j : ℕ) → 1 ≤ j → j ≤ i → is_some (at_number g.parts j) ≡ true) → (is_some (at_number g.parts part.number) ≡ true → p.gathering ≡ Some g)
    → HasTaken part.position part.count (suc i) (gathering_transition p g part).0
part_joins p g part i s k at of number low rises own shares held same =
    let n : Gathering = with_part g part in
    let Q : Transition → Type 0 = λ t. HasTaken part.position part.count (suc i) t.0 in
    let t3 : Transition = gathered_transition p n in
    let t2 : Transition = cond (not (is_in_order g part)) (transition_ignoring p TooFar) t3 in
    let t1 : Transition = cond (is_some (at_number g.parts part.number)) (transition_ignoring p AlreadyHave) t2 in
    let q : Plain = with_copy p n.position (joined_state n.parts) in
    cond_both (not (part.count == g.count)) (transition_ignoring p TooFar) t1 Q
    (λ e. absurd (both_ways (part.count == g.count) (not-true (part.count == g.count) e) (eq-eqb part.count g.count (sym of))))
    (λ e. cond_both (is_some (at_number g.parts part.number)) (transition_ignoring p AlreadyHave) t2 Q
    (λ h. inr (low, λ j some most. record { gathering = g; is = same h; at = at; of = of; has = up_to g.parts i part.number number held h j some most }))
    (λ h. cond_both (not (is_in_order g part)) (transition_ignoring p TooFar) t3 Q
    (λ o. absurd (both_ways (is_in_order g part) (not-true (is_in_order g part) o) (in_order s k g part rises own shares h)))
    (λ o. cond_both (is_whole n) (readiness_transition q) (transition_with (record p { gathering = Some n }) []) Q
    (λ w. inl (let len : length_of (readiness_transition q).0 ≡ length_of q = readiness_length q in omega (arith, len, at)))
    (λ w. inr (
      λ x is. let it : n ≡ x = cc in let P : Gathering → Type 0 = λ y. y.position ≤ part.position in subst P it (omega (arith, at)),
      λ j some most. record { gathering = n; is = refl; at = at; of = of; has = up_to n.parts i part.number number (λ j a b. put_keeps g.parts part.number j part.state (held j a b)) (put_here g.parts part.number part.state) j some most },
    )))))
  where
    up_to : (parts : List (ℕ × State)) (i number : ℕ) → number ≡ suc i → ((j : ℕ) → 1 ≤ j → j ≤ i → is_some (at_number parts j) ≡ true) → is_some (at_number parts number) ≡ true
        → (j : ℕ) → 1 ≤ j → j ≤ suc i → is_some (at_number parts j) ≡ true
    up_to parts i number is held here j some most =
        let P : ℕ → Type 0 = λ x. is_some (at_number parts x) ≡ true in
        cond_both (nat_le j i) true false (λ (b : Bool). is_some (at_number parts j) ≡ true)
        (λ e. held j some (leb-true j i e))
        (λ e. let same : number ≡ j = cond_both (nat_lt i j) true false (λ (b : Bool). number ≡ j) (λ l. let lt : i < j = ltb-true i j l in omega (arith, lt, most, is)) (λ l. let ge : j ≤ i = ltb-false i j l in absurd (both_ways (nat_le j i) e (le-leb j i ge))) in subst P same here)

pub part_taken : (p : Plain) (sender i : ℕ) (part : StatePart) (s : State) (k : ℕ) → predecessor p ≡ Some sender → part.number ≡ suc i → (p.ready ≡ true → part.position ≤ length_of p)
    → ((g : Gathering) → p.gathering ≡ Some g → g.position ≡ part.position → g.count ≡ part.count)
    → Rises s → share s (64 * (part.number - 1)) (64 * part.number) ≡ part.state → ((gathering_for part p.gathering).count ≡ part.count → AllByRecursion (IsPartOf s 1 k) (gathering_for part p.gathering).parts)
    → NoneLater part.position p.gathering → HasParts part.position part.count i p.gathering → HasTaken part.position part.count (suc i) (part_transition p sender part).0
unfolding part_transition
part_taken p sender i part s k pred number ready counts rises own shares low parts =
    let Q : Transition → Type 0 = λ t. HasTaken part.position part.count (suc i) t.0 in
    let g : Gathering = gathering_for part p.gathering in
    let t2 : Transition = gathering_transition p g part in
    let t1 : Transition = cond (p.ready || is_outdated p part) (transition_ignoring p AlreadyHave) t2 in
    let late : nat_lt part.position (gathered_position p.gathering) ≡ false = none_later part.position 0 p.gathering low in
    let of : g.count ≡ part.count = for_count part p.gathering late counts in
    cond_both (not (is_id (predecessor p) sender)) (transition_ignoring p NotNeighbour) t1 Q
    (λ e. absurd (both_ways (is_id (predecessor p) sender) (not-true (is_id (predecessor p) sender) e) (is_id_here (predecessor p) sender pred)))
    (λ e. cond_both (p.ready || is_outdated p part) (transition_ignoring p AlreadyHave) t2 Q
    (λ o. inl (either_way p.ready (is_outdated p part) (part.position ≤ length_of p) o ready
    (λ out. either_way (nat_le part.position (length_of p)) (nat_lt part.position (gathered_position p.gathering)) (part.position ≤ length_of p) out
    (λ l. leb-true part.position (length_of p) l)
    (λ l. absurd (both_ways (nat_lt part.position (gathered_position p.gathering)) late l)))))
    (λ o. part_joins p g part i s k (for_position part p.gathering late) of number low rises own (shares of)
    (λ j some most. let h : HasPart part.position part.count j p.gathering = parts j some most in
    let same : gathering_for part p.gathering ≡ h.gathering = held_goes_on part p.gathering h.gathering h.is h.at in
    let P : Gathering → Type 0 = λ x. is_some (at_number x.parts j) ≡ true in subst P (sym same) h.has)
    (λ h. for_held part part.number p.gathering h)))
