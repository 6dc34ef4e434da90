-- The parts of a state come in order, and as many as there are numbers complete a gathering.
use Rattle.std.proofs.Common.{◌≡◌, ◌≢◌, ◌<◌, ◌≤◌, ℕ, zero, suc, ◌+◌, ◌-◌, ◌*◌, min, ◌==◌, nat_lt, nat_le, Bool, true, false, ◌&&◌, ◌||◌, T, cond, List, [], ◌∷◌, ◌++◌, length, take, drop, Option, Some, is_some, refl, ap, sym, subst, ◌∙◌, arith, length-drop}
use Rattle.std.proofs.lemmas.Bool.{cond_both, eq-eqb, leb-true, leb-false, ltb-true, ltb-false}
use Rattle.std.proofs.lemmas.Bool.Decides.{nat_tests}
use Rattle.std.proofs.lemmas.List.{length-take, take-append-drop}
use Rattle.std.specs.List.{AllByRecursion, list_all}
use Rattle.std.specs.Ordering.{nat_cmp, is_lt, eq_by_cmp}
use Rattle.std.specs.Cmp.{nat_cmp_total}
use Rattle.std.specs.Cmp.Lexicographic.{nat_list_cmp_total}
use Rattle.std.specs.declared.cmp.Ordering.{Ordering}
use Rattle.std.specs.FinMap.Entries.{below_all, is_sorted, is_sorted-put, find-put}
use Rattle.craq_names.specs.Maps.{at_number, key_cmp, put_number}
use Rattle.craq_names.proofs.Lists.{all_drop, all_take}
use Rattle.craq_names.proofs.Numbers.{less_of, same_of}
use Rattle.craq_commands.specs.declared.entry.Entry.{Entry}
use Rattle.craq_commands.specs.declared.entry.Write.{Write}
use Rattle.craq_commands.specs.declared.state.State.{State}
use Rattle.craq_commands.specs.Objects.{Objects, set_object}
use Rattle.craq_commands.specs.SingleCopy.{after_entries, after_entry, kept_with, opening_state, with_writes}
use Rattle.craq_model.specs.declared.gathering.Gathering.{Gathering}
use Rattle.craq_model.specs.declared.message.StatePart.{StatePart}
use Rattle.craq_model.specs.Parts.{is_in_order, precedes, share}
use Rattle.craq_node_invariant.proofs.Sorted.{AreBelow, IsBelow, IsRising, first, rising_append, rising_drop, rising_parts, rising_take, second}
use Rattle.craq_refinement.proofs.Gathered.{IsPartOf}

both_true : (a b : Bool) → a ≡ true → b ≡ true → (a && b) ≡ true
both_true a b h k = ap (λ x. x && b) h ∙ k

holds : (b : Bool) → T b → b ≡ true
holds true t = refl
holds false t = absurd t

-- ---- two pieces of a list of ascending keys

outer : {A : Type 0} (P : A → Type 0) (b c : ℕ) (xs : List A) → b ≤ c → AllByRecursion P (take c xs) → AllByRecursion P (take b xs)
outer {A} P zero c xs le a = tt
outer {A} P (suc b) zero xs le a = absurd (omega (arith, le))
outer {A} P (suc b) (suc c) [] le a = tt
outer {A} P (suc b) (suc c) (x ∷ xs) le a = (a.0, outer P b c xs (omega (arith, le)) a.1)

inner : {A : Type 0} (P : A → Type 0) (c d : ℕ) (xs : List A) → AllByRecursion P (drop c xs) → AllByRecursion P (drop c (take d xs))
inner {A} P zero d xs a = all_take P d xs a
inner {A} P (suc c) zero xs a = tt
inner {A} P (suc c) (suc d) [] a = tt
inner {A} P (suc c) (suc d) (x ∷ xs) a = inner P c d xs a

module _ {K X : Type 0} (cmp : K → K → Ordering) where
  inner_all : (c d : ℕ) (xs ys : List (K × X)) → AreBelow cmp ys (drop c xs) → AreBelow cmp ys (drop c (take d xs))
  inner_all c d xs [] a = tt
  inner_all c d xs (y ∷ ys) a = (inner (λ (e : K × X). T (is_lt (cmp y.0 e.0))) c d xs a.0, inner_all c d xs ys a.1)

  pieces_rise : (a b c d : ℕ) (xs : List (K × X)) → b ≤ c → IsRising cmp xs → IsRising cmp (drop a (take b xs) ++ drop c (take d xs))
  pieces_rise a b c d xs le r =
      let R : List (K × X) → Type 0 = λ l. IsRising cmp l in
      let parts = rising_parts cmp (take c xs) (drop c xs) (subst R (sym (take-append-drop c xs)) r) in
      let below : AreBelow cmp (take c xs) (drop c (take d xs)) = inner_all c d xs (take c xs) parts.2 in
      let B : K × X → Type 0 = λ x. IsBelow cmp x.0 (drop c (take d xs)) in
      rising_append cmp (drop a (take b xs)) (drop c (take d xs))
      (rising_drop cmp a (take b xs) (rising_take cmp b xs r))
      (rising_drop cmp c (take d xs) (rising_take cmp d xs r))
      (all_drop B a (take b xs) (outer B b c xs le below))

-- ---- states

pub record Rises (s : State) : Type 0 where
  pub objects : IsRising key_cmp s.objects
  pub kept : IsRising nat_cmp s.kept

writes_rise : (m : Objects) (ws : List Write) → IsRising key_cmp m → IsRising key_cmp (with_writes m ws)
unfolding set_object
writes_rise m [] r = r
writes_rise m (w ∷ ws) r = writes_rise (set_object m w.key w.version w.value) ws (is_sorted-put key_cmp nat_list_cmp_total w.key (w.version, w.value) m r)

entry_rises : (s : State) (e : Entry) → Rises s → Rises (after_entry s e)
unfolding after_entry kept_with
entry_rises s e r = record { objects = writes_rise s.objects e.writes r.objects; kept = is_sorted-put nat_cmp nat_cmp_total e.client _ s.kept r.kept }

entries_rise : (s : State) (es : List Entry) → Rises s → Rises (after_entries s es)
entries_rise s [] r = r
entries_rise s (e ∷ es) r = entries_rise (after_entry s e) es (entry_rises s e r)

pub state_rises : (es : List Entry) → Rises (after_entries opening_state es)
state_rises es = entries_rise opening_state es (record { objects = tt; kept = tt })

-- ---- a lower part precedes a higher one

starts_later : (n i : ℕ) → n < i → 64 * n ≤ 64 * (i - 1)
starts_later n i lt = omega (arith, lt)

apart : (b c m : ℕ) → b ≤ c → b - m ≤ c - m
apart b c m le = omega (arith, le)

no_objects : {A : Type 0} (c d : ℕ) (xs : List A) → length xs ≤ c → length (drop c (take d xs)) ≡ 0
no_objects {A} c d xs le = let a : length (drop c (take d xs)) ≡ length (take d xs) - c = length-drop c (take d xs) in let b : length (take d xs) ≡ min d (length xs) = length-take d xs in omega (arith, a, b, le)

no_kept : {A : Type 0} (c d : ℕ) (xs : List A) → d ≡ 0 → length (drop c (take d xs)) ≡ 0
no_kept {A} c d xs z = let a : length (drop c (take d xs)) ≡ length (take d xs) - c = length-drop c (take d xs) in let b : length (take d xs) ≡ min d (length xs) = length-take d xs in omega (arith, a, b, z)

either_left : (a b : Bool) → a ≡ true → (a || b) ≡ true
either_left a b h = ap (λ x. x || b) h

either_right : (a b : Bool) → b ≡ true → (a || b) ≡ true
either_right true b h = refl
either_right false b h = h

part_precedes : (s : State) (n i : ℕ) → Rises s → n < i → precedes (share s (64 * (n - 1)) (64 * n)) (share s (64 * (i - 1)) (64 * i)) ≡ true
part_precedes s n i r lt =
    let m : ℕ = length s.objects in
    let low : State = share s (64 * (n - 1)) (64 * n) in
    let high : State = share s (64 * (i - 1)) (64 * i) in
    let le : 64 * n ≤ 64 * (i - 1) = starts_later n i lt in
    let objects : is_sorted key_cmp (low.objects ++ high.objects) ≡ true = holds (is_sorted key_cmp (low.objects ++ high.objects)) (pieces_rise key_cmp (64 * (n - 1)) (64 * n) (64 * (i - 1)) (64 * i) s.objects le r.objects) in
    let kept : is_sorted nat_cmp (low.kept ++ high.kept) ≡ true =
    holds (is_sorted nat_cmp (low.kept ++ high.kept)) (pieces_rise nat_cmp (64 * (n - 1) - m) (64 * n - m) (64 * (i - 1) - m) (64 * i - m) s.kept (apart (64 * n) (64 * (i - 1)) m le) r.kept) in
    let one : Bool = length low.kept == 0 in
    let other : Bool = length high.objects == 0 in
    let split : (one || other) ≡ true =
    cond_both (nat_le m (64 * (i - 1))) true false (λ (b : Bool). (one || other) ≡ true)
    (λ e. either_right one other (eq-eqb (length high.objects) 0 (no_objects (64 * (i - 1)) (64 * i) s.objects (leb-true m (64 * (i - 1)) e))))
    (λ e. let far : 64 * (i - 1) < m = leb-false m (64 * (i - 1)) e in let z : 64 * n - m ≡ 0 = omega (arith, le, far) in either_left one other (eq-eqb (length low.kept) 0 (no_kept (64 * (n - 1) - m) (64 * n - m) s.kept z))) in
    both_true (is_sorted key_cmp (low.objects ++ high.objects) && is_sorted nat_cmp (low.kept ++ high.kept)) (one || other)
    (both_true (is_sorted key_cmp (low.objects ++ high.objects)) (is_sorted nat_cmp (low.kept ++ high.kept)) objects kept) split

-- ---- parts held, by number

apart_number : (j n : ℕ) → j ≢ n → eq_by_cmp nat_cmp j n ≡ false
apart_number j n ne = cond_both (eq_by_cmp nat_cmp j n) true false (λ (b : Bool). eq_by_cmp nat_cmp j n ≡ false) (λ e. absurd (ne (same_of j n e))) (λ e. e)

-- in a list of parts, the first one is of that number, or a later one is
found_where : (j : ℕ) (h : ℕ × State) (hs : List (ℕ × State)) → j ≢ h.0 → at_number (h ∷ hs) j ≡ at_number hs j
found_where j h hs ne = ap (λ b. cond b (Some h.1) (at_number hs j)) (apart_number j h.0 ne)

absent : (n : ℕ) (h : ℕ × State) (hs : List (ℕ × State)) → is_some (at_number (h ∷ hs) n) ≡ false → (n ≢ h.0) × (is_some (at_number hs n) ≡ false)
absent n h hs e =
    let Q : Option State → Type 0 = λ o. is_some o ≡ false → (eq_by_cmp nat_cmp n h.0 ≡ false) × (is_some (at_number hs n) ≡ false) in
    let k : (eq_by_cmp nat_cmp n h.0 ≡ false) × (is_some (at_number hs n) ≡ false) =
    cond_both (eq_by_cmp nat_cmp n h.0) (Some h.1) (at_number hs n) Q (λ t e. absurd (cc)) (λ f e. (f, e)) e in
    (λ same. different n h.0 k.0 same, k.1)
  where
    different : (n m : ℕ) → eq_by_cmp nat_cmp n m ≡ false → n ≢ m
    different n m f = λ same. grind (arith, nat_tests, f, same)

-- a part that is not held is in order among those held
in_order_among : (s : State) (k : ℕ) (n : ℕ) (t : State) (hs : List (ℕ × State)) → Rises s → share s (64 * (n - 1)) (64 * n) ≡ t → AllByRecursion (IsPartOf s 1 k) hs → is_some (at_number hs n) ≡ false
    → list_all (λ (held : ℕ × State). cond (nat_lt held.0 n) (precedes held.1 t) (precedes t held.1)) hs ≡ true
in_order_among s k n t [] r is a none = refl
in_order_among s k n t (h ∷ hs) r is a none =
    let gone : (n ≢ h.0) × (is_some (at_number hs n) ≡ false) = absent n h hs none in
    let own : share s (64 * (h.0 - 1)) (64 * h.0) ≡ h.1 = a.0.is in
    both_true (cond (nat_lt h.0 n) (precedes h.1 t) (precedes t h.1)) (list_all (λ (held : ℕ × State). cond (nat_lt held.0 n) (precedes held.1 t) (precedes t held.1)) hs)
    (cond_both (nat_lt h.0 n) (precedes h.1 t) (precedes t h.1) (λ (b : Bool). b ≡ true)
    (λ e. sym (λ i. precedes (own i) (is i)) ∙ part_precedes s h.0 n r (ltb-true h.0 n e))
    (λ e. sym (λ i. precedes (is i) (own i)) ∙ part_precedes s n h.0 r (let le : n ≤ h.0 = ltb-false h.0 n e in lower n h.0 le gone.0)))
    (in_order_among s k n t hs r is a.1 gone.1)
  where
    lower : (n m : ℕ) → n ≤ m → n ≢ m → n < m
    lower n m le ne = cond_both (nat_lt n m) true false (λ (b : Bool). n < m) (λ e. ltb-true n m e) (λ e. absurd (ne (let ge : m ≤ n = ltb-false n m e in omega (arith, ge, le))))

pub in_order : (s : State) (k : ℕ) (g : Gathering) (part : StatePart) → Rises s → share s (64 * (part.number - 1)) (64 * part.number) ≡ part.state → AllByRecursion (IsPartOf s 1 k) g.parts
    → is_some (at_number g.parts part.number) ≡ false → is_in_order g part ≡ true
unfolding is_in_order
in_order s k g part r is a none = in_order_among s k part.number part.state g.parts r is a none

-- ---- one more part

pub put_here : (hs : List (ℕ × State)) (n : ℕ) (s : State) → is_some (at_number (put_number hs n s) n) ≡ true
put_here hs n s =
    let O : Option State → Type 0 = λ o. is_some o ≡ true in
    subst O (sym (find-put nat_cmp nat_cmp_total n n s hs))
    (cond_both (eq_by_cmp nat_cmp n n) (Some s) (at_number hs n) O (λ e. refl) (λ e. absurd (itself n e)))
  where
    itself : (n : ℕ) → eq_by_cmp nat_cmp n n ≡ false → ⊥
    itself n f = grind (arith, nat_tests, f)

pub put_keeps : (hs : List (ℕ × State)) (n j : ℕ) (s : State) → is_some (at_number hs j) ≡ true → is_some (at_number (put_number hs n s) j) ≡ true
put_keeps hs n j s h =
    let O : Option State → Type 0 = λ o. is_some o ≡ true in
    subst O (sym (find-put nat_cmp nat_cmp_total j n s hs))
    (cond_both (eq_by_cmp nat_cmp j n) (Some s) (at_number hs j) O (λ e. refl) (λ e. h))

-- ---- as many as there are numbers

abbrev AreAbove : ℕ → List (ℕ × State) → Type 0
AreAbove n hs = AllByRecursion (λ (h : ℕ × State). n < h.0) hs

all_above : (n : ℕ) (hs : List (ℕ × State)) → T (below_all nat_cmp n hs) → AreAbove n hs
all_above n [] b = tt
all_above n (h ∷ hs) b = (less_of n h.0 (first (is_lt (nat_cmp n h.0)) (below_all nat_cmp n hs) b), all_above n hs (second (is_lt (nat_cmp n h.0)) (below_all nat_cmp n hs) b))

none_below : (n j : ℕ) (hs : List (ℕ × State)) → j ≤ n → AreAbove n hs → is_some (at_number hs j) ≡ true → ⊥
none_below n j [] le a h = absurd (cc)
none_below n j (x ∷ hs) le a h = none_below n j hs le a.1 (sym (ap is_some (found_where j x hs (λ e. absurd (omega (arith, e, le, a.0))))) ∙ h)

-- the number is between two
pub record IsBetween (a b : ℕ) (h : ℕ × State) : Type 0 where
  pub low : a ≤ h.0
  pub high : h.0 < b

higher : (a k m : ℕ) (hs : List (ℕ × State)) → a ≤ m → AreAbove m hs → AllByRecursion (IsBetween a (a + suc k)) hs → AllByRecursion (IsBetween (a + 1) ((a + 1) + k)) hs
higher a k m [] le up is = tt
higher a k m (h ∷ hs) le up is = (record { low = omega (arith, up.0, le); high = omega (arith, is.0.high) }, higher a k m hs le up.1 is.1)

pub counted : (hs : List (ℕ × State)) (a k : ℕ) → T (is_sorted nat_cmp hs) → AllByRecursion (IsBetween a (a + k)) hs → ((j : ℕ) → a ≤ j → j < a + k → is_some (at_number hs j) ≡ true) → length hs ≡ k
counted [] a zero rises is all = refl
counted [] a (suc k) rises is all = let none : false ≡ true = all a (omega arith) (omega arith) in absurd (cc)
counted (h ∷ hs) a zero rises is all = absurd (omega (arith, is.0.low, is.0.high))
counted (h ∷ hs) a (suc k) rises is all =
    let above : AreAbove h.0 hs = all_above h.0 hs (first (below_all nat_cmp h.0 hs) (is_sorted nat_cmp hs) rises) in
    let same : h.0 ≡ a =
    cond_both (eq_by_cmp nat_cmp a h.0) true false (λ (b : Bool). h.0 ≡ a)
    (λ e. sym (same_of a h.0 e))
    (λ e. absurd (none_below h.0 a hs is.0.low above (sym (ap (λ b. is_some (cond b (Some h.1) (at_number hs a))) e) ∙ all a (omega arith) (omega arith)))) in
    let rest : length hs ≡ k =
    counted hs (a + 1) k (second (below_all nat_cmp h.0 hs) (is_sorted nat_cmp hs) rises) (higher a k h.0 hs is.0.low above is.1)
    (λ j low high. sym (ap is_some (found_where j h hs (λ e. absurd (omega (arith, e, same, low))))) ∙ all j (omega (arith, low)) (omega (arith, high))) in
    ap suc rest
