-- Parts of a state that are in order make a sorted state.
use Rattle.std.proofs.Common.{◌≡◌, ◌<◌, ◌≤◌, ℕ, Bool, true, false, ◌&&◌, T, cond, List, [], ◌∷◌, ◌++◌, Some, is_some, sym, ap, subst, ◌∙◌, inl, inr, arith}
use Rattle.std.proofs.lemmas.Bool.{and_parts, cond-true, cond-false, lt-ltb}
use Rattle.std.proofs.lemmas.Bool.Decides.{nat_tests}
use Rattle.std.specs.Prelude.{nat_lt}
use Rattle.std.specs.List.{AllByRecursion, flat_map, list_all}
use Rattle.std.specs.Ordering.{nat_cmp, is_lt, eq_by_cmp}
use Rattle.std.specs.Cmp.{nat_cmp_is, nat_cmp_total, eq_by_cmp_equiv}
use Rattle.std.specs.declared.cmp.Ordering.{Ordering}
use Rattle.std.specs.declared.cmp.Ordering.TheVariants.{Less, Equal, Greater}
use Rattle.std.specs.FinMap.Entries.{by_order, below_all, is_sorted, is_sorted-put}
use Rattle.craq_names.specs.Maps.{key_cmp, at_number, put_number}
use Rattle.craq_names.proofs.Lists.{all_append, all_each}
use Rattle.craq_names.proofs.Numbers.{ByOrder, by_order_of, less_of}
use Rattle.craq_commands.specs.Kept.{Window}
use Rattle.craq_commands.specs.declared.state.State.{State}
use Rattle.craq_model.specs.declared.gathering.Gathering.{Gathering}
use Rattle.craq_model.specs.declared.message.StatePart.{StatePart}
use Rattle.craq_model.specs.Parts.{precedes, is_in_order, with_part, joined_state}
use Rattle.craq_model.specs.Encodable.{IsEncodableWindow}
use Rattle.craq_node_invariant.specs.Sound.{IsSoundState, IsSoundGathering}
use Rattle.craq_node_invariant.proofs.Sorted.{first, second, all_split, AreBelow, IsRising, rising_append, rising_parts}

-- the held parts, by number
abbrev Held : Type 0
Held = List (ℕ × State)

module _ (n : ℕ) (s : State) where
  put_lower : (h : ℕ × State) (hs : Held) → n < h.0 → put_number (h ∷ hs) n s ≡ (n, s) ∷ h ∷ hs
  put_lower h hs l = ap (λ o. by_order o ((n, s) ∷ h ∷ hs) ((h.0, s) ∷ hs) (h ∷ put_number hs n s)) (sym (nat_cmp_is n h.0 Less l))

  put_higher : (h : ℕ × State) (hs : Held) → h.0 < n → put_number (h ∷ hs) n s ≡ h ∷ put_number hs n s
  put_higher h hs l = ap (λ o. by_order o ((n, s) ∷ h ∷ hs) ((h.0, s) ∷ hs) (h ∷ put_number hs n s)) (sym (nat_cmp_is n h.0 Greater l))

found_first : (n : ℕ) (h : ℕ × State) (hs : Held) → n ≡ h.0 → is_some (at_number (h ∷ hs) n) ≡ true
found_first n h hs e =
    let own : at_number (h ∷ hs) h.0 ≡ Some h.1 = ap (λ b. cond b (Some h.1) (at_number hs h.0)) ((eq_by_cmp_equiv nat_cmp_total).refl h.0) in
    subst (λ (j : ℕ). is_some (at_number (h ∷ hs) j) ≡ true) (sym e) (ap is_some own)

absent_later : (n : ℕ) (h : ℕ × State) (hs : Held) → is_some (at_number (h ∷ hs) n) ≡ false → is_some (at_number hs n) ≡ false
absent_later n h hs e =
    let by : (b : Bool) → is_some (cond b (Some h.1) (at_number hs n)) ≡ false → is_some (at_number hs n) ≡ false = elim [ true ↦ λ e. absurd cc | false ↦ λ e. e ] in
    by (eq_by_cmp nat_cmp n h.0) e

-- all numbers are above this one
abbrev AreAbove : ℕ → Held → Type 0
AreAbove n hs = AllByRecursion (λ (h : ℕ × State). n < h.0) hs

above_all : (n k : ℕ) (hs : Held) → n < k → T (below_all nat_cmp k hs) → AreAbove n hs
above_all n k [] l b = tt
above_all n k (h ∷ hs) l b = let k_below : k < h.0 = less_of k h.0 (first (is_lt (nat_cmp k h.0)) (below_all nat_cmp k hs) b) in (omega (arith, l, k_below), above_all n k hs l (second (is_lt (nat_cmp k h.0)) (below_all nat_cmp k hs) b))

module _ {K X : Type 0} (cmp : K → K → Ordering) (items : State → List (K × X)) where
  abbrev pub flat : Held → List (K × X)
  flat hs = flat_map (λ (h : ℕ × State). items h.1) hs

  pub all_put : (P : K × X → Type 0) (hs : Held) (n : ℕ) (s : State) → AllByRecursion P (items s) → AllByRecursion P (flat hs) → AllByRecursion P (flat (put_number hs n s))
  all_put P [] n s a b = all_append P (items s) [] a tt
  all_put P (h ∷ hs) n s a b =
      let parts = all_split P (items h.1) (flat hs) b in
      elim (nat_cmp n h.0) as (λ o. AllByRecursion P (flat (by_order o ((n, s) ∷ h ∷ hs) ((h.0, s) ∷ hs) (h ∷ put_number hs n s)))) [
        | Less ↦ all_append P (items s) (flat (h ∷ hs)) a b
        | Equal ↦ all_append P (items s) (flat hs) a parts.1
        | Greater ↦ all_append P (items h.1) (flat (put_number hs n s)) parts.0 (all_put P hs n s a parts.1)
      ]

  -- a part's items come after those of lower parts and before those of higher ones
  abbrev pub InOrder : ℕ → State → Held → Type 0
  InOrder n s hs = AllByRecursion (λ (h : ℕ × State). (h.0 < n → AreBelow cmp (items h.1) (items s)) × (n < h.0 → AreBelow cmp (items s) (items h.1))) hs

  below_both : (xs ys zs : List (K × X)) → AreBelow cmp xs ys → AreBelow cmp xs zs → AreBelow cmp xs (ys ++ zs)
  below_both [] ys zs a b = tt
  below_both (x ∷ xs) ys zs a b = (all_append (λ (e : K × X). T (is_lt (cmp x.0 e.0))) ys zs a.0 b.0, below_both xs ys zs a.1 b.1)

  below_nothing : (xs : List (K × X)) → AreBelow cmp xs []
  below_nothing xs = all_each (λ (x : K × X). Unit {0}) xs (λ x. tt)

  below_higher : (n : ℕ) (s : State) (hs : Held) → AreAbove n hs → InOrder n s hs → AreBelow cmp (items s) (flat hs)
  below_higher n s [] a o = below_nothing (items s)
  below_higher n s (h ∷ hs) a o = below_both (items s) (items h.1) (flat hs) (o.0.1 a.0) (below_higher n s hs a.1 o.1)

  below_put : (xs : List (K × X)) (hs : Held) (n : ℕ) (s : State) → AreBelow cmp xs (items s) → AreBelow cmp xs (flat hs) → AreBelow cmp xs (flat (put_number hs n s))
  below_put [] hs n s a b = tt
  below_put (x ∷ xs) hs n s a b = (all_put (λ (e : K × X). T (is_lt (cmp x.0 e.0))) hs n s a.0 b.0, below_put xs hs n s a.1 b.1)

  pub rising_put : (hs : Held) (n : ℕ) (s : State) → T (is_sorted nat_cmp hs) → is_some (at_number hs n) ≡ false → IsRising cmp (items s) → IsRising cmp (flat hs) → InOrder n s hs → IsRising cmp (flat (put_number hs n s))
  rising_put [] n s r none a b o = rising_append cmp (items s) [] a tt (below_nothing (items s))
  rising_put (h ∷ hs) n s r none a b o =
      let parts = rising_parts cmp (items h.1) (flat hs) b in
      let lower : n < h.0 → IsRising cmp (flat (put_number (h ∷ hs) n s)) = λ l.
      subst (λ (l : Held). IsRising cmp (flat l)) (sym (put_lower n s h hs l))
      (rising_append cmp (items s) (flat (h ∷ hs)) a b (below_higher n s (h ∷ hs) (l, above_all n h.0 hs l (first (below_all nat_cmp h.0 hs) (is_sorted nat_cmp hs) r)) o))
      in
      let higher : h.0 < n → IsRising cmp (flat (put_number (h ∷ hs) n s)) = λ l.
      subst (λ (l : Held). IsRising cmp (flat l)) (sym (put_higher n s h hs l))
      (rising_append cmp (items h.1) (flat (put_number hs n s)) parts.0
      (rising_put hs n s (second (below_all nat_cmp h.0 hs) (is_sorted nat_cmp hs) r) (absent_later n h hs none) a parts.1 o.1)
      (below_put (items h.1) hs n s (o.0.0 l) parts.2))
      in
      let by : ByOrder n h.0 → IsRising cmp (flat (put_number (h ∷ hs) n s)) = elim [
        | inl l ↦ lower l
        | inr x ↦ elim x [
          | inl e ↦ let clash : true ≡ false = sym (found_first n h hs e) ∙ none in absurd cc
          | inr l ↦ higher l
        ]
      ] in
      by (by_order_of n h.0)

-- ---- consequences of a test of order

holds : (b : Bool) → b ≡ true → T b
holds true t = tt
holds false t = absurd cc

abbrev objects_of : State → List (List ℕ × (ℕ × List ℕ))
objects_of s = s.objects

abbrev kept_of : State → List (ℕ × Window)
kept_of s = s.kept

record Precedes (s t : State) : Type 0 where
  objects : AreBelow key_cmp s.objects t.objects
  kept : AreBelow nat_cmp s.kept t.kept

preceding : (s t : State) → precedes s t ≡ true → Precedes s t
preceding s t h =
    let two = and_parts (is_sorted key_cmp (s.objects ++ t.objects) && is_sorted nat_cmp (s.kept ++ t.kept)) _ h in
    let one = and_parts (is_sorted key_cmp (s.objects ++ t.objects)) (is_sorted nat_cmp (s.kept ++ t.kept)) two.0 in
    record {
      objects = (rising_parts key_cmp s.objects t.objects (holds (is_sorted key_cmp (s.objects ++ t.objects)) one.0)).2;
      kept = (rising_parts nat_cmp s.kept t.kept (holds (is_sorted nat_cmp (s.kept ++ t.kept)) one.1)).2;
    }

abbrev tested : ℕ → State → ℕ × State → Bool
tested n s h = cond (nat_lt h.0 n) (precedes h.1 s) (precedes s h.1)

after_lower : (n : ℕ) (s : State) (h : ℕ × State) → tested n s h ≡ true → h.0 < n → Precedes h.1 s
after_lower n s h t l = preceding h.1 s (sym (cond-true (nat_lt h.0 n) (precedes h.1 s) (precedes s h.1) (lt-ltb h.0 n l)) ∙ t)

before_higher : (n : ℕ) (s : State) (h : ℕ × State) → tested n s h ≡ true → n < h.0 → Precedes s h.1
before_higher n s h t l =
    let none : nat_lt h.0 n ≡ false = grind (arith, nat_tests, l) in
    preceding s h.1 (sym (cond-false (nat_lt h.0 n) (precedes h.1 s) (precedes s h.1) none) ∙ t)

objects_in_order : (n : ℕ) (s : State) (hs : Held) → list_all (tested n s) hs ≡ true → InOrder key_cmp objects_of n s hs
objects_in_order n s [] t = tt
objects_in_order n s (h ∷ hs) t =
    let p = and_parts (tested n s h) (list_all (tested n s) hs) t in
    ((λ l. (after_lower n s h p.0 l).objects, λ l. (before_higher n s h p.0 l).objects), objects_in_order n s hs p.1)

kept_in_order : (n : ℕ) (s : State) (hs : Held) → list_all (tested n s) hs ≡ true → InOrder nat_cmp kept_of n s hs
kept_in_order n s [] t = tt
kept_in_order n s (h ∷ hs) t =
    let p = and_parts (tested n s h) (list_all (tested n s) hs) t in
    ((λ l. (after_lower n s h p.0 l).kept, λ l. (before_higher n s h p.0 l).kept), kept_in_order n s hs p.1)

-- a gathering with one more part
pub gathered_is : (g : Gathering) (part : StatePart) → IsSoundGathering g → IsSoundState part.state → is_some (at_number g.parts part.number) ≡ false → is_in_order g part ≡ true → IsSoundGathering (with_part g part)
unfolding is_in_order joined_state
gathered_is g part s h none order = record {
  numbers_rise = is_sorted-put nat_cmp nat_cmp_total part.number part.state g.parts s.numbers_rise;
  state = record {
    versions = all_put key_cmp objects_of (λ (o : List ℕ × (ℕ × List ℕ)). 1 ≤ o.1.0) g.parts part.number part.state h.versions s.state.versions;
    windows = all_put nat_cmp kept_of (λ (k : ℕ × Window). IsEncodableWindow k.1) g.parts part.number part.state h.windows s.state.windows;
    keys_rise = rising_put key_cmp objects_of g.parts part.number part.state s.numbers_rise none h.keys_rise s.state.keys_rise (objects_in_order part.number part.state g.parts order);
    clients_rise = rising_put nat_cmp kept_of g.parts part.number part.state s.numbers_rise none h.clients_rise s.state.clients_rise (kept_in_order part.number part.state g.parts order);
  };
}
