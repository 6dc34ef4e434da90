-- Entries in the order of their keys.
use Rattle.std.proofs.Common.{◌≡◌, ℕ, zero, suc, ◌+◌, ◌<◌, Bool, true, false, List, [], ◌∷◌, length, get_or, Option, Some, None, refl, sym, ◌∙◌, ap, subst, arith}
use lib.Dec.{T}
use Rattle.std.specs.Prelude.{◌&&◌}
use Rattle.std.specs.List.{AllByRecursion}
use Rattle.std.specs.List.Sorted.{IsPermutation, IsSortedBy, IsStrictlySortedBy}
use Rattle.std.specs.Ordering.{is_eq, is_lt, eq_by_cmp, ordering_reverse}
use Rattle.std.specs.declared.cmp.Ordering.{Ordering}
use Rattle.std.specs.declared.cmp.Ordering.TheVariants.{Less, Equal, Greater}
use Rattle.std.specs.Cmp.Lexicographic.{nat_list_cmp_total}
use Rattle.std.specs.FinMap.{entries_sorted, from_entries}
use Rattle.std.specs.FinMap.Entries.{below_all, is_sorted}
use Rattle.std.proofs.lemmas.Option.{none-some}
use Rattle.std.proofs.lemmas.List.Sorted.{Contains-permutation, IsPermutation-map, IsPermutation-sym}
use Rattle.std.proofs.lemmas.Map.Keys.{IsDistinct-IsPermutation, apart_from_distinct, sorted_from_all_adjacent}
use Rattle.craq_names.specs.Maps.{at_key, key_cmp}
use Rattle.craq_names.proofs.Places.{is_sorted_of}
use Rattle.craq_key_map.specs.Mapped.{Mapped, AreDistinct, AreEntries, entries_of, keys_in}
use Rattle.craq_key_map.proofs.Lookups.{at_contains, contains_at, flipped, found_at, place_of, true_false}

-- with distinct keys, what is found is what is contained
found_in : {V : Type 0} (xs ys : Mapped V) → AreDistinct ys → IsPermutation xs ys → (q : List ℕ) (v : V) → at_key xs q ≡ Some v → at_key ys q ≡ Some v
found_in xs ys once moved q v s =
    let at = place_of xs q v s in
    let there = at_contains ys (q, v) (Contains-permutation xs ys (q, v) moved (contains_at xs at.0 (q, v) at.1)) in
    found_at ys there.0 (q, v) once there.1

-- lists with the same entries, whose keys are distinct, have the same look-ups
found_permuted : {V : Type 0} (xs ys : Mapped V) → AreDistinct xs → AreDistinct ys → IsPermutation xs ys → (q : List ℕ) → at_key ys q ≡ at_key xs q
found_permuted {V} xs ys first second moved q =
    let split : (o p : Option V) → at_key xs q ≡ o → at_key ys q ≡ p → p ≡ o = elim [
      | None ↦ elim [
        | None ↦ λ e f. refl
        | Some v ↦ λ e f. absurd (none-some v (sym e ∙ found_in ys xs first (IsPermutation-sym xs ys moved) q v f))
      ]
      | Some v ↦ λ p e f. sym f ∙ found_in xs ys second moved q v e
    ] in
    split (at_key xs q) (at_key ys q) refl refl

nothing_sorted : IsStrictlySortedBy key_cmp []
unfolding IsStrictlySortedBy
nothing_sorted = tt

less_of : (a b : List ℕ) → is_lt (key_cmp b a) ≡ false → eq_by_cmp key_cmp a b ≡ false → key_cmp a b ≡ Less
less_of a b low apart =
    elim (key_cmp a b) as (λ r. key_cmp a b ≡ r → r ≡ Less) [
      | Less ↦ λ e. refl
      | Equal ↦ λ e. absurd (true_false (sym (ap is_eq e) ∙ apart))
      | Greater ↦ λ e. absurd (true_false (sym (ap is_lt (nat_list_cmp_total.antisymm b a ∙ ap ordering_reverse e)) ∙ low))
    ] refl

keys_at : {V : Type 0} (b : Mapped V) (k : ℕ) (e : List ℕ × V) → k < length b → get_or (keys_in b) k e.0 ≡ (get_or b k e).0
keys_at [] k e h = absurd (omega (arith, h))
keys_at (f ∷ fs) zero e h = refl
keys_at (f ∷ fs) (suc k) e h = keys_at fs k e (omega (arith, h))

keys_count : {V : Type 0} (b : Mapped V) → length (keys_in b) ≡ length b
keys_count [] = refl
keys_count (e ∷ es) = ap suc (keys_count es)

rises : {V : Type 0} (b : Mapped V) → AreDistinct b → IsSortedBy (λ x y. is_lt (key_cmp x.0 y.0)) b → IsStrictlySortedBy key_cmp (keys_in b)
rises [] once sorted = nothing_sorted
rises {V} (e ∷ es) once sorted =
    sorted_from_all_adjacent nat_list_cmp_total (keys_in (e ∷ es)) e.0 (λ k low.
    let small : k + 1 < length (e ∷ es) = subst (λ n. k + 1 < n) (keys_count (e ∷ es)) low in
    let first = keys_at (e ∷ es) k e (omega (arith, small)) in
    let second = keys_at (e ∷ es) (k + 1) e small in
    less_of (get_or (keys_in (e ∷ es)) k e.0) (get_or (keys_in (e ∷ es)) (k + 1) e.0)
    (ap (λ x. is_lt (key_cmp x (get_or (keys_in (e ∷ es)) k e.0))) second ∙ ap (λ x. is_lt (key_cmp (get_or (e ∷ es) (k + 1) e).0 x)) first ∙ sorted k e (omega arith) small)
    (apart_from_distinct (eq_by_cmp key_cmp) (keys_in (e ∷ es)) k (k + 1) e.0 once (omega arith) low))

-- entries that are sorted by key are the same entries in order
pub sorted_same : {V : Type 0} (xs ys : Mapped V) → AreDistinct xs → IsPermutation xs ys → IsSortedBy (λ x y. is_lt (key_cmp x.0 y.0)) ys → T (is_sorted key_cmp ys) × AreEntries ys xs
sorted_same {V} xs ys once moved sorted =
    let still : AreDistinct ys = IsDistinct-IsPermutation (eq_by_cmp key_cmp) flipped (keys_in xs) (keys_in ys) (IsPermutation-map (λ (e : List ℕ × V). e.0) xs ys moved) once in
    (is_sorted_of key_cmp (λ (v : V). Some v) ys (rises ys still sorted), record { distinct = still; found = found_permuted xs ys once still moved })

first : (a b : Bool) → T (a && b) → T a
first true b p = tt
first false b p = p

second : (a b : Bool) → T (a && b) → T b
second true b p = p
second false b p = absurd p

less : (r : Ordering) → T (is_lt r) → r ≡ Less
less Less p = refl
less Equal p = absurd p
less Greater p = absurd p

all_less : {V : Type 0} (key : List ℕ) (es : Mapped V) → T (below_all key_cmp key es) → AllByRecursion (λ y. key_cmp key y ≡ Less) (keys_in es)
all_less key [] h = tt
all_less key (e ∷ es) h = (less (key_cmp key e.0) (first _ _ h), all_less key es (second _ _ h))

rising : {V : Type 0} (es : Mapped V) → T (is_sorted key_cmp es) → IsStrictlySortedBy key_cmp (keys_in es)
unfolding IsStrictlySortedBy
rising [] h = tt
rising (e ∷ es) h = (all_less e.0 es (first _ _ h), rising es (second _ _ h))

-- the keys of the entries are strictly increasing
pub entries_rise : {V : Type 0} (m : Mapped V) → IsStrictlySortedBy key_cmp (keys_in (entries_of m))
entries_rise m = rising (entries_of m) (entries_sorted (from_entries (m)))
