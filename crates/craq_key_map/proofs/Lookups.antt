-- Look-ups of keys, and buckets of hashes.
use Rattle.std.proofs.Common.{◌≡◌, ℕ, zero, suc, ◌+◌, ◌-◌, ◌<◌, ◌≤◌, true, false, cond, List, [], ◌∷◌, ◌++◌, length, Some, None, refl, sym, ◌∙◌, ap, subst, arith}
use Rattle.std.specs.Prelude.{slice_get, nat_lt}
use Rattle.std.specs.List.{AllByRecursion, Contains}
use Rattle.std.specs.Ordering.{is_eq, eq_by_cmp, ordering_reverse}
use Rattle.std.specs.declared.cmp.Ordering.{Ordering}
use Rattle.std.specs.declared.cmp.Ordering.TheVariants.{Less, Equal, Greater}
use Rattle.std.specs.Cmp.{tied_itself}
use Rattle.std.specs.Cmp.Lexicographic.{nat_list_cmp_total}
use Rattle.std.specs.FinMap.{from_entries, get-entries, get-from_entries, IsAntisymmetric, nat_cmp-IsAntisymmetric, slice_cmp-IsAntisymmetric}
use Rattle.std.proofs.lemmas.Option.{none-some, same_Some, slice_get_within, slice_get-get_or, get_or_from_slice_get}
use Rattle.std.proofs.lemmas.Bool.{ltb-true, ltb-false}
use Rattle.std.proofs.lemmas.Nat.{mod_below}
use Rattle.std.proofs.lemmas.Map.Keys.{IsDistinct-head, IsDistinct-tail}
use Rattle.craq_names.specs.Maps.{at_key, key_cmp}
use Rattle.craq_key_map.specs.Indexed.{Indexed, IsIndexed, bucket_of, folded}
use Rattle.craq_key_map.specs.Mapped.{Mapped, AreDistinct, entries_of, keys_in}

pub exact : IsAntisymmetric key_cmp
exact = slice_cmp-IsAntisymmetric nat_cmp-IsAntisymmetric

tied : (r : Ordering) → is_eq r ≡ true → r ≡ Equal
tied Less h = cc
tied Equal h = refl
tied Greater h = cc

-- keys that compare as equal are the same
pub same_key : (q key : List ℕ) → eq_by_cmp key_cmp q key ≡ true → q ≡ key
same_key q key h = exact q key (tied (key_cmp q key) h)

-- a key equals itself
pub own_key : (key : List ℕ) → eq_by_cmp key_cmp key key ≡ true
own_key key = ap is_eq (tied_itself nat_list_cmp_total key)

reversed_eq : (r : Ordering) → is_eq (ordering_reverse r) ≡ is_eq r
reversed_eq Less = refl
reversed_eq Equal = refl
reversed_eq Greater = refl

-- equality of keys is symmetric
pub flipped : (q key : List ℕ) → eq_by_cmp key_cmp q key ≡ eq_by_cmp key_cmp key q
flipped q key = ap is_eq (nat_list_cmp_total.antisymm q key) ∙ reversed_eq (key_cmp key q)

pub true_false : true ≡ false → ⊥
true_false e = cc

-- a key that is not in the first entries is found in the others, or nowhere
pub none_first : {T : Type 0} (q : List ℕ) (xs ys : Mapped T) → at_key xs q ≡ None → at_key (xs ++ ys) q ≡ at_key ys q
none_first q [] ys none = refl
none_first q (e ∷ es) ys none =
    elim (eq_by_cmp key_cmp q e.0) as (λ b. cond b (Some e.1) (at_key es q) ≡ None → cond b (Some e.1) (at_key (es ++ ys) q) ≡ at_key ys q) [
      | true ↦ λ h. absurd (none-some e.1 (sym h))
      | false ↦ λ h. none_first q es ys h
    ] none

-- a look-up in the sorted entries is one in the map
pub at_entries : {T : Type 0} (m : Mapped T) (q : List ℕ) → at_key (entries_of m) q ≡ at_key m q
at_entries m q = sym (get-entries (from_entries {R = key_cmp} m) q) ∙ get-from_entries nat_list_cmp_total m q

folded_below : (rest half count : ℕ) → rest < half + half → half ≤ count → count ≤ half + half → 0 < count → folded rest half count < count
folded_below rest half count small from to some =
    elim (nat_lt rest count) as (λ b. nat_lt rest count ≡ b → cond b rest (rest - half) < count) [
      | true ↦ λ h. ltb-true rest count h
      | false ↦ λ h. omega (arith, ltb-false rest count h)
    ] refl

pub some_at : {X : Type 0} (xs : List X) (i : ℕ) → i < length xs → (x : X) × (slice_get xs i ≡ Some x)
some_at [] i h = absurd (omega arith)
some_at (x ∷ xs) zero h = (x, refl)
some_at (x ∷ xs) (suc i) h = some_at xs i (omega (arith, h))

pub all_at : {T : Type 0} (P : List ℕ → Type 0) (b : Mapped T) (i : ℕ) (e : List ℕ × T) → AllByRecursion P (keys_in b) → slice_get b i ≡ Some e → P e.0
all_at P [] i e h s = absurd (none-some e s)
all_at {T} P (f ∷ fs) zero e h s = subst (λ (x : List ℕ × T). P x.0) (same_Some f e s) h.0
all_at P (f ∷ fs) (suc i) e h s = all_at P fs i e h.1 s

-- the key at an index is found there
pub found_at : {T : Type 0} (b : Mapped T) (i : ℕ) (e : List ℕ × T) → AreDistinct b → slice_get b i ≡ Some e → at_key b e.0 ≡ Some e.1
found_at [] i e d s = absurd (none-some e s)
found_at {T} (f ∷ fs) zero e d s =
    let same : f ≡ e = same_Some f e s in
    ap (λ (x : List ℕ × T). at_key (f ∷ fs) x.0) (sym same) ∙ ap (λ b. cond b (Some f.1) (at_key fs f.0)) (own_key f.0) ∙ ap (λ (x : List ℕ × T). Some x.1) same
found_at {T} (f ∷ fs) (suc i) e d s =
    let apart : eq_by_cmp key_cmp f.0 e.0 ≡ false = all_at (λ y. eq_by_cmp key_cmp f.0 y ≡ false) fs i e (IsDistinct-head (eq_by_cmp key_cmp) f.0 (keys_in fs) d) s in
    ap (λ b. cond b (Some f.1) (at_key fs e.0)) (flipped e.0 f.0 ∙ apart) ∙ found_at fs i e (IsDistinct-tail (eq_by_cmp key_cmp) f.0 (keys_in fs) d) s

pub same_order : (a key : List ℕ) (r : Ordering) → r ≡ key_cmp a key → is_eq r ≡ true → a ≡ key
same_order a key r is h = exact a key (sym is ∙ tied r h)

-- a hash's bucket is there, if there are buckets
pub bucket_below : (s : Indexed) → IsIndexed s → 0 < length s.buckets → (hash : ℕ) → bucket_of hash s.half (length s.buckets) < length s.buckets
bucket_below s h some hash = let from = h.from in let to = h.to in folded_below _ s.half (length s.buckets) (mod_below _ (s.half + s.half) (omega arith)) from to some

-- the place of a key that is found
pub place_of : {T : Type 0} (b : Mapped T) (q : List ℕ) (v : T) → at_key b q ≡ Some v → (i : ℕ) × (slice_get b i ≡ Some (q, v))
place_of [] q v s = absurd (none-some v s)
place_of {T} (e ∷ es) q v s =
    elim (eq_by_cmp key_cmp q e.0) as (λ t. eq_by_cmp key_cmp q e.0 ≡ t → cond t (Some e.1) (at_key es q) ≡ Some v → (i : ℕ) × (slice_get (e ∷ es) i ≡ Some (q, v))) [
      | true ↦ λ t is. (0, λ i. Some (sym (same_key q e.0 t) i, same_Some e.1 v is i))
      | false ↦ λ t is. let rest = place_of es q v is in (suc rest.0, rest.1)
    ] refl s

-- the index of an element
pub at_contains : {X : Type 0} (xs : List X) (x : X) → Contains xs x → (i : ℕ) × (slice_get xs i ≡ Some x)
at_contains xs x c = (c.0, slice_get-get_or xs c.0 x c.1 ∙ ap Some c.2)

pub contains_at : {X : Type 0} (xs : List X) (i : ℕ) (x : X) → slice_get xs i ≡ Some x → Contains xs x
contains_at xs i x s = (i, slice_get_within xs i x s, get_or_from_slice_get xs i x x s)
