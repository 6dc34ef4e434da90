-- The least key above another one.
use Rattle.std.proofs.Common.{◌≡◌, ◌≢◌, ◌⊎◌, inl, inr, ℕ, zero, suc, ◌+◌, ◌<◌, Bool, true, false, cond, List, [], ◌∷◌, ◌++◌, length, get_or, take, drop, Option, Some, None, refl, sym, ◌∙◌, ap, subst, append_assoc, arith}
use lib.Dec.{T}
use Rattle.std.specs.Prelude.{◌&&◌, slice_get}
use Rattle.std.specs.List.{Contains}
use Rattle.std.specs.Ordering.{is_eq, is_lt, eq_by_cmp, ordering_reverse}
use Rattle.std.specs.declared.cmp.Ordering.{Ordering}
use Rattle.std.specs.declared.cmp.Ordering.TheVariants.{Less, Equal, Greater}
use Rattle.std.specs.Cmp.Lexicographic.{nat_list_cmp_total}
use Rattle.std.specs.FinMap.{entries_sorted, from_entries}
use Rattle.std.specs.FinMap.Entries.{below_all, is_sorted, same_entries, is_sorted-where_key, find-where_key}
use Rattle.std.proofs.lemmas.Option.{none-some, same_Some}
use Rattle.std.proofs.lemmas.List.{take_more}
use Rattle.craq_names.specs.Maps.{at_key, key_cmp}
use Rattle.craq_key_map.specs.Mapped.{Mapped, entries_of, key_of}
use Rattle.craq_key_map.specs.declared.index.Slot.{Slot}
use Rattle.craq_key_map.specs.Rising.{entries_above, is_above, least_of, lesser, IsNext}
use Rattle.craq_key_map.proofs.Lookups.{at_entries, exact, none_first, own_key, same_key, true_false}
use Rattle.craq_key_map.proofs.Chunking.{nil_after}
use Rattle.craq_key_map.proofs.Splitting.{contains_more}

take_all : {X : Type 0} (xs : List X) → take (length xs) xs ≡ xs
take_all [] = refl
take_all (x ∷ xs) = ap (λ ys. x ∷ ys) (take_all xs)

-- the entry is above the last one, and no key between them is among these
record IsLeastAt {V : Type 0} (last : Option (List ℕ)) (xs : Mapped V) (e : List ℕ × V) : Type 0 where
  above : is_above last e.0 ≡ true
  at : at_key xs e.0 ≡ Some e.1
  least : (q : List ℕ) → is_above last q ≡ true → key_cmp q e.0 ≡ Less → at_key xs q ≡ None

abbrev IsLeast : {V : Type 0} → Option (List ℕ) → Mapped V → Option (List ℕ × V) → Type 0
IsLeast last xs None = (q : List ℕ) → is_above last q ≡ true → at_key xs q ≡ None
IsLeast last xs (Some e) = IsLeastAt last xs e

lt_of : (r : Ordering) → is_lt r ≡ true → r ≡ Less
lt_of Less h = refl
lt_of Equal h = absurd (true_false (sym h))
lt_of Greater h = absurd (true_false (sym h))

-- keys that a test tells apart are not equal
apart_by : (f : List ℕ → Bool) (q key : List ℕ) → f q ≡ true → f key ≡ false → eq_by_cmp key_cmp q key ≡ false
apart_by f q key holds fails =
    elim (eq_by_cmp key_cmp q key) as (λ b. eq_by_cmp key_cmp q key ≡ b → b ≡ false) [
      | true ↦ λ e. absurd (true_false (sym holds ∙ ap f (same_key q key e) ∙ fails))
      | false ↦ λ e. refl
    ] refl

some_first : {V : Type 0} (q : List ℕ) (xs ys : Mapped V) (v : V) → at_key xs q ≡ Some v → at_key (xs ++ ys) q ≡ Some v
some_first q [] ys v is = absurd (none-some v is)
some_first {V} q (e ∷ es) ys v is =
    elim (eq_by_cmp key_cmp q e.0) as (λ b. cond b (Some e.1) (at_key es q) ≡ Some v → cond b (Some e.1) (at_key (es ++ ys) q) ≡ Some v) [
      | true ↦ λ h. h
      | false ↦ λ h. some_first q es ys v h
    ] is

module _ {V : Type 0} (last : Option (List ℕ)) (xs : Mapped V) (e : List ℕ × V) where
  -- a key that is in neither is not in the longer list
  not_more : (q : List ℕ) → at_key xs q ≡ None → eq_by_cmp key_cmp q e.0 ≡ false → at_key (xs ++ e ∷ []) q ≡ None
  not_more q none apart = none_first q xs (e ∷ []) none ∙ ap (λ b. cond b (Some e.1) None) apart

  own_more : at_key xs e.0 ≡ None → at_key (xs ++ e ∷ []) e.0 ≡ Some e.1
  own_more none = none_first e.0 xs (e ∷ []) none ∙ ap (λ b. cond b (Some e.1) None) (own_key e.0)

  -- the least entry stays
  kept : (b : List ℕ × V) → IsLeastAt last xs b → ((q : List ℕ) → is_above last q ≡ true → key_cmp q b.0 ≡ Less → eq_by_cmp key_cmp q e.0 ≡ false) → IsLeastAt last (xs ++ e ∷ []) b
  kept b h apart =
      record {
        above = h.above;
        at = some_first b.0 xs (e ∷ []) b.1 h.at;
        least = λ q above low. not_more q (h.least q above low) (apart q above low);
      }

  -- the new entry is the least one
  taken : is_above last e.0 ≡ true → ((q : List ℕ) → is_above last q ≡ true → (key_cmp q e.0 ≡ Less) → at_key xs q ≡ None) → at_key xs e.0 ≡ None → IsLeastAt last (xs ++ e ∷ []) e
  taken above none own =
      record {
        above = above;
        at = own_more own;
        least = λ q over low. not_more q (none q over low) (ap is_eq low);
      }

  -- one more entry
  grown : (least : Option (List ℕ × V)) → IsLeast last xs least → IsLeast last (xs ++ e ∷ []) (lesser last least e)
  grown None h =
      elim (is_above last e.0) as (λ t. is_above last e.0 ≡ t → IsLeast last (xs ++ e ∷ []) (cond (t && true) (Some e) None)) [
        | true ↦ λ t. taken t (λ q over low. h q over) (h e.0 t)
        | false ↦ λ t q over. not_more q (h q over) (apart_by (is_above last) q e.0 over t)
      ] refl
  grown (Some b) h =
      elim (is_above last e.0) as (λ t. is_above last e.0 ≡ t → IsLeast last (xs ++ e ∷ []) (cond (t && is_lt (key_cmp e.0 b.0)) (Some e) (Some b))) [
        | true ↦ λ t. elim (is_lt (key_cmp e.0 b.0)) as (λ s. is_lt (key_cmp e.0 b.0) ≡ s → IsLeast last (xs ++ e ∷ []) (cond s (Some e) (Some b))) [
          | true ↦ λ s. let under = lt_of (key_cmp e.0 b.0) s in taken t (λ q over low. h.least q over (nat_list_cmp_total.trans q e.0 b.0 low under)) (h.least e.0 t under)
          | false ↦ λ s. kept b h (λ q over low. apart_by (λ k. is_lt (key_cmp k b.0)) q e.0 (ap is_lt low) s)
        ] refl
        | false ↦ λ t. kept b h (λ q over low. apart_by (is_above last) q e.0 over t)
      ] refl

-- more entries
least_grows : {V : Type 0} (last : Option (List ℕ)) (xs ys : Mapped V) (least : Option (List ℕ × V)) → IsLeast last xs least → IsLeast last (xs ++ ys) (least_of last least ys)
least_grows {V} last xs [] least h = subst (λ (zs : Mapped V). IsLeast last zs least) (sym (nil_after xs)) h
least_grows {V} last xs (e ∷ es) least h =
    subst (λ (zs : Mapped V). IsLeast last zs (least_of last (lesser last least e) es)) (append_assoc xs (e ∷ []) es) (least_grows last (xs ++ e ∷ []) es (lesser last least e) (grown last xs e least h))

both : (a b : Bool) → T a → T b → T (a && b)
both true b p q = q
both false b p q = p

below_above : {V : Type 0} (key : List ℕ) (es : Mapped V) → T (below_all key_cmp key (entries_above (Some key) es))
below_above key [] = tt
below_above key (e ∷ es) =
    elim (is_lt (key_cmp key e.0)) as (λ t. is_lt (key_cmp key e.0) ≡ t → T (below_all key_cmp key (cond t (e ∷ entries_above (Some key) es) (entries_above (Some key) es)))) [
      | true ↦ λ t. both _ _ (subst T (sym t) tt) (below_above key es)
      | false ↦ λ t. below_above key es
    ] refl

above_more : (last : Option (List ℕ)) (key q : List ℕ) → is_above last key ≡ true → key_cmp key q ≡ Less → is_above last q ≡ true
above_more None key q above less = refl
above_more (Some low) key q above less = ap is_lt (nat_list_cmp_total.trans low key q (lt_of (key_cmp low key) above) less)

found_above : {V : Type 0} (last : Option (List ℕ)) (es : Mapped V) (q : List ℕ) → at_key (entries_above last es) q ≡ cond (is_above last q) (at_key es q) None
found_above last es q = find-where_key key_cmp (is_above last) q (λ x e. ap (is_above last) (sym (exact q x e))) es

none_where : {V : Type 0} (o : Option V) (b : Bool) → (b ≡ true → o ≡ None) → cond b o None ≡ None
none_where o true h = h refl
none_where o false h = refl

module _ {V : Type 0} (last : Option (List ℕ)) (es : Mapped V) (sorted : T (is_sorted key_cmp es)) where
  above_sorted : T (is_sorted key_cmp (entries_above last es))
  above_sorted = is_sorted-where_key key_cmp (is_above last) es sorted

  module _ (e : List ℕ × V) (h : IsLeastAt last es e) where
    same_found : (q : List ℕ) → cond (is_above last q) (at_key es q) None ≡ at_key (e ∷ entries_above (Some e.0) es) q
    same_found q =
        elim (key_cmp q e.0) as (λ r. key_cmp q e.0 ≡ r → cond (is_above last q) (at_key es q) None ≡ cond (is_eq r) (Some e.1) (at_key (entries_above (Some e.0) es) q)) [
          | Less ↦ λ r. none_where (at_key es q) (is_above last q) (λ t. h.least q t r)
              ∙ sym (found_above (Some e.0) es q ∙ ap (λ t. cond (is_lt t) (at_key es q) None) (nat_list_cmp_total.antisymm e.0 q ∙ ap ordering_reverse r))
          | Equal ↦ λ r. ap (λ k. cond (is_above last k) (at_key es k) None) (exact q e.0 r) ∙ ap (λ t. cond t (at_key es e.0) None) h.above ∙ h.at
          | Greater ↦ λ r. let less : key_cmp e.0 q ≡ Less = nat_list_cmp_total.antisymm e.0 q ∙ ap ordering_reverse r in
              ap (λ t. cond t (at_key es q) None) (above_more last e.0 q h.above less) ∙ sym (found_above (Some e.0) es q ∙ ap (λ t. cond (is_lt t) (at_key es q) None) less)
        ] refl

    first_above : entries_above last es ≡ e ∷ entries_above (Some e.0) es
    first_above =
        same_entries key_cmp nat_list_cmp_total exact (entries_above last es) (e ∷ entries_above (Some e.0) es) above_sorted
        (both _ _ (below_above e.0 es) (is_sorted-where_key key_cmp (is_above (Some e.0)) es sorted))
        (λ q. found_above last es q ∙ same_found q)

  next_of : (least : Option (List ℕ × V)) → IsLeast last es least → IsNext es last least
  next_of None h =
      same_entries key_cmp nat_list_cmp_total exact (entries_above last es) [] above_sorted tt
      (λ q. found_above last es q ∙ none_where (at_key es q) (is_above last q) (h q))
  next_of (Some e) h = first_above e h

-- the least of all entries, in any order, is the least of the sorted ones
same_least : {V : Type 0} (m : Mapped V) (last : Option (List ℕ)) (least : Option (List ℕ × V)) → IsLeast last (m) least → IsLeast last (entries_of m) least
same_least m last None h = λ q over. at_entries m q ∙ h q over
same_least m last (Some e) h =
    record {
      above = h.above;
      at = at_entries m e.0 ∙ h.at;
      least = λ q over low. at_entries m q ∙ h.least q over low;
    }

-- the least entry of all is the next one
pub next_found : {V : Type 0} (m : Mapped V) (n : ℕ) → n ≡ length m → (last : Option (List ℕ)) (least : Option (List ℕ × V)) → least ≡ least_of last None (take n m) → IsNext (entries_of m) last least
next_found {V} m n count last least is =
    subst (IsNext (entries_of m) last) (sym (is ∙ ap (λ k. least_of last None (take k m)) count ∙ ap (least_of last None) (take_all m)))
    (next_of last (entries_of m) (entries_sorted (from_entries m)) (least_of last None m) (same_least m last (least_of last None m) (least_grows last [] m None (λ q over. refl))))

-- the entries of one list after those of another
pub least_append : {V : Type 0} (last : Option (List ℕ)) (least : Option (List ℕ × V)) (xs ys : Mapped V) → least_of last least (xs ++ ys) ≡ least_of last (least_of last least xs) ys
least_append last least [] ys = refl
least_append last least (e ∷ es) ys = least_append last (lesser last least e) es ys

-- one more entry
pub least_more : {V : Type 0} (last : Option (List ℕ)) (least now : Option (List ℕ × V)) (b : Mapped V) (i : ℕ) (e : List ℕ × V) → i < length b → e ≡ get_or b i e → now ≡ least_of last least (take i b) → lesser last now e ≡ least_of last least (take (i + 1) b)
least_more {V} last least now b i e low is here =
    ap (λ (o : Option (List ℕ × V)). lesser last o e) here ∙ sym (least_append last least (take i b) (e ∷ [])) ∙ ap (λ (x : List ℕ × V). least_of last least (take i b ++ x ∷ [])) is ∙ ap (least_of last least) (sym (take_more b i e low))

-- without a last key all entries are above
pub all_above : {V : Type 0} (es : Mapped V) → entries_above None es ≡ es
all_above [] = refl
all_above (e ∷ es) = ap (λ fs. e ∷ fs) (all_above es)

-- the item at an index is the first of those from it on
pub drop_next : {X : Type 0} (xs : List X) (i : ℕ) (x : X) → slice_get xs i ≡ Some x → drop i xs ≡ x ∷ drop (i + 1) xs
drop_next [] i x s = absurd (none-some x s)
drop_next {X} (y ∷ ys) zero x s = ap (λ (z : X). z ∷ ys) (same_Some y x s)
drop_next (y ∷ ys) (suc i) x s =
    let same : suc (i + 1) ≡ suc i + 1 = omega arith in
    drop_next ys i x s ∙ ap (λ n. x ∷ drop n (y ∷ ys)) same

-- no key of one more slot is the one
pub none_more : {V : Type 0} (m : Mapped V) (slots : List Slot) (i : ℕ) (x : Slot) (hash : ℕ) (key : List ℕ) → i < length slots → x ≡ get_or slots i x → ((place : ℕ) → Contains (take i slots) (record { hash = hash; place = place }) → key_of m place ≢ Some key)
    → (x.hash ≡ hash → key_of m x.place ≢ Some key) → (place : ℕ) → Contains (take (i + 1) slots) (record { hash = hash; place = place }) → key_of m place ≢ Some key
none_more m slots i x hash key low is before not_here place has =
    let y : Slot = record { hash = hash; place = place } in
    let more : take (i + 1) slots ≡ take i slots ++ x ∷ [] = take_more slots i x low ∙ ap (λ (z : Slot). take i slots ++ z ∷ []) (sym is) in
    let split : Contains (take i slots) y ⊎ (y ≡ x) → key_of m place ≢ Some key = elim [
      | inl e ↦ before place e
      | inr e ↦ λ at. not_here (ap (λ (z : Slot). z.hash) (sym e)) (ap (λ (z : Slot). key_of m z.place) (sym e) ∙ at)
    ] in
    split (contains_more (take i slots) x y (subst (λ (zs : List Slot). Contains zs y) more has))
