-- The filled slots of a list whose keys are distinct.
use lib.Dec.{T}
use Rattle.std.proofs.Common.{◌≡◌, ℕ, true, false, cond, List, [], ◌∷◌, Option, Some, None, sym, ◌∙◌, ap, refl}
use Rattle.std.specs.List.{AllByRecursion}
use Rattle.std.specs.List.Sorted.{IsStrictlySortedBy}
use Rattle.std.specs.Map.{keys_of}
use Rattle.std.specs.Option.{option_and_then}
use Rattle.std.specs.Ordering.{eq_by_cmp}
use Rattle.std.specs.Cmp.Lexicographic.{nat_list_cmp_total}
use Rattle.std.specs.FinMap.{entries_sorted, from_entries}
use Rattle.std.specs.FinMap.Entries.{is_sorted, same_entries}
use Rattle.std.proofs.lemmas.Map.Keys.{IsDistinct-cons, IsDistinct-head, IsDistinct-tail}
use Rattle.craq_names.specs.Maps.{at_key, key_cmp}
use Rattle.craq_names.specs.Places.{filled, with_filled}
use Rattle.craq_names.proofs.Places.{find_filled, is_sorted_filled, is_sorted_of}
use Rattle.craq_key_map.specs.Mapped.{Mapped, AreDistinct, AreEntries, entries_of, keys_in}
use Rattle.craq_key_map.proofs.Lookups.{at_entries, exact, same_key}

-- a key that differs from all is absent
none_there : {V : Type 0} (key : List ℕ) (es : Mapped V) → AllByRecursion (λ y. eq_by_cmp key_cmp key y ≡ false) (keys_in es) → at_key es key ≡ None
none_there key [] h = refl
none_there key (e ∷ es) h = ap (λ b. cond b (Some e.1) (at_key es key)) h.0 ∙ none_there key es h.1

module _ {V X : Type 0} (f : V → Option X) where
  all_filled : (P : List ℕ → Type 0) (es : Mapped V) → AllByRecursion P (keys_in es) → AllByRecursion P (keys_in (filled f es))
  all_filled P [] h = tt
  all_filled P (e ∷ es) h =
      let rest = all_filled P es h.1 in
      elim (f e.1) as (λ x. AllByRecursion P (keys_in (with_filled e.0 x (filled f es)))) [ None ↦ rest | Some x ↦ (h.0, rest) ]

  -- the keys of the filled slots are distinct
  pub distinct_filled : (es : Mapped V) → AreDistinct es → AreDistinct (filled f es)
  distinct_filled [] once = once
  distinct_filled (e ∷ es) once =
      let rest = distinct_filled es (IsDistinct-tail (eq_by_cmp key_cmp) e.0 (keys_in es) once) in
      let apart = all_filled (λ y. eq_by_cmp key_cmp e.0 y ≡ false) es (IsDistinct-head (eq_by_cmp key_cmp) e.0 (keys_in es) once) in
      elim (f e.1) as (λ x. AreDistinct (with_filled e.0 x (filled f es))) [
        | None ↦ rest
        | Some x ↦ IsDistinct-cons (eq_by_cmp key_cmp) e.0 (keys_in (filled f es)) apart rest
      ]

  -- a look-up in the filled slots gives the content of the key's slot
  pub found_filled : (q : List ℕ) (es : Mapped V) → AreDistinct es → at_key (filled f es) q ≡ option_and_then f (at_key es q)
  found_filled q [] once = refl
  found_filled q (e ∷ es) once =
      let rest = found_filled q es (IsDistinct-tail (eq_by_cmp key_cmp) e.0 (keys_in es) once) in
      elim (eq_by_cmp key_cmp q e.0) as (λ b. eq_by_cmp key_cmp q e.0 ≡ b → at_key (with_filled e.0 (f e.1) (filled f es)) q ≡ option_and_then f (cond b (Some e.1) (at_key es q))) [
        | true ↦ λ t.
            let none : at_key es q ≡ None = ap (at_key es) (same_key q e.0 t) ∙ none_there e.0 es (IsDistinct-head (eq_by_cmp key_cmp) e.0 (keys_in es) once) in
            let nothing = rest ∙ ap (option_and_then f) none in
            elim (f e.1) as (λ x. at_key (with_filled e.0 x (filled f es)) q ≡ x) [
              | None ↦ nothing
              | Some x ↦ ap (λ b. cond b (Some x) (at_key (filled f es) q)) t
            ]
        | false ↦ λ t.
            elim (f e.1) as (λ x. at_key (with_filled e.0 x (filled f es)) q ≡ option_and_then f (at_key es q)) [
              | None ↦ rest
              | Some x ↦ ap (λ b. cond b (Some x) (at_key (filled f es) q)) t ∙ rest
            ]
      ] refl

  -- the filled slots in any order are those in the order of the keys
  pub same_filled : (es : Mapped V) → AreDistinct es → AreEntries (filled f es) (filled f (entries_of es))
  same_filled es once = record {
    distinct = distinct_filled es once;
    found = λ q.
        found_filled q es once ∙ ap (option_and_then f) (sym (at_entries es q)) ∙ sym (find_filled key_cmp f nat_list_cmp_total q (entries_of es) (entries_sorted (from_entries es)));
  }

  -- the filled slots of the same entries
  pub entries_filled : (es m : Mapped V) → IsStrictlySortedBy key_cmp (keys_of m) → AreEntries es m → AreEntries (filled f es) (filled f m)
  entries_filled es m rise h = record {
    distinct = distinct_filled es h.distinct;
    found = λ q. found_filled q es h.distinct ∙ ap (option_and_then f) (h.found q) ∙ sym (find_filled key_cmp f nat_list_cmp_total q m (is_sorted_of key_cmp f m rise));
  }

  -- entries of a sorted list's filled slots are those slots, once they are in order
  pub sorted_filled : (m : Mapped V) (es ys : Mapped X) → IsStrictlySortedBy key_cmp (keys_of m) → AreEntries es (filled f m) → T (is_sorted key_cmp ys) → AreEntries ys es → ys ≡ filled f m
  sorted_filled m es ys rise h sorted same =
      same_entries key_cmp nat_list_cmp_total exact ys (filled f m) sorted (is_sorted_filled key_cmp f m (is_sorted_of key_cmp f m rise)) (λ q. same.found q ∙ h.found q)
