-- A list that is taken out of a map, changed, and put back.
use Rattle.std.proofs.Common.{◌≡◌, List, ℕ, Some, None, cond, sym, ◌∙◌, ap, arith, subst}
use Rattle.std.specs.List.Sorted.{IsStrictlySortedBy}
use Rattle.std.specs.Map.{keys_of}
use Rattle.craq_names.specs.Maps.{at_key, key_cmp, put_key}
use Rattle.craq_key_map.specs.Mapped.{Mapped, entries_of, key_of}
use Rattle.craq_key_map.proofs.Sorting.{entries_rise}
use Rattle.craq_versions.specs.Versions.{Versions}
use Rattle.craq_versions.specs.Tables.{table_of, Entries, KeepsOthersRoom, KeepsRoom}
use Rattle.craq_versions.proofs.Written.{found_is, list_of, own_place, written_put, written_twice, IsWritten}

-- the keys of a map are strictly increasing
pub rise : {V : Type 0} (m : Mapped (Versions V)) → IsStrictlySortedBy key_cmp (keys_of (entries_of m))
rise m = entries_rise m

-- a list is taken out, and another one put in its place
pub put_back : {V : Type 0} (m n k : Mapped (Versions V)) (place : ℕ) (key : List ℕ) (empty list : Versions V) → key_of m place ≡ Some key
    → ((key : List ℕ) → key_of m place ≡ Some key → entries_of n ≡ put_key (entries_of m) key empty) → key_of n place ≡ key_of m place
    → ((key : List ℕ) → key_of n place ≡ Some key → entries_of k ≡ put_key (entries_of n) key list) → IsWritten (entries_of m) (entries_of k) key list
put_back m n k place key empty list at taken places put =
    written_twice (entries_of m) (entries_of n) (entries_of k) key empty list (taken key at) (put key (places ∙ at))

-- the list that is found
pub was : {V : Type 0} (m : Mapped (Versions V)) (key : List ℕ) (list : Versions V) → at_key (entries_of m) key ≡ Some list → Some list ≡ list_of (entries_of m) key
was m key list at = sym (sym (found_is (entries_of m) key) ∙ at)

-- no list is found
pub was_none : {V : Type 0} (m : Mapped (Versions V)) (key : List ℕ) → at_key (entries_of m) key ≡ None → None ≡ list_of (entries_of m) key
was_none m key at = sym (sym (found_is (entries_of m) key) ∙ at)

-- a list that is put is found
pub put_found : {V : Type 0} (es gs : Entries V) (key : List ℕ) (list : Versions V) → gs ≡ put_key es key list → at_key gs key ≡ Some list
put_found es gs key list is = found_is gs key ∙ written_put es gs key list is key ∙ ap (λ b. cond b (Some list) (list_of es key)) (own_place key)

-- equal lists have equal room
pub keeps_room : {V : Type 0} (es gs : Entries V) → gs ≡ es → KeepsRoom (table_of es) (table_of gs)
keeps_room {V} es gs is = subst (λ (xs : Entries V). KeepsRoom (table_of es) (table_of xs)) (sym is) (λ q. omega arith)

pub keeps_others : {V : Type 0} (es gs : Entries V) (key : List ℕ) → gs ≡ es → KeepsOthersRoom (table_of es) (table_of gs) key
keeps_others {V} es gs key is = subst (λ (xs : Entries V). KeepsOthersRoom (table_of es) (table_of xs) key) (sym is) (λ q other. omega arith)
