-- A map is written.
use Rattle.std.proofs.Common.{◌≡◌, ◌≢◌, ◌⊎◌, inl, inr, ℕ, zero, suc, ◌+◌, ◌<◌, Bool, true, false, cond, List, [], ◌∷◌, ◌++◌, length, set, Some, None, refl, sym, ◌∙◌, ap, subst, arith, length-append, length-set}
use Rattle.std.specs.Prelude.{IfNone, IsSome, Option, is_some, slice_get}
use Rattle.std.specs.Ordering.{eq_by_cmp}
use Rattle.std.specs.Cmp.{eq_by_cmp_equiv}
use Rattle.std.specs.Cmp.Lexicographic.{nat_list_cmp_total}
use Rattle.std.specs.FinMap.{entries_sorted, from_entries}
use Rattle.std.specs.FinMap.Entries.{find-append, find-put, is_some-find, is_sorted-put, same_entries}
use Rattle.std.specs.List.{IsDistinct}
use Rattle.craq_key_map.specs.declared.sip.Sip.{Sip}
use Rattle.std.specs.Option.{option_map}
use Rattle.std.proofs.lemmas.Option.{none-some, same_Some, slice_get-map}
use Rattle.std.proofs.lemmas.Map.Keys.{IsDistinct-head, IsDistinct-push, IsDistinct-tail}
use Rattle.craq_names.specs.Maps.{at_key, key_cmp, put_key}
use Rattle.craq_key_map.specs.Indexed.{Indexed, Keeps, Knows}
use Rattle.craq_key_map.specs.Mapped.{Mapped, AreDistinct, IsMapped, entries_of, hash_of, key_of, keys_in}
use Rattle.craq_key_map.proofs.Lookups.{exact, at_entries, found_at, place_of, same_key, true_false, all_at}

-- a map with one key's look-up changed has that key put
pub put_map : {T : Type 0} (m n : Mapped T) (key : List ℕ) (item : T) → ((q : List ℕ) → at_key n q ≡ cond (eq_by_cmp key_cmp q key) (Some item) (at_key m q)) → entries_of n ≡ put_key (entries_of m) key item
put_map m n key item h =
    same_entries key_cmp nat_list_cmp_total exact (entries_of n) (put_key (entries_of m) key item) (entries_sorted (from_entries n))
    (is_sorted-put key_cmp nat_list_cmp_total key item (entries_of m) (entries_sorted (from_entries m)))
    (λ q. at_entries n q ∙ h q ∙ ap (cond (eq_by_cmp key_cmp q key) (Some item)) (sym (at_entries m q)) ∙ sym (find-put key_cmp nat_list_cmp_total q key item (entries_of m)))

-- an item of a list after one is set: that one, or another that was there
pub set_cases : {X : Type 0} (xs : List X) (i j : ℕ) (c d : X) → slice_get (set xs i c) j ≡ Some d → ((j ≡ i) × (d ≡ c)) ⊎ ((j ≢ i) × (slice_get xs j ≡ Some d))
set_cases [] i j c d s = absurd (none-some d s)
set_cases (x ∷ xs) zero zero c d s = inl (refl, sym (same_Some c d s))
set_cases (x ∷ xs) zero (suc j) c d s = inr (λ e. omega (arith, e), s)
set_cases (x ∷ xs) (suc i) zero c d s = inr (λ e. omega (arith, e), s)
set_cases (x ∷ xs) (suc i) (suc j) c d s =
    let split : ((j ≡ i) × (d ≡ c)) ⊎ ((j ≢ i) × (slice_get xs j ≡ Some d)) → ((suc j ≡ suc i) × (d ≡ c)) ⊎ ((suc j ≢ suc i) × (slice_get xs j ≡ Some d)) = elim [
      | inl h ↦ inl (ap suc h.0, h.1)
      | inr h ↦ inr (λ e. h.0 (omega (arith, e)), h.1)
    ] in
    split (set_cases xs i j c d s)

-- an item of a list after one is added: one that was there, or that one
pub append_cases : {X : Type 0} (xs : List X) (y d : X) (j : ℕ) → slice_get (xs ++ y ∷ []) j ≡ Some d → ((j < length xs) × (slice_get xs j ≡ Some d)) ⊎ ((j ≡ length xs) × (d ≡ y))
append_cases [] y d zero s = inr (refl, sym (same_Some y d s))
append_cases [] y d (suc j) s = absurd (none-some d s)
append_cases (x ∷ xs) y d zero s = inl (omega arith, s)
append_cases (x ∷ xs) y d (suc j) s =
    let split : ((j < length xs) × (slice_get xs j ≡ Some d)) ⊎ ((j ≡ length xs) × (d ≡ y)) → ((suc j < length (x ∷ xs)) × (slice_get xs j ≡ Some d)) ⊎ ((suc j ≡ length (x ∷ xs)) × (d ≡ y)) = elim [
      | inl h ↦ inl (omega (arith, h.0), h.1)
      | inr h ↦ inr (ap suc h.0, h.1)
    ] in
    split (append_cases xs y d j s)

keys_more : {T : Type 0} (b : Mapped T) (key : List ℕ) (item : T) → keys_in (b ++ (key, item) ∷ []) ≡ keys_in b ++ key ∷ []
keys_more [] key item = refl
keys_more (e ∷ es) key item = ap (λ ks. e.0 ∷ ks) (keys_more es key item)

-- a key that is absent is added at the end, and its keys stay distinct
pub once_more : {T : Type 0} (b : Mapped T) (key : List ℕ) (item : T) → AreDistinct b → at_key b key ≡ None → AreDistinct (b ++ (key, item) ∷ [])
once_more b key item once none =
    subst (IsDistinct (eq_by_cmp key_cmp)) (sym (keys_more b key item))
    (IsDistinct-push (eq_by_cmp_equiv nat_list_cmp_total) (keys_in b) key once (sym (is_some-find key_cmp key b) ∙ ap is_some none))

pub found_more : {T : Type 0} (b : Mapped T) (key : List ℕ) (item : T) → at_key b key ≡ None → (q : List ℕ) → at_key (b ++ (key, item) ∷ []) q ≡ cond (eq_by_cmp key_cmp q key) (Some item) (at_key b q)
found_more b key item none q = find-append key_cmp nat_list_cmp_total b key item q none

-- another item at the place of a key leaves the keys
pub keys_set : {T : Type 0} (b : Mapped T) (i : ℕ) (e : List ℕ × T) (item : T) → slice_get b i ≡ Some e → keys_in (set b i (e.0, item)) ≡ keys_in b
keys_set [] i e item s = absurd (none-some e s)
keys_set {T} (f ∷ fs) zero e item s = ap (λ (x : List ℕ × T). x.0 ∷ keys_in fs) (sym (same_Some f e s))
keys_set (f ∷ fs) (suc i) e item s = ap (λ ks. f.0 ∷ ks) (keys_set fs i e item s)

shadowed : {A : Type 0} (b : Bool) (x y z : A) → cond b x z ≡ cond b x (cond b y z)
shadowed true x y z = refl
shadowed false x y z = refl

swapped : {A : Type 0} (a b : Bool) (x y z : A) → (a ≡ true → b ≡ true → ⊥) → cond a x (cond b y z) ≡ cond b y (cond a x z)
swapped true true x y z apart = absurd (apart refl refl)
swapped true false x y z apart = refl
swapped false b x y z apart = refl

-- look-ups after another item is set at the place of a key
pub found_set : {T : Type 0} (b : Mapped T) (i : ℕ) (e : List ℕ × T) (item : T) → AreDistinct b → slice_get b i ≡ Some e → (q : List ℕ) → at_key (set b i (e.0, item)) q ≡ cond (eq_by_cmp key_cmp q e.0) (Some item) (at_key b q)
found_set [] i e item once s q = absurd (none-some e s)
found_set {T} (f ∷ fs) zero e item once s q =
    let same : f ≡ e = same_Some f e s in
    shadowed (eq_by_cmp key_cmp q e.0) (Some item) (Some e.1) (at_key fs q) ∙ ap (λ (x : List ℕ × T). cond (eq_by_cmp key_cmp q e.0) (Some item) (at_key (x ∷ fs) q)) (sym same)
found_set {T} (f ∷ fs) (suc i) e item once s q =
    let apart : eq_by_cmp key_cmp f.0 e.0 ≡ false = all_at (λ y. eq_by_cmp key_cmp f.0 y ≡ false) fs i e (IsDistinct-head (eq_by_cmp key_cmp) f.0 (keys_in fs) once) s in
    let never : eq_by_cmp key_cmp q f.0 ≡ true → eq_by_cmp key_cmp q e.0 ≡ true → ⊥
    = λ first other. true_false (sym other ∙ ap (λ k. eq_by_cmp key_cmp k e.0) (same_key q f.0 first) ∙ apart) in
    ap (cond (eq_by_cmp key_cmp q f.0) (Some f.1)) (found_set fs i e item (IsDistinct-tail (eq_by_cmp key_cmp) f.0 (keys_in fs) once) s q)
    ∙ swapped (eq_by_cmp key_cmp q f.0) (eq_by_cmp key_cmp q e.0) (Some f.1) (Some item) (at_key fs q) never

-- the key at a place, as code finds it
pub key_at : {T : Type 0} (m : Mapped T) (place : ℕ) (e : List ℕ × T) → slice_get m place ≡ Some e → key_of m place ≡ Some e.0
key_at {T} m place e at = ap (option_map (λ (x : List ℕ × T). x.0)) at

-- the item at the place of a key is the key's
pub at_place : {T : Type 0} (m : Mapped T) → AreDistinct m → (place : ℕ) (e : List ℕ × T) → slice_get m place ≡ Some e → (key : List ℕ) → key_of m place ≡ Some key → at_key (entries_of m) key ≡ Some e.1
at_place m once place e at key is =
    let same : e.0 ≡ key = same_Some e.0 key (sym (key_at m place e at) ∙ is) in
    ap (λ k. at_key (entries_of m) k) (sym same) ∙ at_entries m e.0 ∙ found_at m place e once at

key_is : {T : Type 0} (m : Mapped T) (place : ℕ) → key_of m place ≡ slice_get (keys_in m) place
key_is {T} m place = sym (slice_get-map (λ (x : List ℕ × T). x.0) m place)

-- a key at a place that is there
pub place_within : {T : Type 0} (m : Mapped T) (place : ℕ) → IsSome (key_of m place) → place < length m
place_within [] place some = absurd (true_false (sym some))
place_within (e ∷ es) zero some = omega arith
place_within (e ∷ es) (suc place) some = omega (arith, place_within es place some)

-- an item is replaced
module _ {T : Type 0} (m : Mapped T) (count : ℕ) (index : Indexed) (fed : Sip) (h : IsMapped m count index fed) (place : ℕ) (e : List ℕ × T) (item : T) (at : slice_get m place ≡ Some e) where
  abbrev after : Mapped T
  after = set m place (e.0, item)

  pub same_keys : (p : ℕ) → key_of after p ≡ key_of m p
  same_keys p = key_is after p ∙ ap (λ ks. slice_get ks p) (keys_set m place e item at) ∙ sym (key_is m p)

  pub replaced_mapped : IsMapped after count index fed
  replaced_mapped = record {
    counted = h.counted ∙ sym (length-set m place (e.0, item));
    distinct = subst (IsDistinct (eq_by_cmp key_cmp)) (sym (keys_set m place e item at)) h.distinct;
    found = λ p key is. h.found p key (sym (same_keys p) ∙ is);
  }

  pub replaced_entries : (key : List ℕ) → key_of m place ≡ Some key → entries_of after ≡ put_key (entries_of m) key item
  replaced_entries key is =
      put_map m after e.0 item (found_set m place e item h.distinct at) ∙ ap (λ k. put_key (entries_of m) k item) (same_Some e.0 key (sym (key_at m place e at) ∙ is))

-- a key that is absent is inserted
module _ {T : Type 0} (m : Mapped T) (count : ℕ) (old new : Indexed) (fed : Sip) (h : IsMapped m count old fed) (keeps : Keeps old new) (key : List ℕ) (item : T) (absent : at_key (entries_of m) key ≡ None) where
  none : at_key m key ≡ None
  none = sym (at_entries m key) ∙ absent

  pub inserted_entries : entries_of (m ++ (key, item) ∷ []) ≡ put_key (entries_of m) key item
  inserted_entries = put_map m (m ++ (key, item) ∷ []) key item (found_more m key item none)

  pub inserted_mapped : Knows new (hash_of fed key) count → IsMapped (m ++ (key, item) ∷ []) (count + 1) new fed
  inserted_mapped known = record {
    counted = ap (λ n. n + 1) h.counted ∙ sym (length-append m ((key, item) ∷ []));
    distinct = once_more m key item h.distinct none;
    found = λ p k is.
        let there = key_there (m ++ (key, item) ∷ []) p k is in
        let split : ((p < length m) × (slice_get m p ≡ Some there.0)) ⊎ ((p ≡ length m) × (there.0 ≡ (key, item))) → Knows new (hash_of fed k) p = elim [
          | inl e ↦ keeps (hash_of fed k) p (h.found p k (key_at m p there.0 e.1 ∙ ap Some there.2))
          | inr e ↦ subst (λ n. Knows new (hash_of fed k) n) (h.counted ∙ sym e.0) (subst (λ q. Knows new (hash_of fed q) count) (sym (ap (λ (x : List ℕ × T). x.0) e.1) ∙ there.2) known)
        ] in
        split (append_cases m (key, item) there.0 p there.1);
  }
    where
      key_there : (n : Mapped T) (p : ℕ) (k : List ℕ) → key_of n p ≡ Some k → (d : List ℕ × T) × (slice_get n p ≡ Some d) × (d.0 ≡ k)
      key_there n p k is =
          elim (slice_get n p) as (λ o. slice_get n p ≡ o → option_map (λ (x : List ℕ × T). x.0) o ≡ Some k → (d : List ℕ × T) × (slice_get n p ≡ Some d) × (d.0 ≡ k)) [
            | None ↦ λ e f. absurd (none-some k f)
            | Some d ↦ λ e f. (d, e, same_Some d.0 k f)
          ] refl is

-- a key that is at no place is absent
pub absent_of : {T : Type 0} (m : Mapped T) (key : List ℕ) → ((place : ℕ) → key_of m place ≢ Some key) → at_key (entries_of m) key ≡ None
absent_of {T} m key nowhere =
    at_entries m key
    ∙ elim (at_key m key) as (λ o. at_key m key ≡ o → o ≡ None) [
      | None ↦ λ e. refl
      | Some v ↦ λ e. let at = place_of m key v e in absurd (nowhere at.0 (key_at m at.0 (key, v) at.1))
    ] refl

nothing_once : IsDistinct (eq_by_cmp key_cmp) []
unfolding IsDistinct
nothing_once = tt

pub nothing_mapped : {T : Type 0} (index : Indexed) (fed : Sip) → IsMapped {T = T} [] 0 index fed
nothing_mapped {T} index fed = record { counted = refl; distinct = nothing_once; found = λ p key is. absurd (none-some key is) }

-- no keys have no entries
pub no_entries : {T : Type 0} → entries_of {T = T} [] ≡ []
no_entries {T} = same_entries key_cmp nat_list_cmp_total exact (entries_of {T = T} []) [] (entries_sorted (from_entries [])) tt (λ q. at_entries [] q)

-- a weaker conclusion where there is nothing
pub none_weaker : {X P Q : Type 0} (o : Option X) → (P → Q) → IfNone o P → IfNone o Q
none_weaker None f p = f p
none_weaker (Some x) f p = tt
