-- A bucket of an index is written, or split.
use Rattle.std.specs.declared.alloc.Global.{Global}
use Rattle.std.proofs.Common.{◌≡◌, ◌≢◌, ◌⊎◌, inl, inr, ℕ, zero, suc, ◌+◌, ◌-◌, ◌*◌, ◌/◌, ◌%◌, ◌<◌, ◌≤◌, Bool, true, false, cond, List, [], ◌∷◌, ◌++◌, map, length, set, Option, Some, None, Vec, refl, sym, ◌∙◌, ap, subst, arith, length-set, length-append, eq-eqb}
use Rattle.std.specs.Prelude.{slice_get, nat_lt, not, unwrap_or, OnOk, OnErr, Result, Ok, Err}
use Rattle.std.specs.List.{filter, Contains}
use Rattle.std.specs.Option.{option_map}
use Rattle.std.proofs.Math.Nat.{add-mul, mul-add}
use Rattle.std.proofs.lemmas.Bool.{cases_lt, eqb-true, ltb-true, ltb-false}
use Rattle.std.proofs.lemmas.List.{map-set}
use Rattle.std.proofs.lemmas.Nat.{div-add-mod', mod-mul-add, mod_below}
use Rattle.std.proofs.lemmas.Option.{none-some, same_Some, slice_get-map, slice_get_within}
use Rattle.craq_key_map.specs.Indexed.{Indexed, IsIndexed, bucket_of, folded, goes, indexed, slots_going, slots_staying, Keeps, Knows}
use Rattle.craq_key_map.specs.declared.index.Slot.{Slot}
use Rattle.craq_key_map.specs.declared.layout.Layout.{Layout}
use Rattle.craq_key_map.proofs.Chunking.{get_set, lt_true, set_twice}
use Rattle.craq_key_map.proofs.Lookups.{at_contains, bucket_below, contains_at, some_at, true_false}
use Rattle.craq_key_map.proofs.Writes.{append_cases, set_cases}

lt_false : (m n : ℕ) → n ≤ m → nat_lt m n ≡ false
lt_false m n h = elim (nat_lt m n) as (λ b. nat_lt m n ≡ b → b ≡ false) [ true ↦ λ e. absurd (omega (arith, h, ltb-true m n e)) | false ↦ λ e. refl ] refl

folded_low : (r half count : ℕ) → r < count → folded r half count ≡ r
folded_low r half count h = ap (λ b. cond b r (r - half)) (lt_true r count h)

folded_high : (r half count : ℕ) → count ≤ r → folded r half count ≡ r - half
folded_high r half count h = ap (λ b. cond b r (r - half)) (lt_false r count h)

three : (r count : ℕ) → (r < count) ⊎ ((r ≡ count) ⊎ (count < r))
three r count =
    elim (nat_lt r count) as (λ b. nat_lt r count ≡ b → (r < count) ⊎ ((r ≡ count) ⊎ (count < r))) [
      | true ↦ λ e. inl (ltb-true r count e)
      | false ↦ λ e. elim (nat_lt count r) as (λ b. nat_lt count r ≡ b → (r < count) ⊎ ((r ≡ count) ⊎ (count < r))) [
        | true ↦ λ f. inr (inr (ltb-true count r f))
        | false ↦ λ f. inr (inl (omega (arith, ltb-false r count e, ltb-false count r f)))
      ] refl
    ] refl

-- a hash that goes to the next bucket comes from the bucket that is split; all others stay
next_moved : (r half count : ℕ) → r < half + half → half ≤ count → folded r half (count + 1) ≡ count → folded r half count ≡ count - half
next_moved r half count small from goes =
    let split : (r < count) ⊎ ((r ≡ count) ⊎ (count < r)) → folded r half count ≡ count - half = elim [
      | inl low ↦ absurd (omega (arith, low, goes, folded_low r half (count + 1) (omega (arith, low))))
      | inr rest ↦ elim rest as (λ _. folded r half count ≡ count - half) [
        | inl same ↦ folded_high r half count (omega (arith, same)) ∙ ap (λ n. n - half) same
        | inr high ↦ absurd (omega (arith, high, small, from, goes, folded_high r half (count + 1) (omega (arith, high))))
      ]
    ] in
    split (three r count)

next_stayed : (r half count : ℕ) → folded r half (count + 1) ≢ count → folded r half (count + 1) ≡ folded r half count
next_stayed r half count stays =
    let split : (r < count) ⊎ ((r ≡ count) ⊎ (count < r)) → folded r half (count + 1) ≡ folded r half count = elim [
      | inl low ↦ folded_low r half (count + 1) (omega (arith, low)) ∙ sym (folded_low r half count low)
      | inr rest ↦ elim rest as (λ _. folded r half (count + 1) ≡ folded r half count) [
        | inl same ↦ absurd (stays (folded_low r half (count + 1) (omega (arith, same)) ∙ same))
        | inr high ↦ folded_high r half (count + 1) (omega (arith, high)) ∙ sym (folded_high r half count (omega (arith, high)))
      ]
    ] in
    split (three r count)

get_last : {X : Type 0} (xs : List X) (y : X) → slice_get (xs ++ y ∷ []) (length xs) ≡ Some y
get_last [] y = refl
get_last (x ∷ xs) y = get_last xs y

pub get_front : {X : Type 0} (xs : List X) (y x : X) (j : ℕ) → slice_get xs j ≡ Some x → slice_get (xs ++ y ∷ []) j ≡ Some x
get_front [] y x j s = absurd (none-some x s)
get_front (z ∷ zs) y x zero s = s
get_front (z ∷ zs) y x (suc j) s = get_front zs y x j s

-- the buckets of all hashes stay where the number of buckets at the last doubling is doubled
doubled : (hash half : ℕ) → 0 < half → folded (hash % ((half + half) + (half + half))) (half + half) (half + half) ≡ folded (hash % (half + half)) half (half + half)
doubled hash half some =
    let c = half + half in
    let r = hash % (c + c) in
    let k = hash / (c + c) in
    let whole : (k + k) * c + r ≡ hash = ap (λ n. n + r) (add-mul k k c ∙ sym (mul-add k c c)) ∙ div-add-mod' hash (c + c) in
    let small : r < c + c = mod_below hash (c + c) (omega (arith, some)) in
    let inside : hash % c < c = mod_below hash c (omega (arith, some)) in
    let split : (r < c) ⊎ (c ≤ r) → folded r c c ≡ hash % c = elim [
      | inl low ↦ folded_low r c c low ∙ sym (ap (λ n. n % c) (sym whole) ∙ mod-mul-add (k + k) c r low)
      | inr high ↦
          let more : (k + k + 1) * c + (r - c) ≡ hash = ap (λ n. n + (r - c)) (add-mul (k + k) 1 c) ∙ (omega (arith, high, whole)) in
          folded_high r c c high ∙ sym (ap (λ n. n % c) (sym more) ∙ mod-mul-add (k + k + 1) c (r - c) (omega (arith, small, high)))
    ] in
    split (cases_lt r c) ∙ sym (folded_low (hash % c) half c inside)

get_where : {X : Type 0} (p : X → Bool) (xs : List X) (i : ℕ) (x : X) → slice_get xs i ≡ Some x → p x ≡ true → (j : ℕ) × (slice_get (filter p xs) j ≡ Some x)
get_where p [] i x s h = absurd (none-some x s)
get_where p (y ∷ ys) zero x s h = (0, ap (λ b. slice_get (cond b (y ∷ filter p ys) (filter p ys)) 0) (ap p (same_Some y x s) ∙ h) ∙ s)
get_where {X} p (y ∷ ys) (suc i) x s h =
    let rest = get_where p ys i x s h in
    elim (p y) as (λ b. (j : ℕ) × (slice_get (cond b (y ∷ filter p ys) (filter p ys)) j ≡ Some x)) [ true ↦ (suc rest.0, rest.1) | false ↦ rest ]

-- an element that passes is among those that do
contains_where : {X : Type 0} (p : X → Bool) (xs : List X) (x : X) → Contains xs x → p x ≡ true → Contains (filter p xs) x
contains_where p xs x c h =
    let at = at_contains xs x c in
    let there = get_where p xs at.0 x at.1 h in
    contains_at (filter p xs) there.0 x there.1

pub contains_front : {X : Type 0} (xs : List X) (y x : X) → Contains xs x → Contains (xs ++ y ∷ []) x
contains_front xs y x c = let at = at_contains xs x c in contains_at (xs ++ y ∷ []) at.0 x (get_front xs y x at.0 at.1)

pub contains_last : {X : Type 0} (xs : List X) (y : X) → Contains (xs ++ y ∷ []) y
contains_last xs y = contains_at (xs ++ y ∷ []) (length xs) y (get_last xs y)

pub nothing_in : {X : Type 0} (x : X) → Contains [] x → ⊥
nothing_in x c = omega (arith, c.1)

-- the bucket of a hash in an index
abbrev pub bucket_at : Indexed → ℕ → ℕ
bucket_at s hash = bucket_of hash s.half (length s.buckets)

-- a slot that is known by its hash stands in a bucket
pub in_bucket : (s : Indexed) (i : ℕ) (x : Slot) → Contains (unwrap_or (slice_get s.buckets i) []) x → (b : List Slot) × (slice_get s.buckets i ≡ Some b) × Contains b x
in_bucket s i x c =
    elim (slice_get s.buckets i) as (λ o. slice_get s.buckets i ≡ o → Contains (unwrap_or o []) x → (b : List Slot) × (slice_get s.buckets i ≡ Some b) × Contains b x) [
      | None ↦ λ e h. absurd (nothing_in x h)
      | Some b ↦ λ e h. (b, e, h)
    ] refl c

-- a slot in the bucket of its hash is known by it
pub known_in : (s : Indexed) (hash place : ℕ) (b : List Slot) → slice_get s.buckets (bucket_at s hash) ≡ Some b → Contains b (record { hash = hash; place = place }) → Knows s hash place
known_in s hash place b at has = subst (λ (o : Option (List Slot)). Contains (unwrap_or o []) (record { hash = hash; place = place })) (sym at) has

-- the index with this bucket
abbrev pub with_bucket : Indexed → ℕ → List Slot → Indexed
with_bucket s i c = record { buckets = set s.buckets i c; half = s.half }

same_place : (s : Indexed) (i : ℕ) (c : List Slot) (hash : ℕ) → bucket_at (with_bucket s i c) hash ≡ bucket_at s hash
same_place s i c hash = ap (bucket_of hash s.half) (length-set s.buckets i c)

pub with_is_indexed : (s : Indexed) (i : ℕ) (c : List Slot) → IsIndexed s → IsIndexed (with_bucket s i c)
with_is_indexed s i c h =
    let from = h.from in
    let to = h.to in
    record { from = omega (arith, length-set s.buckets i c); to = omega (arith, length-set s.buckets i c) }

-- a bucket is replaced by one that has the same slots and maybe more
pub keeps_with : (s : Indexed) (i : ℕ) (b c : List Slot) → slice_get s.buckets i ≡ Some b → ((x : Slot) → Contains b x → Contains c x) → Keeps s (with_bucket s i c)
keeps_with s i b c was more hash place known =
    let x : Slot = record { hash = hash; place = place } in
    let there = in_bucket s (bucket_at s hash) x known in
    let now = some_at (set s.buckets i c) (bucket_at s hash) (omega (arith, length-set s.buckets i c, slice_get_within s.buckets (bucket_at s hash) there.0 there.1)) in
    let at : slice_get (with_bucket s i c).buckets (bucket_at (with_bucket s i c) hash) ≡ Some now.0 = ap (slice_get (set s.buckets i c)) (same_place s i c hash) ∙ now.1 in
    let split : ((bucket_at s hash ≡ i) × (now.0 ≡ c)) ⊎ ((bucket_at s hash ≢ i) × (slice_get s.buckets (bucket_at s hash) ≡ Some now.0)) → Contains now.0 x = elim [
      | inl e ↦
          let same : there.0 ≡ b = same_Some there.0 b (sym there.1 ∙ ap (slice_get s.buckets) e.0 ∙ was) in
          subst (λ (d : List Slot). Contains d x) (sym e.1) (more x (subst (λ (d : List Slot). Contains d x) same there.2))
      | inr e ↦ subst (λ (d : List Slot). Contains d x) (same_Some there.0 now.0 (sym there.1 ∙ e.1)) there.2
    ] in
    known_in (with_bucket s i c) hash place now.0 at (split (set_cases s.buckets i (bucket_at s hash) c now.0 now.1))

-- a slot of the bucket that is put is known
pub knows_with : (s : Indexed) (i : ℕ) (c : List Slot) (hash place : ℕ) → i < length s.buckets → bucket_at s hash ≡ i → Contains c (record { hash = hash; place = place }) → Knows (with_bucket s i c) hash place
knows_with s i c hash place low at has =
    known_in (with_bucket s i c) hash place c (ap (slice_get (set s.buckets i c)) (same_place s i c hash ∙ at) ∙ get_set s.buckets i c low) has

-- the index after the bucket in turn is split
abbrev pub with_split : Indexed → List Slot → Indexed
with_split s b = record {
  buckets = set (s.buckets ++ slots_going s.half (length s.buckets) b ∷ []) (length s.buckets - s.half) (slots_staying s.half (length s.buckets) b);
  half = s.half;
}

module _ (s : Indexed) (h : IsIndexed s) (b : List Slot) (some : 0 < s.half) (to : length s.buckets < s.half + s.half) (was : slice_get s.buckets (length s.buckets - s.half) ≡ Some b) where
  abbrev count : ℕ
  count = length s.buckets

  abbrev going : List Slot
  going = slots_going s.half count b

  abbrev staying : List Slot
  staying = slots_staying s.half count b

  one_more : length (with_split s b).buckets ≡ count + 1
  one_more = length-set (s.buckets ++ going ∷ []) (count - s.half) staying ∙ length-append s.buckets (going ∷ [])

  pub split_indexed : IsIndexed (with_split s b)
  split_indexed =
      let from = h.from in
      record { from = omega (arith, one_more); to = omega (arith, one_more, to) }

  small : (hash : ℕ) → hash % (s.half + s.half) < s.half + s.half
  small hash = mod_below hash (s.half + s.half) (omega (arith, some))

  place_now : (hash : ℕ) → bucket_at (with_split s b) hash ≡ bucket_of hash s.half (count + 1)
  place_now hash = ap (bucket_of hash s.half) one_more

  -- a bucket of the index after the split, by its number
  bucket_now : (j : ℕ) (d : List Slot) → slice_get (with_split s b).buckets j ≡ Some d → ((j ≡ count - s.half) × (d ≡ staying)) ⊎ (((j < count) × (slice_get s.buckets j ≡ Some d)) ⊎ ((j ≡ count) × (d ≡ going)))
  bucket_now j d at =
      let split : ((j ≡ count - s.half) × (d ≡ staying)) ⊎ ((j ≢ count - s.half) × (slice_get (s.buckets ++ going ∷ []) j ≡ Some d)) → ((j ≡ count - s.half) × (d ≡ staying)) ⊎ (((j < count) × (slice_get s.buckets j ≡ Some d)) ⊎ ((j ≡ count) × (d ≡ going))) = elim [
        | inl e ↦ inl e
        | inr e ↦ inr (append_cases s.buckets going d j e.1)
      ] in
      split (set_cases (s.buckets ++ going ∷ []) (count - s.half) j staying d at)

  module _ (hash place : ℕ) (known : Knows s hash place) where
    abbrev x : Slot
    x = record { hash = hash; place = place }

    abbrev j : ℕ
    j = bucket_of hash s.half (count + 1)

    there : (d : List Slot) × (slice_get s.buckets (bucket_at s hash) ≡ Some d) × Contains d x
    there = in_bucket s (bucket_at s hash) x known

    -- where the hash's bucket is that which is split, its slots are those of it
    in_split : bucket_at s hash ≡ count - s.half → Contains b x
    in_split e = subst (λ (d : List Slot). Contains d x) (same_Some there.0 b (sym there.1 ∙ ap (slice_get s.buckets) e ∙ was)) there.2

    known_now : (d : List Slot) → slice_get (with_split s b).buckets j ≡ Some d → Contains d x → Knows (with_split s b) hash place
    known_now d at has = known_in (with_split s b) hash place d (ap (slice_get (with_split s b).buckets) (place_now hash) ∙ at) has

    low : j < length (with_split s b).buckets
    low = subst (λ n. n < length (with_split s b).buckets) (place_now hash) (bucket_below (with_split s b) split_indexed (omega (arith, one_more)) hash)

    now : (d : List Slot) × (slice_get (with_split s b).buckets j ≡ Some d)
    now = some_at (with_split s b).buckets j low

    -- the hash goes to the new bucket
    has_gone : goes s.half count hash ≡ true → Contains now.0 x
    has_gone e =
        let last : j ≡ count = eqb-true j count e in
        let from : bucket_at s hash ≡ count - s.half = next_moved _ s.half count (small hash) h.from last in
        let split : ((j ≡ count - s.half) × (now.0 ≡ staying)) ⊎ (((j < count) × (slice_get s.buckets j ≡ Some now.0)) ⊎ ((j ≡ count) × (now.0 ≡ going))) → Contains now.0 x = elim [
          | inl f ↦ absurd (omega (arith, f.0, last, some, h.from))
          | inr rest ↦ elim rest as (λ _. Contains now.0 x) [
            | inl f ↦ absurd (omega (arith, f.0, last))
            | inr f ↦ subst (λ (d : List Slot). Contains d x) (sym f.1) (contains_where (λ (y : Slot). goes s.half count y.hash) b x (in_split from) e)
          ]
        ] in
        split (bucket_now j now.0 now.1)

    -- the hash stays in its bucket
    has_stayed : goes s.half count hash ≡ false → Contains now.0 x
    has_stayed e =
        let apart : j ≢ count = λ same. true_false (sym (eq-eqb j count same) ∙ e) in
        let same : j ≡ bucket_at s hash = next_stayed _ s.half count apart in
        let split : ((j ≡ count - s.half) × (now.0 ≡ staying)) ⊎ (((j < count) × (slice_get s.buckets j ≡ Some now.0)) ⊎ ((j ≡ count) × (now.0 ≡ going))) → Contains now.0 x = elim [
          | inl f ↦ subst (λ (d : List Slot). Contains d x) (sym f.1) (contains_where (λ (y : Slot). not (goes s.half count y.hash)) b x (in_split (sym same ∙ f.0)) (ap not e))
          | inr rest ↦ elim rest as (λ _. Contains now.0 x) [
            | inl f ↦ subst (λ (d : List Slot). Contains d x) (same_Some there.0 now.0 (sym there.1 ∙ ap (slice_get s.buckets) (sym same) ∙ f.1)) there.2
            | inr f ↦ absurd (apart f.0)
          ]
        ] in
        split (bucket_now j now.0 now.1)

    split_knows : Knows (with_split s b) hash place
    split_knows =
        elim (goes s.half count hash) as (λ t. goes s.half count hash ≡ t → Knows (with_split s b) hash place) [
          | true ↦ λ e. known_now now.0 now.1 (has_gone e)
          | false ↦ λ e. known_now now.0 now.1 (has_stayed e)
        ] refl

  pub split_keeps : Keeps s (with_split s b)
  split_keeps hash place known = split_knows hash place known

-- the index with its number of buckets as that of the last doubling
module _ (s : Indexed) (h : IsIndexed s) (some : 0 < s.half) (full : length s.buckets ≡ s.half + s.half) where
  double_place : (hash : ℕ) → bucket_of hash (length s.buckets) (length s.buckets) ≡ bucket_at s hash
  double_place hash = ap (λ n. bucket_of hash n n) full ∙ doubled hash s.half some ∙ sym (ap (bucket_of hash s.half) full)

  pub double_keeps : Keeps s (record { buckets = s.buckets; half = length s.buckets })
  double_keeps hash place known = subst (λ n. Contains (unwrap_or (slice_get s.buckets n) []) (record { hash = hash; place = place })) (sym (double_place hash)) known

-- an index without buckets knows nothing
pub nothing_known : (s t : Indexed) → length s.buckets ≤ 0 → Keeps s t
nothing_known s t none hash place known =
    let there = in_bucket s (bucket_at s hash) (record { hash = hash; place = place }) known in
    absurd (omega (arith, none, slice_get_within s.buckets (bucket_at s hash) there.0 there.1))

pub length_map : {X Y : Type 0} (f : X → Y) (xs : List X) → length (map f xs) ≡ length xs
length_map f [] = refl
length_map f (x ∷ xs) = ap suc (length_map f xs)

map_append : {X Y : Type 0} (f : X → Y) (xs ys : List X) → map f (xs ++ ys) ≡ map f xs ++ map f ys
map_append f [] ys = refl
map_append f (x ∷ xs) ys = ap (λ zs. f x ∷ zs) (map_append f xs ys)

-- an index as code: buckets that are vectors
module _ (buckets : List (Vec Slot Global)) (layout : Layout) where
  abbrev s : Indexed
  s = indexed buckets layout

  abbrev slots_in : Vec Slot Global → List Slot
  slots_in b = b.items

  pub same_length : length s.buckets ≡ length buckets
  same_length = length_map slots_in buckets

  pub got : (i : ℕ) (v : Vec Slot Global) → slice_get buckets i ≡ Some v → slice_get s.buckets i ≡ Some v.items
  got i v at = slice_get-map slots_in buckets i ∙ ap (option_map slots_in) at

  -- the bucket that the layout gives is that of the index
  pub bucket_is : (hash : ℕ) → layout.count ≡ length buckets → bucket_of hash layout.half layout.count ≡ bucket_at s hash
  bucket_is hash count = ap (bucket_of hash layout.half) (count ∙ sym same_length)

  -- a bucket is taken out, and another put in its place
  pub put_bucket : (i : ℕ) (empty v : Vec Slot Global) → indexed (set (set buckets i empty) i v) layout ≡ with_bucket s i v.items
  put_bucket i empty v = ap (λ bs. indexed bs layout) (set_twice buckets i empty v) ∙ ap (λ bs. record { buckets = bs; half = layout.half }) (map-set slots_in buckets i v)

  -- a bucket is added, and the one that was split is put
  pub split_is : (v rest next : Vec Slot Global) → layout.count ≡ length buckets → rest.items ≡ slots_staying layout.half layout.count v.items → next.items ≡ slots_going layout.half layout.count v.items
      → indexed (set (buckets ++ next ∷ []) (layout.count - layout.half) rest) layout ≡ with_split s v.items
  split_is v rest next count stays moves =
      ap (λ bs. record { buckets = bs; half = layout.half })
      (map-set slots_in (buckets ++ next ∷ []) (layout.count - layout.half) rest
      ∙ ap (λ bs. set bs (layout.count - layout.half) rest.items) (map_append slots_in buckets (next ∷ []))
      ∙ ap (λ c. set (s.buckets ++ next.items ∷ []) (layout.count - layout.half) c) stays
      ∙ ap (λ c. set (s.buckets ++ c ∷ []) (layout.count - layout.half) (slots_staying layout.half layout.count v.items)) moves
      ∙ ap (λ n. set (s.buckets ++ slots_going layout.half n v.items ∷ []) (n - layout.half) (slots_staying layout.half n v.items)) (count ∙ sym same_length))

-- an element of a list after one is added: one that was there, or that one
pub contains_more : {X : Type 0} (xs : List X) (y x : X) → Contains (xs ++ y ∷ []) x → Contains xs x ⊎ (x ≡ y)
contains_more xs y x c =
    let at = at_contains (xs ++ y ∷ []) x c in
    let split : ((at.0 < length xs) × (slice_get xs at.0 ≡ Some x)) ⊎ ((at.0 ≡ length xs) × (x ≡ y)) → Contains xs x ⊎ (x ≡ y) = elim [
      | inl e ↦ inl (contains_at xs at.0 x e.1)
      | inr e ↦ inr e.1
    ] in
    split (append_cases xs y x at.0 at.1)

-- a conclusion from both cases
pub either : {A E P Q R : Type 0} (r : Result A E) → OnOk r P → OnErr r Q → (P → R) → (Q → R) → R
either (Ok x) ok err f g = f ok
either (Err e) ok err f g = g err
