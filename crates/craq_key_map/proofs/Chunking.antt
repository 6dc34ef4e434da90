-- A list in chunks, as items are read, replaced and added.
use Rattle.std.proofs.Common.{◌≡◌, ◌≢◌, ◌⊎◌, inl, inr, ℕ, zero, suc, ◌+◌, ◌-◌, ◌/◌, ◌%◌, ◌<◌, ◌≤◌, true, false, List, [], ◌∷◌, ◌++◌, length, get_or, set, Some, refl, sym, ◌∙◌, ap, subst, arith, length-append, length-set, append_assoc}
use Rattle.std.specs.declared.alloc.Global.{Global}
use Rattle.std.specs.Prelude.{Vec, slice_get, nat_lt, OnErr, Result, Ok, Err}
use Rattle.std.proofs.lemmas.Bool.{cases_lt, ltb-false}
use Rattle.std.proofs.lemmas.Option.{none-some, same_Some, get_or_from_slice_get, slice_get_read}
use Rattle.craq_key_map.specs.Chunked.{joined, AreChunks, HasRoom}
use Rattle.craq_key_map.proofs.Writes.{append_cases, set_cases}

get_left : {X : Type 0} (xs ys : List X) (i : ℕ) → i < length xs → slice_get (xs ++ ys) i ≡ slice_get xs i
get_left [] ys i h = absurd (omega (arith, h))
get_left (x ∷ xs) ys zero h = refl
get_left (x ∷ xs) ys (suc i) h = get_left xs ys i (omega (arith, h))

get_right : {X : Type 0} (xs ys : List X) (i : ℕ) → length xs ≤ i → slice_get (xs ++ ys) i ≡ slice_get ys (i - length xs)
get_right [] ys i h = let same : i ≡ i - 0 = omega arith in ap (slice_get ys) same
get_right (x ∷ xs) ys zero h = absurd (omega (arith, h))
get_right (x ∷ xs) ys (suc i) h = let same : i - length xs ≡ suc i - suc (length xs) = omega arith in get_right xs ys i (omega (arith, h)) ∙ ap (slice_get ys) same

set_left : {X : Type 0} (xs ys : List X) (i : ℕ) (y : X) → i < length xs → set (xs ++ ys) i y ≡ set xs i y ++ ys
set_left [] ys i y h = absurd (omega (arith, h))
set_left (x ∷ xs) ys zero y h = refl
set_left (x ∷ xs) ys (suc i) y h = ap (λ zs. x ∷ zs) (set_left xs ys i y (omega (arith, h)))

set_right : {X : Type 0} (xs ys : List X) (i : ℕ) (y : X) → length xs ≤ i → set (xs ++ ys) i y ≡ xs ++ set ys (i - length xs) y
set_right [] ys i y h = let same : i ≡ i - 0 = omega arith in ap (λ n. set ys n y) same
set_right (x ∷ xs) ys zero y h = absurd (omega (arith, h))
set_right (x ∷ xs) ys (suc i) y h =
    let same : i - length xs ≡ suc i - suc (length xs) = omega arith in
    ap (λ zs. x ∷ zs) (set_right xs ys i y (omega (arith, h)) ∙ ap (λ n. xs ++ set ys n y) same)

tail_chunks : {X : Type 0} (c : Vec X Global) (cs : List (Vec X Global)) → AreChunks (c ∷ cs) → AreChunks cs
tail_chunks c cs h = record { full = λ i d s m. h.full (suc i) d s (omega (arith, m)); last = λ i d s. h.last (suc i) d s }

some_joined : {X : Type 0} (cs : List (Vec X Global)) (i : ℕ) → i < length (joined cs) → 0 < length cs
some_joined [] i h = absurd (omega (arith, h))
some_joined (c ∷ cs) i h = omega arith

-- a chunk that does not reach an index is full
full_before : {X : Type 0} (c : Vec X Global) (cs : List (Vec X Global)) (i : ℕ) → AreChunks (c ∷ cs) → 1024 ≤ i → i < length (joined (c ∷ cs)) → length c.items ≡ 1024
full_before c cs i h big low =
    let short : length c.items ≤ 1024 = h.last 0 c refl in
    let more : i < length c.items + length (joined cs) = subst (λ n. i < n) (length-append c.items (joined cs)) low in
    h.full 0 c refl (omega (arith, some_joined cs (i - length c.items) (omega (arith, short, more, big))))

-- a chunk that has an index is longer than it
long_enough : {X : Type 0} (c : Vec X Global) (cs : List (Vec X Global)) (i : ℕ) → AreChunks (c ∷ cs) → i < 1024 → i < length (joined (c ∷ cs)) → i < length c.items
long_enough c [] i h small low = omega (arith, low, length-append c.items [])
long_enough c (d ∷ ds) i h small low = omega (arith, small, h.full 0 c refl (omega arith))

-- the chunk of an index, which has the item
pub chunk_at : {X : Type 0} (cs : List (Vec X Global)) (i : ℕ) → AreChunks cs → i < length (joined cs) → (c : Vec X Global) × (slice_get cs (i / 1024) ≡ Some c) × (i % 1024 < length c.items) × (slice_get (joined cs) i ≡ slice_get c.items (i % 1024))
chunk_at [] i h low = absurd (omega (arith, low))
chunk_at {X} (c ∷ cs) i h low =
    let split : (i < 1024) ⊎ (1024 ≤ i) → (d : Vec X Global) × (slice_get (c ∷ cs) (i / 1024) ≡ Some d) × (i % 1024 < length d.items) × (slice_get (joined (c ∷ cs)) i ≡ slice_get d.items (i % 1024)) = elim [
      | inl small ↦
          let whole : i / 1024 ≡ 0 = omega (arith, small) in
          let part : i % 1024 ≡ i = omega (arith, small) in
          let long = long_enough c cs i h small low in
          (c, ap (slice_get (c ∷ cs)) whole, omega (arith, part, long), get_left c.items (joined cs) i long ∙ ap (slice_get c.items) (sym part))
      | inr big ↦
          let full = full_before c cs i h big low in
          let more : i < length c.items + length (joined cs) = subst (λ n. i < n) (length-append c.items (joined cs)) low in
          let whole : i / 1024 ≡ suc ((i - 1024) / 1024) = omega (arith, big) in
          let part : (i - 1024) % 1024 ≡ i % 1024 = omega (arith, big) in
          let rest = chunk_at cs (i - 1024) (tail_chunks c cs h) (omega (arith, more, full, big)) in (
            rest.0,
            ap (slice_get (c ∷ cs)) whole ∙ rest.1,
            omega (arith, part, rest.2),
            get_right c.items (joined cs) i (omega (arith, full, big)) ∙ ap (λ n. slice_get (joined cs) (i - n)) full ∙ rest.3 ∙ ap (slice_get rest.0.items) part,
          )
    ] in
    split (cases_lt i 1024)

-- another item in the chunk of an index
pub joined_set : {X : Type 0} (cs : List (Vec X Global)) (i : ℕ) (c d : Vec X Global) (x : X) → AreChunks cs → i < length (joined cs) → slice_get cs (i / 1024) ≡ Some c → d.items ≡ set c.items (i % 1024) x → joined (set cs (i / 1024) d) ≡ set (joined cs) i x
joined_set [] i c d x h low at is = absurd (omega (arith, low))
joined_set {X} (b ∷ bs) i c d x h low at is =
    let split : (i < 1024) ⊎ (1024 ≤ i) → joined (set (b ∷ bs) (i / 1024) d) ≡ set (joined (b ∷ bs)) i x = elim [
      | inl small ↦
          let whole : i / 1024 ≡ 0 = omega (arith, small) in
          let part : i % 1024 ≡ i = omega (arith, small) in
          let same : b ≡ c = same_Some b c (ap (slice_get (b ∷ bs)) (sym whole) ∙ at) in
          ap (λ n. joined (set (b ∷ bs) n d)) whole ∙ ap (λ (ys : List X). ys ++ joined bs) (is ∙ ap (λ (e : Vec X Global). set e.items (i % 1024) x) (sym same) ∙ ap (λ n. set b.items n x) part)
          ∙ sym (set_left b.items (joined bs) i x (long_enough b bs i h small low))
      | inr big ↦
          let full = full_before b bs i h big low in
          let more : i < length b.items + length (joined bs) = subst (λ n. i < n) (length-append b.items (joined bs)) low in
          let whole : i / 1024 ≡ suc ((i - 1024) / 1024) = omega (arith, big) in
          let part : (i - 1024) % 1024 ≡ i % 1024 = omega (arith, big) in
          let rest = joined_set bs (i - 1024) c d x (tail_chunks b bs h) (omega (arith, more, full, big)) (ap (slice_get (b ∷ bs)) (sym whole) ∙ at) (is ∙ ap (λ n. set c.items n x) (sym part)) in
          ap (λ n. joined (set (b ∷ bs) n d)) whole ∙ ap (λ (ys : List X). b.items ++ ys) (rest ∙ ap (λ n. set (joined bs) (i - n) x) (sym full))
          ∙ sym (set_right b.items (joined bs) i x (omega (arith, full, big)))
    ] in
    split (cases_lt i 1024)

-- a chunk of the same length in place of one
pub chunks_set : {X : Type 0} (cs : List (Vec X Global)) (i : ℕ) (c d : Vec X Global) → AreChunks cs → slice_get cs i ≡ Some c → length d.items ≡ length c.items → AreChunks (set cs i d)
chunks_set {X} cs i c d h at same = record {
  full = λ j e s m.
      let split : ((j ≡ i) × (e ≡ d)) ⊎ ((j ≢ i) × (slice_get cs j ≡ Some e)) → length e.items ≡ 1024 = elim [
        | inl f ↦ ap (λ (v : Vec X Global). length v.items) f.1 ∙ same ∙ h.full i c at (omega (arith, m, f.0, length-set cs i d))
        | inr f ↦ h.full j e f.1 (omega (arith, m, length-set cs i d))
      ] in
      split (set_cases cs i j d e s);
  last = λ j e s.
      let split : ((j ≡ i) × (e ≡ d)) ⊎ ((j ≢ i) × (slice_get cs j ≡ Some e)) → length e.items ≤ 1024 = elim [
        | inl f ↦ omega (arith, ap (λ (v : Vec X Global). length v.items) f.1, same, h.last i c at)
        | inr f ↦ h.last j e f.1
      ] in
      split (set_cases cs i j d e s);
}

pub nil_after : {X : Type 0} (xs : List X) → xs ++ [] ≡ xs
nil_after [] = refl
nil_after (x ∷ xs) = ap (λ ys. x ∷ ys) (nil_after xs)

-- an item is added to the last chunk
pub joined_last : {X : Type 0} (cs : List (Vec X Global)) (i : ℕ) (c d : Vec X Global) (x : X) → i + 1 ≡ length cs → slice_get cs i ≡ Some c → d.items ≡ c.items ++ x ∷ [] → joined (set cs i d) ≡ joined cs ++ x ∷ []
joined_last [] i c d x end at is = absurd (none-some c at)
joined_last {X} (b ∷ []) zero c d x end at is =
    nil_after d.items ∙ is ∙ ap (λ (v : Vec X Global). v.items ++ x ∷ []) (sym (same_Some b c at)) ∙ ap (λ (ys : List X). ys ++ x ∷ []) (sym (nil_after b.items))
joined_last (b ∷ e ∷ bs) zero c d x end at is = absurd (omega (arith, end))
joined_last {X} (b ∷ bs) (suc i) c d x end at is =
    ap (λ (ys : List X). b.items ++ ys) (joined_last bs i c d x (omega (arith, end)) at is) ∙ sym (append_assoc b.items (joined bs) (x ∷ []))

pub chunks_last : {X : Type 0} (cs : List (Vec X Global)) (i : ℕ) (c d : Vec X Global) → AreChunks cs → i + 1 ≡ length cs → slice_get cs i ≡ Some c → length c.items < 1024 → length d.items ≡ length c.items + 1 → AreChunks (set cs i d)
chunks_last {X} cs i c d h end at room more = record {
  full = λ j e s m.
      let split : ((j ≡ i) × (e ≡ d)) ⊎ ((j ≢ i) × (slice_get cs j ≡ Some e)) → length e.items ≡ 1024 = elim [
        | inl f ↦ absurd (omega (arith, m, f.0, end, length-set cs i d))
        | inr f ↦ h.full j e f.1 (omega (arith, m, length-set cs i d))
      ] in
      split (set_cases cs i j d e s);
  last = λ j e s.
      let split : ((j ≡ i) × (e ≡ d)) ⊎ ((j ≢ i) × (slice_get cs j ≡ Some e)) → length e.items ≤ 1024 = elim [
        | inl f ↦ omega (arith, ap (λ (v : Vec X Global). length v.items) f.1, room, more)
        | inr f ↦ h.last j e f.1
      ] in
      split (set_cases cs i j d e s);
}

-- a chunk is added after full ones
pub chunks_new : {X : Type 0} (cs : List (Vec X Global)) (d : Vec X Global) → AreChunks cs → ((i : ℕ) (c : Vec X Global) → i + 1 ≡ length cs → slice_get cs i ≡ Some c → 1024 ≤ length c.items) → length d.items ≤ 1024 → AreChunks (cs ++ d ∷ [])
chunks_new {X} cs d h before few = record {
  full = λ j e s m.
      let split : ((j < length cs) × (slice_get cs j ≡ Some e)) ⊎ ((j ≡ length cs) × (e ≡ d)) → length e.items ≡ 1024 = elim [
        | inl f ↦ full_or_last j e f.0 f.1
        | inr f ↦ absurd (omega (arith, m, f.0, length-append cs (d ∷ [])))
      ] in
      split (append_cases cs d e j s);
  last = λ j e s.
      let split : ((j < length cs) × (slice_get cs j ≡ Some e)) ⊎ ((j ≡ length cs) × (e ≡ d)) → length e.items ≤ 1024 = elim [
        | inl f ↦ h.last j e f.1
        | inr f ↦ omega (arith, ap (λ (v : Vec X Global). length v.items) f.1, few)
      ] in
      split (append_cases cs d e j s);
}
  where
    full_or_last : (j : ℕ) (e : Vec X Global) → j < length cs → slice_get cs j ≡ Some e → length e.items ≡ 1024
    full_or_last j e low at =
        let split : (j + 1 < length cs) ⊎ (length cs ≤ j + 1) → length e.items ≡ 1024 = elim [
          | inl more ↦ h.full j e at more
          | inr end ↦ omega (arith, before j e (omega (arith, low, end)) at, h.last j e at)
        ] in
        split (cases_lt (j + 1) (length cs))

-- the chunk that is read
pub read_chunk : {X : Type 0} (xs : List X) (i : ℕ) (x y : X) → slice_get xs i ≡ Some x → y ≡ get_or xs i y → y ≡ x
read_chunk xs i x y at is = is ∙ get_or_from_slice_get xs i x y at

pub set_length : {X : Type 0} (v w : Vec X Global) (k : ℕ) (x : X) → v ≡ w → length (set v.items k x) ≡ length w.items
set_length {X} v w k x same = length-set v.items k x ∙ ap (λ (u : Vec X Global). length u.items) same

pub set_items : {X : Type 0} (v w : Vec X Global) (k : ℕ) (x y : X) → v ≡ w → x ≡ y → set v.items k x ≡ set w.items k y
set_items v w k x y same is = λ i. set (same i).items k (is i)

-- a chunk with the same items
pub joined_same : {X : Type 0} (cs : List (Vec X Global)) (i : ℕ) (c d : Vec X Global) → slice_get cs i ≡ Some c → d.items ≡ c.items → joined (set cs i d) ≡ joined cs
joined_same [] i c d at is = refl
joined_same {X} (b ∷ bs) zero c d at is = ap (λ (ys : List X). ys ++ joined bs) (is ∙ ap (λ (v : Vec X Global). v.items) (sym (same_Some b c at)))
joined_same {X} (b ∷ bs) (suc i) c d at is = ap (λ (ys : List X). b.items ++ ys) (joined_same bs i c d at is)

pub lt_true : (m n : ℕ) → m < n → nat_lt m n ≡ true
lt_true m n h = elim (nat_lt m n) as (λ b. nat_lt m n ≡ b → b ≡ true) [ true ↦ λ e. refl | false ↦ λ e. absurd (omega (arith, h, ltb-false m n e)) ] refl

-- the last chunk, by its length, has room or not
pub room_of : {X : Type 0} (cs : List (Vec X Global)) (y : Vec X Global) → 0 < length cs → y ≡ get_or cs (length cs - 1) y → length y.items < 1024 → HasRoom cs
room_of cs y some is low = record {
  index = length cs - 1;
  chunk = y;
  is_last = omega (arith, some);
  at = slice_get_read cs (length cs) (length cs - 1) y refl (omega (arith, some)) is;
  room = low;
}

pub room_is : {X : Type 0} (cs : List (Vec X Global)) (y : Vec X Global) (n : ℕ) → y ≡ get_or cs (length cs - 1) y → n ≡ length y.items → HasRoom cs → nat_lt n 1024 ≡ true
room_is {X} cs y n is count h =
    let place : h.index ≡ length cs - 1 = omega (arith, h.is_last) in
    let same : y ≡ h.chunk = read_chunk cs (length cs - 1) h.chunk y (ap (slice_get cs) (sym place) ∙ h.at) is in
    lt_true n 1024 (omega (arith, count, ap (λ (v : Vec X Global). length v.items) same, h.room))

pub no_room : {X : Type 0} (cs : List (Vec X Global)) → length cs ≡ 0 → HasRoom cs → false ≡ true
no_room cs none h = absurd (omega (arith, none, h.is_last))

-- without room the last chunk is full
pub full_last : {X : Type 0} (cs : List (Vec X Global)) → (HasRoom cs → false ≡ true) → (i : ℕ) (c : Vec X Global) → i + 1 ≡ length cs → slice_get cs i ≡ Some c → 1024 ≤ length c.items
full_last cs none i c end at =
    let split : (length c.items < 1024) ⊎ (1024 ≤ length c.items) → 1024 ≤ length c.items = elim [
      | inl low ↦ absurd (clash (none (record { index = i; chunk = c; is_last = end; at = at; room = low })))
      | inr high ↦ high
    ] in
    split (cases_lt (length c.items) 1024)
  where
    clash : false ≡ true → ⊥
    clash e = cc

pub set_twice : {X : Type 0} (xs : List X) (i : ℕ) (x y : X) → set (set xs i x) i y ≡ set xs i y
set_twice [] i x y = refl
set_twice (z ∷ zs) zero x y = refl
set_twice (z ∷ zs) (suc i) x y = ap (λ ws. z ∷ ws) (set_twice zs i x y)

pub get_set : {X : Type 0} (xs : List X) (i : ℕ) (y : X) → i < length xs → slice_get (set xs i y) i ≡ Some y
get_set [] i y h = absurd (omega (arith, h))
get_set (x ∷ xs) zero y h = refl
get_set (x ∷ xs) (suc i) y h = get_set xs i y (omega (arith, h))

pub on_err : {A E P : Type 0} (r : Result A E) → P → OnErr r P
on_err (Ok x) p = tt
on_err (Err e) p = p

-- the chunk with room, by an index
pub last_at : {X : Type 0} (cs : List (Vec X Global)) (h : HasRoom cs) (i : ℕ) (y : Vec X Global) → i ≡ length cs - 1 → y ≡ get_or cs i y → slice_get cs i ≡ Some y
last_at cs h i y place is = slice_get_read cs (length cs) i y refl (omega (arith, place, h.is_last)) is

pub last_room : {X : Type 0} (cs : List (Vec X Global)) (h : HasRoom cs) (i : ℕ) (y : Vec X Global) → i ≡ length cs - 1 → y ≡ get_or cs i y → length y.items < 1024
last_room {X} cs h i y place is =
    let here : h.index ≡ i = omega (arith, place, h.is_last) in
    let same : y ≡ h.chunk = read_chunk cs i h.chunk y (ap (slice_get cs) (sym here) ∙ h.at) is in
    omega (arith, ap (λ (v : Vec X Global). length v.items) same, h.room)

pub room_added : {X : Type 0} (cs : List (Vec X Global)) (y : Vec X Global) → y.items ≡ [] → HasRoom (cs ++ y ∷ [])
room_added cs y none = record {
  index = length cs;
  chunk = y;
  is_last = sym (length-append cs (y ∷ []));
  at = get_end cs y;
  room = omega (arith, ap length none);
}
  where
    get_end : {Y : Type 0} (xs : List Y) (z : Y) → slice_get (xs ++ z ∷ []) (length xs) ≡ Some z
    get_end [] z = refl
    get_end (x ∷ xs) z = get_end xs z
