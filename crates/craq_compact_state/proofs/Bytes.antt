-- The count of bytes as entries are appended and applied.
use Rattle.std.proofs.Common.{◌≡◌, ◌<◌, ℕ, ◌+◌, ◌-◌, ◌%◌, ◌^◌, Bool, true, false, cond, ◌&&◌, T, List, [], ◌∷◌, ◌++◌, length, Some, None, refl, sym, ◌∙◌, ap, subst, arith}
use Rattle.std.specs.Ordering.{is_eq, is_lt}
use Rattle.std.specs.Cmp.Lexicographic.{nat_list_cmp_total}
use Rattle.std.specs.declared.cmp.Ordering.{Ordering}
use Rattle.std.specs.declared.cmp.Ordering.TheVariants.{Less, Equal, Greater}
use Rattle.std.specs.FinMap.Entries.{below_all, by_order, find, is_sorted, put}
use Rattle.craq_names.proofs.Places.{is_sorted_filled}
use Rattle.craq_names.specs.Maps.{key_cmp, put_key}
use Rattle.craq_commands.specs.declared.entry.Entry.{Entry}
use Rattle.craq_commands.specs.declared.entry.Write.{Write}
use Rattle.craq_commands.specs.Objects.{Objects, set_object}
use Rattle.craq_log.specs.Suffixed.{Suffixed, IsFirstOf}
use Rattle.craq_compact_state.specs.Bytes.{bytes_at, bytes_of_entries, bytes_of_object, bytes_of_objects, bytes_of_writes, Counts}
use Rattle.craq_compact_state.specs.Placed.{Placed, objects_of, shown, IsRising}

first : (a b : Bool) → T (a && b) → T a
first true b p = tt
first false b p = p

second : (a b : Bool) → T (a && b) → T b
second true b p = p
second false b p = absurd p

both : (a b : Bool) → T a → T b → T (a && b)
both true b p q = q
both false b p q = p

less : (r : Ordering) → T (is_lt r) → r ≡ Less
less Less p = refl
less Equal p = absurd p
less Greater p = absurd p

-- a key below another is below all that the other is below
further : (x y : List ℕ) (es : Objects) → key_cmp x y ≡ Less → T (below_all key_cmp y es) → T (below_all key_cmp x es)
further x y [] p h = tt
further x y (e ∷ es) p h =
    let here : key_cmp x e.0 ≡ Less = nat_list_cmp_total.trans x y e.0 p (less (key_cmp y e.0) (first _ _ h)) in
    both _ _ (subst (λ (r : Ordering). T (is_lt r)) (sym here) tt) (further x y es p (second _ _ h))

-- a key below all keys is absent
absent : (q : List ℕ) (es : Objects) → T (below_all key_cmp q es) → find key_cmp q es ≡ None
absent q [] h = refl
absent q (e ∷ es) h = ap (λ (r : Ordering). cond (is_eq r) (Some e.1) (find key_cmp q es)) (less (key_cmp q e.0) (first _ _ h)) ∙ absent q es (second _ _ h)

-- the bytes after an object is put: the new ones come, those of the object before go
put_bytes : (key : List ℕ) (x : ℕ × List ℕ) (m : Objects) → T (is_sorted key_cmp m) → bytes_of_objects (put key_cmp key x m) + bytes_of_object key (find key_cmp key m) ≡ bytes_of_objects m + (length key + length x.1)
put_bytes key x [] h = omega arith
put_bytes key x (e ∷ es) h =
    elim (key_cmp key e.0) as (λ r. key_cmp key e.0 ≡ r → bytes_of_objects (by_order r ((key, x) ∷ e ∷ es) ((e.0, x) ∷ es) (e ∷ put key_cmp key x es)) + bytes_of_object key (cond (is_eq r) (Some e.1) (find key_cmp key es)) ≡ bytes_of_objects (e ∷ es) + (length key + length x.1)) [
      | Less ↦ λ p.
          let none : find key_cmp key es ≡ None = absent key es (further key e.0 es p (first _ _ h)) in
          let nothing : bytes_of_object key (find key_cmp key es) ≡ 0 = ap (bytes_of_object key) none in
          omega (arith, nothing)
      | Equal ↦ λ p. omega arith
      | Greater ↦ λ p. let rest : bytes_of_objects (put key_cmp key x es) + bytes_of_object key (find key_cmp key es) ≡ bytes_of_objects es + (length key + length x.1) = put_bytes key x es (second (below_all key_cmp e.0 es) (is_sorted key_cmp es) h) in omega (arith, rest)
    ] refl

-- less of a number, modulo 2^64
fewer : (count less rest : ℕ) → count ≡ (less + rest) % 2 ^ 64 → less < 2 ^ 64 → (count + (2 ^ 64 - less)) % 2 ^ 64 ≡ rest % 2 ^ 64
fewer count less rest is low = omega (arith, is, low)

-- more of a number, modulo 2^64
pub further_counted : (count all more extra : ℕ) → count ≡ all % 2 ^ 64 → more ≡ extra % 2 ^ 64 → (count + more) % 2 ^ 64 ≡ (all + extra) % 2 ^ 64
further_counted count all more extra is adds = omega (arith, is, adds)

-- an object is settled
pub settled_counted : (t u : Placed) (key : List ℕ) (version : ℕ) (value : List ℕ) (count replaced left : ℕ) → IsRising t → objects_of u ≡ set_object (objects_of t) key version value → replaced ≡ bytes_at (objects_of t) key → replaced < 2 ^ 64
    → left ≡ (count + (2 ^ 64 - replaced)) % 2 ^ 64 → (more : ℕ) → Counts count (objects_of t) ((length key + length value) + more) → Counts left (objects_of u) more
unfolding set_object
settled_counted t u key version value count replaced left rise is was low now more before =
    let sorted : T (is_sorted key_cmp (objects_of t)) = is_sorted_filled key_cmp shown t.objects rise in
    let bytes : bytes_of_objects (put_key (objects_of t) key (version, value)) + bytes_at (objects_of t) key ≡ bytes_of_objects (objects_of t) + (length key + length value) = put_bytes key (version, value) (objects_of t) sorted in
    let after : bytes_of_objects (objects_of u) ≡ bytes_of_objects (put_key (objects_of t) key (version, value)) = ap bytes_of_objects is in
    let same : bytes_of_objects (objects_of t) + ((length key + length value) + more) ≡ replaced + (bytes_of_objects (objects_of u) + more) = omega (arith, bytes, after, was) in
    now ∙ fewer count replaced (bytes_of_objects (objects_of u) + more) (before ∙ ap (λ (n : ℕ). n % 2 ^ 64) same) low

-- the count of the same bytes
pub counted_same : (count : ℕ) (m n : Objects) (more less : ℕ) → n ≡ m → less ≡ more → Counts count m more → Counts count n less
counted_same count m n more less is same before =
    before ∙ ap (λ (x : Objects). (bytes_of_objects x + more) % 2 ^ 64) (sym is) ∙ ap (λ (k : ℕ). (bytes_of_objects n + k) % 2 ^ 64) (sym same)

-- the first of some writes is settled
pub write_counted : (count left : ℕ) (m n : Objects) (w : Write) (rest writes : List Write) (more : ℕ) → rest ≡ w ∷ writes → ((k : ℕ) → Counts count m ((length w.key + length w.value) + k) → Counts left n k)
    → Counts count m (bytes_of_writes rest + more) → Counts left n (bytes_of_writes writes + more)
write_counted count left m n w rest writes more step settles before =
    let all : bytes_of_writes rest ≡ (length w.key + length w.value) + bytes_of_writes writes = ap bytes_of_writes step in
    let same : (length w.key + length w.value) + (bytes_of_writes writes + more) ≡ bytes_of_writes rest + more = omega (arith, all) in
    settles (bytes_of_writes writes + more) (counted_same count m m (bytes_of_writes rest + more) ((length w.key + length w.value) + (bytes_of_writes writes + more)) refl same before)

-- no write is left
pub writes_counted : (count : ℕ) (m : Objects) (rest : List Write) (more : ℕ) → rest ≡ [] → Counts count m (bytes_of_writes rest + more) → Counts count m more
writes_counted count m rest more none before =
    let all : bytes_of_writes rest ≡ 0 = ap bytes_of_writes none in
    let same : more ≡ bytes_of_writes rest + more = omega (arith, all) in
    counted_same count m m (bytes_of_writes rest + more) more refl same before

-- the first entry is applied
pub entry_counted : (count left : ℕ) (l m n : Objects) (old new : Suffixed) (e : Entry) → m ≡ l → IsFirstOf e old new → ((more : ℕ) → Counts count m (bytes_of_writes e.writes + more) → Counts left n more)
    → Counts count l (bytes_of_entries old.entries) → Counts left n (bytes_of_entries new.entries)
entry_counted count left l m n old new e is first applies before =
    applies (bytes_of_entries new.entries) (counted_same count l m (bytes_of_entries old.entries) (bytes_of_writes e.writes + bytes_of_entries new.entries) is (sym (ap bytes_of_entries first.entries)) before)

bytes_append : (es fs : List Entry) → bytes_of_entries (es ++ fs) ≡ bytes_of_entries es + bytes_of_entries fs
bytes_append [] fs = omega arith
bytes_append (e ∷ es) fs = let rest : bytes_of_entries (es ++ fs) ≡ bytes_of_entries es + bytes_of_entries fs = bytes_append es fs in omega (arith, rest)

-- entries are appended
pub entries_counted : (count more sum : ℕ) (m n : Objects) (es fs all : List Entry) → Counts count m (bytes_of_entries es) → more ≡ bytes_of_entries fs % 2 ^ 64 → sum ≡ (count + more) % 2 ^ 64 → all ≡ es ++ fs → n ≡ m → Counts sum n (bytes_of_entries all)
entries_counted count more sum m n es fs all before adds is whole same =
    let bytes : bytes_of_entries all ≡ bytes_of_entries es + bytes_of_entries fs = ap bytes_of_entries whole ∙ bytes_append es fs in
    let total : (bytes_of_objects m + bytes_of_entries es) + bytes_of_entries fs ≡ bytes_of_objects m + bytes_of_entries all = omega (arith, bytes) in
    counted_same sum m n (bytes_of_entries all) (bytes_of_entries all) same refl
    (is ∙ further_counted count (bytes_of_objects m + bytes_of_entries es) more (bytes_of_entries fs) before adds ∙ ap (λ (k : ℕ). k % 2 ^ 64) total)

-- only objects
pub objects_counted : (count : ℕ) (m n : Objects) (es : List Entry) → count ≡ bytes_of_objects m % 2 ^ 64 → n ≡ m → es ≡ [] → Counts count n (bytes_of_entries es)
objects_counted count m n es is same none =
    let bytes : bytes_of_entries es ≡ 0 = ap bytes_of_entries none in
    let objects : bytes_of_objects n ≡ bytes_of_objects m = ap bytes_of_objects same in
    let total : bytes_of_objects m ≡ bytes_of_objects n + bytes_of_entries es = omega (arith, bytes, objects) in
    is ∙ ap (λ (k : ℕ). k % 2 ^ 64) total

-- a sum that has reached its end is the whole
pub sum_at_end : (count rest all : ℕ) → (count + rest) % 2 ^ 64 ≡ all % 2 ^ 64 → rest ≡ 0 → count < 2 ^ 64 → count ≡ all % 2 ^ 64
sum_at_end count rest all is none low = omega (arith, is, none, low)

-- one more part of a sum
pub sum_further : (count one part rest left all sum : ℕ) → (count + rest) % 2 ^ 64 ≡ all % 2 ^ 64 → rest ≡ part + left → one ≡ part % 2 ^ 64 → sum ≡ (count + one) % 2 ^ 64 → (sum + left) % 2 ^ 64 ≡ all % 2 ^ 64
sum_further count one part rest left all sum before is adds now = omega (arith, before, is, adds, now)
