-- A table of lists after the list of one key is written.
use Rattle.std.specs.List.{AllByRecursion}
use Rattle.std.proofs.Common.{map, zero, suc, take, get_or, add-one, ◌≡◌, ℕ, ◌+◌, ◌<◌, ◌≤◌, ◌≢◌, ◌⊎◌, inl, inr, ◌++◌, max, Bool, true, false, cond, List, [], ◌∷◌, Option, Some, None, refl, sym, ◌∙◌, ap, subst, arith}
use Rattle.std.specs.Prelude.{unwrap_or, is_some, IsSome, if◌then◌else◌}
use Rattle.std.specs.Option.{option_and_then}
use Rattle.std.specs.Ordering.{is_eq, eq_by_cmp, ordering_reverse}
use Rattle.std.specs.declared.cmp.Ordering.{Ordering}
use Rattle.std.specs.declared.cmp.Ordering.TheVariants.{Less, Equal, Greater}
use Rattle.std.specs.Cmp.{tied_itself}
use Rattle.std.specs.Cmp.Lexicographic.{nat_list_cmp_total, texts_ties}
use Rattle.std.specs.List.Sorted.{IsStrictlySortedBy}
use Rattle.std.specs.Map.{lookup, keys_of}
use Rattle.std.specs.BTreeMap.{is_at}
use Rattle.std.specs.FinMap.{IsAntisymmetric, nat_cmp-IsAntisymmetric, slice_cmp-IsAntisymmetric}
use Rattle.std.specs.FinMap.Entries.{find, find-put}
use Rattle.craq_names.specs.Maps.{key_cmp, at_key, put_key, same_bytes}
use Rattle.craq_versions.specs.Versions.{Versions, AreVersions, CanSettle, CanSettleAs, clean_without, versions_from, versions_settled, without_newest}
use Rattle.craq_names.specs.Places.{filled}
use Rattle.craq_versions.specs.Tables.{Held, Entries, nothing, held_at, popped, room_at, pushed, settled, settled_as, unless_empty, held_in, shown, table_of, KeepsRoom, KeepsOthersRoom}
use Rattle.craq_names.proofs.Places.{find_filled, keys_filled, is_sorted_of, filled_put, filled_same}

abbrev pub list_of : {V : Type 0} → Entries V → List ℕ → Option (Versions V)
list_of es key = lookup (is_at (key_cmp key)) es

-- one key has this list, and every other key the list it had
abbrev pub IsWritten : {V : Type 0} → Entries V → Entries V → List ℕ → Versions V → Type 0
IsWritten es gs key list = (q : List ℕ) → list_of gs q ≡ cond (is_at (key_cmp key) q) (Some list) (list_of es q)

shadowed : {A : Type 0} (b : Bool) (x y z : A) → cond b x (cond b y z) ≡ cond b x z
shadowed true x y z = refl
shadowed false x y z = refl

exact : IsAntisymmetric key_cmp
exact = slice_cmp-IsAntisymmetric nat_cmp-IsAntisymmetric

pub found_is : {V : Type 0} (es : Entries V) (key : List ℕ) → find key_cmp key es ≡ list_of es key
found_is [] key = refl
found_is (e ∷ es) key = ap (cond (is_at (key_cmp key) e.0) (Some e.1)) (found_is es key)

reversed_eq : (r : Ordering) → is_eq (ordering_reverse r) ≡ is_eq r
reversed_eq Less = refl
reversed_eq Equal = refl
reversed_eq Greater = refl

flipped : (q key : List ℕ) → eq_by_cmp key_cmp q key ≡ is_at (key_cmp key) q
flipped q key = ap is_eq (nat_list_cmp_total.antisymm q key) ∙ reversed_eq (key_cmp key q)

-- a list is put
pub written_put : {V : Type 0} (es gs : Entries V) (key : List ℕ) (list : Versions V) → gs ≡ put_key es key list → IsWritten es gs key list
written_put {V} es gs key list is q =
    sym (found_is gs q) ∙ ap (find key_cmp q) is ∙ find-put key_cmp nat_list_cmp_total q key list es
    ∙ ap (λ b. cond b (Some list) (find key_cmp q es)) (flipped q key) ∙ ap (cond (is_at (key_cmp key) q) (Some list)) (found_is es q)

-- a list is put in place of one that was put before
pub written_twice : {V : Type 0} (es fs gs : Entries V) (key : List ℕ) (empty list : Versions V) → fs ≡ put_key es key empty → gs ≡ put_key fs key list → IsWritten es gs key list
written_twice es fs gs key empty list first second q =
    written_put fs gs key list second q ∙ ap (cond (is_at (key_cmp key) q) (Some list)) (written_put es fs key empty first q) ∙ shadowed (is_at (key_cmp key) q) (Some list) (Some empty) (list_of es q)

found_after : {V : Type 0} (es gs : Entries V) (key : List ℕ) (list : Versions V) → IsWritten es gs key list → (q : List ℕ) → find key_cmp q gs ≡ cond (is_at (key_cmp key) q) (Some list) (find key_cmp q es)
found_after es gs key list at q = found_is gs q ∙ at q ∙ ap (cond (is_at (key_cmp key) q) (Some list)) (sym (found_is es q))

-- the versions of a key
pub held_found : {V : Type 0} (es : Entries V) (key : List ℕ) → IsStrictlySortedBy key_cmp (keys_of es) → at_key (filled shown es) key ≡ option_and_then shown (list_of es key)
held_found es key rise = find_filled key_cmp shown nat_list_cmp_total key es (is_sorted_of key_cmp shown es rise) ∙ ap (option_and_then shown) (found_is es key)

-- a list with versions is written
pub objects_put : {V : Type 0} (es gs : Entries V) (key : List ℕ) (list : Versions V) (held : Held V) → shown list ≡ Some held → IsStrictlySortedBy key_cmp (keys_of es) → IsStrictlySortedBy key_cmp (keys_of gs) → IsWritten es gs key list → filled shown gs ≡ put_key (filled shown es) key held
objects_put es gs key list held has was is at = filled_put key_cmp shown nat_list_cmp_total exact es gs key list held has was is (found_after es gs key list at)

-- a list with the same versions is written
pub objects_same : {V : Type 0} (es gs : Entries V) (key : List ℕ) (list : Versions V) → shown list ≡ option_and_then shown (list_of es key) → IsStrictlySortedBy key_cmp (keys_of es) → IsStrictlySortedBy key_cmp (keys_of gs) → IsWritten es gs key list → filled shown gs ≡ filled shown es
objects_same {V} es gs key list same was is at =
    filled_same key_cmp shown nat_list_cmp_total exact es gs key list (same ∙ sym (ap (option_and_then shown) (found_is es key))) was is (found_after es gs key list at)

abbrev pub room_in : {V : Type 0} → Option (Versions V) → ℕ
room_in None = 0
room_in (Some list) = list.room

-- the room of a key is that of its list
pub room_found : {V : Type 0} (es : Entries V) (key : List ℕ) → room_at (table_of es) key ≡ room_in (list_of es key)
room_found [] key = refl
room_found (e ∷ es) key =
    let split : (b : Bool) → unwrap_or (cond b (Some e.1.room) (at_key (table_of es).rooms key)) 0 ≡ room_in (cond b (Some e.1) (list_of es key)) = elim [ true ↦ refl | false ↦ room_found es key ] in
    split (is_at (key_cmp key) e.0)

same_bytes_is : (key q : List ℕ) → is_at (key_cmp key) q ≡ same_bytes key q
same_bytes_is key q = sym (texts_ties key q)

-- the room of each key after one list is written
pub room_written : {V : Type 0} (es gs : Entries V) (key : List ℕ) (list : Versions V) → IsWritten es gs key list → (q : List ℕ) → room_at (table_of gs) q ≡ cond (is_at (key_cmp key) q) list.room (room_at (table_of es) q)
room_written es gs key list at q =
    let split : (b : Bool) → room_in (cond b (Some list) (list_of es q)) ≡ cond b list.room (room_in (list_of es q)) = elim [ true ↦ refl | false ↦ refl ] in
    room_found gs q ∙ ap room_in (at q) ∙ split (is_at (key_cmp key) q) ∙ ap (cond (is_at (key_cmp key) q) list.room) (sym (room_found es q))

reported_equal : (key q : List ℕ) → is_at (key_cmp key) q ≡ true → key ≡ q
reported_equal key q h =
    let split : (r : Ordering) → key_cmp key q ≡ r → is_eq r ≡ true → key ≡ q = elim [ Less ↦ λ e h. cc | Equal ↦ λ e h. exact key q e | Greater ↦ λ e h. cc ] in
    split (key_cmp key q) refl h

-- the key equals itself
pub own_place : (key : List ℕ) → is_at (key_cmp key) key ≡ true
own_place key = ap is_eq (tied_itself nat_list_cmp_total key)

-- the room of the key itself
pub room_here : {V : Type 0} (es gs : Entries V) (key : List ℕ) (list : Versions V) → IsWritten es gs key list → room_at (table_of gs) key ≡ list.room
room_here es gs key list at = room_written es gs key list at key ∙ ap (λ b. cond b list.room (room_at (table_of es) key)) (own_place key)

-- no key loses room if the written list has at least as much
pub rooms_kept : {V : Type 0} (es gs : Entries V) (key : List ℕ) (list : Versions V) → room_at (table_of es) key ≤ list.room → IsWritten es gs key list → KeepsRoom (table_of es) (table_of gs)
rooms_kept es gs key list more at q =
    let P : ℕ → Type 0 = λ n. room_at (table_of es) q ≤ n in
    let split : (b : Bool) → is_at (key_cmp key) q ≡ b → room_at (table_of es) q ≤ cond b list.room (room_at (table_of es) q) = elim [
      | true ↦ λ h. let Q : List ℕ → Type 0 = λ k. room_at (table_of es) k ≤ list.room in subst Q (reported_equal key q h) more
      | false ↦ λ h. omega arith
    ] in
    subst P (sym (room_written es gs key list at q)) (split (is_at (key_cmp key) q) refl)

-- no other key loses room
pub others_kept : {V : Type 0} (es gs : Entries V) (key : List ℕ) (list : Versions V) → IsWritten es gs key list → KeepsOthersRoom (table_of es) (table_of gs) key
others_kept es gs key list at q other =
    let P : ℕ → Type 0 = λ n. room_at (table_of es) q ≤ n in
    let apart : is_at (key_cmp key) q ≡ false = same_bytes_is key q ∙ other in
    let same : room_at (table_of gs) q ≡ room_at (table_of es) q = room_written es gs key list at q ∙ ap (λ b. cond b list.room (room_at (table_of es) q)) apart in
    omega (arith, same)

-- the versions of a key that has a list
pub held_versions : {V : Type 0} (es : Entries V) (key : List ℕ) (old : Versions V) → IsStrictlySortedBy key_cmp (keys_of es) → Some old ≡ list_of es key → (held_at (table_of es) key).versions ≡ old.versions
held_versions {V} es key old rise was =
    let split : (vs : List (ℕ × V)) → (unwrap_or (unless_empty vs (record { versions = vs; clean = old.clean })) nothing).versions ≡ vs = elim [ [] ↦ refl | v ∷ vs ↦ refl ] in
    ap (λ (o : Option (Held V)). (unwrap_or o nothing).versions) (held_found es key rise ∙ ap (option_and_then shown) (sym was)) ∙ split old.versions

no_clean : (V : Type 0) (clean : ℕ) → AreVersions {V = V} [] clean → clean ≡ 0
no_clean V clean h =
    let split : (clean ≡ 0) ⊎ ((1 ≤ clean) × (clean ≡ 0)) → clean ≡ 0 = elim [ inl e ↦ e | inr e ↦ e.1 ] in
    split h.clean_is_first

unwrapped : {V : Type 0} (vs : List (ℕ × V)) (clean : ℕ) → AreVersions vs clean → unwrap_or (unless_empty vs (record { versions = vs; clean = clean })) nothing ≡ record { versions = vs; clean = clean }
unwrapped {V} [] clean h = λ i. record { versions = []; clean = sym (no_clean V clean h) i }
unwrapped {V} (v ∷ vs) clean h = refl

pub held_here : {V : Type 0} (es : Entries V) (key : List ℕ) (old : Versions V) → IsStrictlySortedBy key_cmp (keys_of es) → Some old ≡ list_of es key → AreVersions old.versions old.clean → held_at (table_of es) key ≡ held_in old
held_here {V} es key old rise was h =
    ap (λ (o : Option (Held V)). unwrap_or o nothing) (held_found es key rise ∙ ap (option_and_then shown) (sym was)) ∙ unwrapped old.versions old.clean h

some_shown : {V : Type 0} (list : Versions V) → list.versions ≢ [] → shown list ≡ Some (held_in list)
some_shown {V} list some =
    let split : (vs : List (ℕ × V)) → vs ≢ [] → unless_empty vs (held_in list) ≡ Some (held_in list) = elim [ [] ↦ λ no. absurd (no refl) | v ∷ vs ↦ λ no. refl ] in
    split list.versions some

not_nothing : {V : Type 0} (vs : List (ℕ × V)) (v : ℕ × V) → vs ++ v ∷ [] ≢ []
not_nothing [] v e = cc
not_nothing (w ∷ vs) v e = cc

-- the table after a version is appended to the list of a key
pub objects_pushed : {V : Type 0} (es gs : Entries V) (key : List ℕ) (old new : Versions V) (version : ℕ) (value : V) → IsStrictlySortedBy key_cmp (keys_of es) → IsStrictlySortedBy key_cmp (keys_of gs) → Some old ≡ list_of es key → IsWritten es gs key new → AreVersions old.versions old.clean → new.versions ≡ old.versions ++ (version, value) ∷ [] → new.clean ≡ old.clean → (table_of gs).objects ≡ put_key (table_of es).objects key (pushed (held_at (table_of es) key) version value)
objects_pushed es gs key old new version value rise rises was at h versions clean =
    let some : new.versions ≢ [] = λ e. not_nothing old.versions (version, value) (sym versions ∙ e) in
    let same : held_in new ≡ pushed (held_in old) version value = λ i. record { versions = versions i; clean = clean i } in
    objects_put es gs key new (held_in new) (some_shown new some) rise rises at
    ∙ ap (put_key (filled shown es) key) (same ∙ ap (λ held. pushed held version value) (sym (held_here es key old rise was h)))

shown_same : {V : Type 0} (old new : Versions V) → new.versions ≡ old.versions → new.clean ≡ old.clean → shown new ≡ shown old
shown_same old new versions clean = λ i. unless_empty (versions i) (record { versions = versions i; clean = clean i })

-- the table after a list with the same versions is written
pub objects_stay : {V : Type 0} (es gs : Entries V) (key : List ℕ) (old new : Versions V) → IsStrictlySortedBy key_cmp (keys_of es) → IsStrictlySortedBy key_cmp (keys_of gs) → Some old ≡ list_of es key → IsWritten es gs key new → new.versions ≡ old.versions → new.clean ≡ old.clean → (table_of gs).objects ≡ (table_of es).objects
objects_stay es gs key old new rise rises was at versions clean =
    objects_same es gs key new (shown_same old new versions clean ∙ ap (option_and_then shown) was) rise rises at

-- the table after an empty list is inserted
pub objects_placed : {V : Type 0} (es gs : Entries V) (key : List ℕ) (new : Versions V) → IsStrictlySortedBy key_cmp (keys_of es) → IsStrictlySortedBy key_cmp (keys_of gs) → list_of es key ≡ None → IsWritten es gs key new → new.versions ≡ [] → (table_of gs).objects ≡ (table_of es).objects
objects_placed es gs key new rise rises none at versions =
    objects_same es gs key new (ap (λ vs. unless_empty vs (held_in new)) versions ∙ sym (ap (option_and_then shown) none)) rise rises at

pub clash : true ≡ false → ⊥
clash e = cc

nothing_settles : (V : Type 0) (version : ℕ) → CanSettle {V = V} [] 0 version → ⊥
nothing_settles V version can =
    let absent : Option V = None in
    let split : (version ≤ 0) ⊎ IsSome absent → ⊥ = elim [ inl le ↦ omega (arith, can.0, le) | inr held ↦ clash (sym held) ] in
    split can.1

-- a version that can be settled in a table can be settled in the key's list
pub settles_in : {V : Type 0} (es : Entries V) (key : List ℕ) (old : Versions V) (version : ℕ) → IsStrictlySortedBy key_cmp (keys_of es) → Some old ≡ list_of es key → CanSettle (held_at (table_of es) key).versions (held_at (table_of es) key).clean version → (held_at (table_of es) key ≡ held_in old) × CanSettle old.versions old.clean version
settles_in {V} es key old version rise was can =
    let held : held_at (table_of es) key ≡ unwrap_or (shown old) nothing = ap (λ (o : Option (Held V)). unwrap_or o nothing) (held_found es key rise ∙ ap (option_and_then shown) (sym was)) in
    let P : Held V → Type 0 = λ h. CanSettle h.versions h.clean version in
    let inner = subst P held can in
    let split : (vs : List (ℕ × V)) → CanSettle (unwrap_or (unless_empty vs (record { versions = vs; clean = old.clean })) nothing).versions (unwrap_or (unless_empty vs (record { versions = vs; clean = old.clean })) nothing).clean version → (unwrap_or (unless_empty vs (record { versions = vs; clean = old.clean })) nothing ≡ record { versions = vs; clean = old.clean }) × CanSettle vs old.clean version = elim [
      | [] ↦ λ c. absurd (nothing_settles V version c)
      | v ∷ vs ↦ λ c. (refl, c)
    ] in
    let both = split old.versions inner in
    (held ∙ both.0, both.1)

-- the table after a version of a key is settled
pub objects_settled : {V : Type 0} (es gs : Entries V) (key : List ℕ) (old new : Versions V) (version : ℕ) → IsStrictlySortedBy key_cmp (keys_of es) → IsStrictlySortedBy key_cmp (keys_of gs) → held_at (table_of es) key ≡ held_in old → IsWritten es gs key new → new.versions ≡ versions_from old.versions version → new.versions ≢ [] → new.clean ≡ max old.clean version → (table_of gs).objects ≡ put_key (table_of es).objects key (settled (held_at (table_of es) key) version)
objects_settled es gs key old new version rise rises held at versions some clean =
    let same : held_in new ≡ settled (held_in old) version = λ i. record { versions = versions i; clean = clean i } in
    objects_put es gs key new (held_in new) (some_shown new some) rise rises at
    ∙ ap (put_key (filled shown es) key) (same ∙ ap (λ h. settled h version) (sym held))

-- a key without a list has no version that can be settled
pub none_settles : {V : Type 0} (es : Entries V) (key : List ℕ) (version : ℕ) → IsStrictlySortedBy key_cmp (keys_of es) → None ≡ list_of es key → CanSettle (held_at (table_of es) key).versions (held_at (table_of es) key).clean version → ⊥
none_settles {V} es key version rise none can =
    let held : held_at (table_of es) key ≡ nothing = ap (λ (o : Option (Held V)). unwrap_or o nothing) (held_found es key rise ∙ ap (option_and_then shown) (sym none)) in
    let P : Held V → Type 0 = λ h. CanSettle h.versions h.clean version in
    nothing_settles V version (subst P held can)

-- a key without a list has no room
pub no_room : {V : Type 0} (es : Entries V) (key : List ℕ) → false ≡ is_some (list_of es key) → 0 < room_at (table_of es) key → ⊥
no_room {V} es key none room =
    let split : (o : Option (Versions V)) → false ≡ is_some o → 0 < room_in o → ⊥ = elim [ None ↦ λ e h. omega arith | Some list ↦ λ e h. clash (sym e) ] in
    let P : ℕ → Type 0 = λ n. 0 < n in
    split (list_of es key) none (subst P (room_found es key) room)

-- the test found no list
pub none_found : {V : Type 0} (es : Entries V) (key : List ℕ) → false ≡ is_some (list_of es key) → list_of es key ≡ None
none_found {V} es key h =
    let split : (o : Option (Versions V)) → false ≡ is_some o → o ≡ None = elim [ None ↦ λ h. refl | Some x ↦ λ h. absurd (clash (sym h)) ] in
    split (list_of es key) h

-- the room of a key that has a list
pub room_old : {V : Type 0} (es : Entries V) (key : List ℕ) (old : Versions V) → Some old ≡ list_of es key → room_at (table_of es) key ≡ old.room
room_old es key old was = room_found es key ∙ ap room_in (sym was)

-- a key without a list has no room
pub no_list_room : {V : Type 0} (es : Entries V) (key : List ℕ) (room : ℕ) → list_of es key ≡ None → room_at (table_of es) key ≤ room
no_list_room es key room none =
    let zero_room : room_at (table_of es) key ≡ 0 = room_found es key ∙ ap room_in none in
    omega arith

-- a look-up finds the list if it has versions, else nothing
pub shown_found : {V : Type 0} (es : Entries V) (key : List ℕ) (list : Versions V) → IsStrictlySortedBy key_cmp (keys_of es) → Some list ≡ list_of es key → list.versions ≢ [] → Some (held_in list) ≡ at_key (table_of es).objects key
shown_found es key list rise was some = sym (some_shown list some) ∙ ap (option_and_then shown) was ∙ sym (held_found es key rise)

pub none_shown : {V : Type 0} (es : Entries V) (key : List ℕ) → IsStrictlySortedBy key_cmp (keys_of es) → None ≡ list_of es key → None ≡ at_key (table_of es).objects key
none_shown es key rise none = ap (option_and_then shown) none ∙ sym (held_found es key rise)

pub empty_shown : {V : Type 0} (es : Entries V) (key : List ℕ) (list : Versions V) → IsStrictlySortedBy key_cmp (keys_of es) → Some list ≡ list_of es key → list.versions ≡ [] → None ≡ at_key (table_of es).objects key
empty_shown es key list rise was none = sym (ap (λ vs. unless_empty vs (held_in list)) none) ∙ ap (option_and_then shown) was ∙ sym (held_found es key rise)

take_none : (Q : List ℕ → Type 0) (xs : List (List ℕ)) → AllByRecursion Q (take 0 xs)
take_none Q [] = tt
take_none Q (x ∷ xs) = tt

all_to_suc : (P Q : List ℕ → Type 0) (xs : List (List ℕ)) (i : ℕ) (x : List ℕ) → x ≡ get_or xs i x → ((y : List ℕ) → P y → Q y) → Q x → AllByRecursion P (take i xs) → AllByRecursion Q (take (suc i) xs)
all_to_suc P Q [] i x is more last h = tt
all_to_suc P Q (y ∷ xs) zero x is more last h = (subst Q is last, take_none Q xs)
all_to_suc P Q (y ∷ xs) (suc i) x is more last h = (more y h.0, all_to_suc P Q xs i x is more last h.1)

-- a property of all items up to one, and of the next
pub all_to_next : (P Q : List ℕ → Type 0) (xs : List (List ℕ)) (i : ℕ) (x : List ℕ) → x ≡ get_or xs i x → ((y : List ℕ) → P y → Q y) → Q x → AllByRecursion P (take i xs) → AllByRecursion Q (take (i + 1) xs)
all_to_next P Q xs i x is more last h = rw add-one (all_to_suc P Q xs i x is more last h)

-- the keys that have versions are strictly increasing
pub rising_keys : {V : Type 0} (es : Entries V) (objects : List (List ℕ × Held V)) → objects ≡ filled shown es → IsStrictlySortedBy key_cmp (keys_of es) → IsStrictlySortedBy key_cmp (map (λ o. o.0) objects)
rising_keys {V} es objects is rise =
    let Rises : List (List ℕ × Held V) → Type 0 = λ l. IsStrictlySortedBy key_cmp (map (λ o. o.0) l) in
    subst Rises (sym is) (keys_filled key_cmp shown es rise)

-- a version that can be settled with another item in a table can be in the key's list
pub settles_as_in : {V : Type 0} (es : Entries V) (key : List ℕ) (old : Versions V) (version : ℕ) → IsStrictlySortedBy key_cmp (keys_of es) → Some old ≡ list_of es key → CanSettleAs (held_at (table_of es) key).versions version → CanSettleAs old.versions version
settles_as_in {V} es key old version rise was can = subst (λ (vs : List (ℕ × V)). CanSettleAs vs version) (held_versions es key old rise was) can

nothing_settles_as : (V : Type 0) (version : ℕ) → CanSettleAs {V = V} [] version → ⊥
nothing_settles_as V version (inl held) = clash (sym held)
nothing_settles_as V version (inr next) = next

-- a key without a list has no such version
pub none_settles_as : {V : Type 0} (es : Entries V) (key : List ℕ) (version : ℕ) → IsStrictlySortedBy key_cmp (keys_of es) → None ≡ list_of es key → CanSettleAs (held_at (table_of es) key).versions version → ⊥
none_settles_as {V} es key version rise none can =
    let held : held_at (table_of es) key ≡ nothing = ap (λ (o : Option (Held V)). unwrap_or o nothing) (held_found es key rise ∙ ap (option_and_then shown) (sym none)) in
    let P : Held V → Type 0 = λ h. CanSettleAs h.versions version in
    nothing_settles_as V version (subst P held can)

-- the versions of a key that has a list
pub versions_of_held : {V : Type 0} (es : Entries V) (key : List ℕ) (old : Versions V) → IsStrictlySortedBy key_cmp (keys_of es) → Some old ≡ list_of es key → AreVersions old.versions old.clean → AreVersions (held_at (table_of es) key).versions (held_at (table_of es) key).clean
versions_of_held {V} es key old rise was h =
    let P : Held V → Type 0 = λ x. AreVersions x.versions x.clean in
    subst P (sym (held_here es key old rise was h)) h

settled_some : {V : Type 0} (vs : List (ℕ × V)) (version : ℕ) (held : V) → versions_settled vs version held ≢ []
settled_some vs version held e = cc

-- the table after a version of a key is settled with this held item
pub objects_settled_as : {V : Type 0} (es gs : Entries V) (key : List ℕ) (old new : Versions V) (version : ℕ) (value : V) → IsStrictlySortedBy key_cmp (keys_of es) → IsStrictlySortedBy key_cmp (keys_of gs) → Some old ≡ list_of es key → IsWritten es gs key new → AreVersions old.versions old.clean → new.versions ≡ versions_settled old.versions version value → new.clean ≡ version
    → (table_of gs).objects ≡ put_key (table_of es).objects key (settled_as (held_at (table_of es) key) version value)
objects_settled_as es gs key old new version value rise rises was at h versions clean =
    let some : new.versions ≢ [] = λ e. settled_some old.versions version value (sym versions ∙ e) in
    let same : held_in new ≡ settled_as (held_in old) version value = λ i. record { versions = versions i; clean = clean i } in
    objects_put es gs key new (held_in new) (some_shown new some) rise rises at
    ∙ ap (put_key (filled shown es) key) (same ∙ ap (λ held. settled_as held version value) (sym (held_here es key old rise was h)))

-- the versions of a key with or without a list
held_of : {V : Type 0} → Option (Versions V) → Held V
held_of None = nothing
held_of (Some list) = held_in list

held_as : {V : Type 0} (es : Entries V) (key : List ℕ) → IsStrictlySortedBy key_cmp (keys_of es) → held_at (table_of es) key ≡ unwrap_or (option_and_then shown (list_of es key)) nothing
held_as {V} es key rise = ap (λ (o : Option (Held V)). unwrap_or o nothing) (held_found es key rise)

-- the versions of each key after the newest version of one key is removed
pub held_popped : {V : Type 0} (es gs : Entries V) (key : List ℕ) (old new : Versions V) → IsStrictlySortedBy key_cmp (keys_of es) → IsStrictlySortedBy key_cmp (keys_of gs) → Some old ≡ list_of es key → IsWritten es gs key new → AreVersions old.versions old.clean → AreVersions new.versions new.clean → new.versions ≡ without_newest old.versions → new.clean ≡ clean_without old.versions old.clean
    → (q : List ℕ) → held_at (table_of gs) q ≡ (if same_bytes key q then popped (held_at (table_of es) q) else held_at (table_of es) q)
held_popped {V} es gs key old new rise rises was at h k versions clean q =
    let same : held_in new ≡ popped (held_in old) = λ i. record { versions = versions i; clean = clean i } in
    let shows : unwrap_or (shown new) nothing ≡ popped (held_at (table_of es) key) = unwrapped new.versions new.clean k ∙ same ∙ ap popped (sym (held_here es key old rise was h)) in
    let split : (b : Bool) → is_at (key_cmp key) q ≡ b → unwrap_or (option_and_then shown (cond b (Some new) (list_of es q))) nothing ≡ (if b then popped (held_at (table_of es) q) else held_at (table_of es) q) = elim [
      | true ↦ λ e. shows ∙ ap (λ (x : List ℕ). popped (held_at (table_of es) x)) (reported_equal key q e)
      | false ↦ λ e. sym (held_as es q rise)
    ] in
    held_as gs q rises ∙ ap (λ (o : Option (Versions V)). unwrap_or (option_and_then shown o) nothing) (at q) ∙ split (is_at (key_cmp key) q) refl
    ∙ ap (λ (b : Bool). if b then popped (held_at (table_of es) q) else held_at (table_of es) q) (same_bytes_is key q)

-- nothing is removed from a key without a list
pub none_popped : {V : Type 0} (es gs : Entries V) (key : List ℕ) → IsStrictlySortedBy key_cmp (keys_of es) → gs ≡ es → None ≡ list_of es key → (q : List ℕ) → held_at (table_of gs) q ≡ (if same_bytes key q then popped (held_at (table_of es) q) else held_at (table_of es) q)
none_popped {V} es gs key rise same none q =
    let held : held_at (table_of es) key ≡ nothing = held_as es key rise ∙ ap (λ (o : Option (Versions V)). unwrap_or (option_and_then shown o) nothing) (sym none) in
    let empty : nothing ≡ popped {V = V} nothing = refl in
    let split : (b : Bool) → is_at (key_cmp key) q ≡ b → held_at (table_of es) q ≡ (if b then popped (held_at (table_of es) q) else held_at (table_of es) q) = elim [
      | true ↦ λ e. let here = reported_equal key q e in ap (λ (x : List ℕ). held_at (table_of es) x) (sym here) ∙ held ∙ empty ∙ ap popped (sym held) ∙ ap (λ (x : List ℕ). popped (held_at (table_of es) x)) here
      | false ↦ λ e. refl
    ] in
    ap (λ (x : Entries V). held_at (table_of x) q) same ∙ split (is_at (key_cmp key) q) refl
    ∙ ap (λ (b : Bool). if b then popped (held_at (table_of es) q) else held_at (table_of es) q) (same_bytes_is key q)

-- the table after a list is inserted for a key without one
pub objects_more : {V : Type 0} (es gs : Entries V) (key : List ℕ) (new : Versions V) → IsStrictlySortedBy key_cmp (keys_of es) → IsStrictlySortedBy key_cmp (keys_of gs) → IsWritten es gs key new → new.versions ≢ [] → (table_of gs).objects ≡ put_key (table_of es).objects key (held_in new)
objects_more es gs key new rise rises at some = objects_put es gs key new (held_in new) (some_shown new some) rise rises at

-- the first version of a key without a list
pub first_pushed : {V : Type 0} (es fs gs : Entries V) (key k : List ℕ) (version : ℕ) (value : V) (list : Versions V) → IsStrictlySortedBy key_cmp (keys_of es) → fs ≡ es → k ≡ key → None ≡ list_of es key → list.versions ≡ (version, value) ∷ [] → list.clean ≡ 0 → (table_of gs).objects ≡ put_key (table_of fs).objects k (held_in list)
    → (table_of gs).objects ≡ put_key (table_of es).objects key (pushed (held_at (table_of es) key) version value)
first_pushed {V} es fs gs key k version value list rise same is none versions clean put =
    let held : held_at (table_of es) key ≡ nothing = held_as es key rise ∙ ap (λ (o : Option (Versions V)). unwrap_or (option_and_then shown o) nothing) (sym none) in
    let one : held_in list ≡ pushed nothing version value = λ i. record { versions = versions i; clean = clean i } in
    put ∙ ap (λ (x : Entries V). put_key (table_of x).objects k (held_in list)) same ∙ ap (λ (q : List ℕ). put_key (table_of es).objects q (held_in list)) is
    ∙ ap (put_key (table_of es).objects key) (one ∙ ap (λ (h : Held V). pushed h version value) (sym held))

-- a list may be inserted for a key that has none
pub absent_there : {V : Type 0} (es fs : Entries V) (key k : List ℕ) → fs ≡ es → k ≡ key → None ≡ list_of es key → list_of fs k ≡ None
absent_there {V} es fs key k same is none = ap (λ (x : Entries V). list_of x k) same ∙ ap (λ (q : List ℕ). list_of es q) is ∙ sym none

pub none_first : {V : Type 0} (es : Entries V) (key : List ℕ) → None ≡ list_of es key → 0 < room_at (table_of es) key → ⊥
none_first {V} es key none room = no_room es key (sym (ap is_some (sym none))) room
