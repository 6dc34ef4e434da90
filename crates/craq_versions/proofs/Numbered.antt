-- Items as consecutive versions.
use Rattle.std.proofs.Common.{◌≡◌, ℕ, zero, suc, ◌+◌, ◌-◌, ◌<◌, ◌≤◌, ◌^◌, ◌⊎◌, inl, inr, Bool, true, false, cond, min, List, [], ◌∷◌, ◌++◌, length, drop, map, take, get_or, Option, Some, None, refl, sym, ◌∙◌, ap, subst, arith, rules, length-append, length-drop}
use Rattle.std.proofs.lemmas.List.{length-take-le}
use Rattle.std.proofs.lemmas.Option.{slice_get_past, slice_get-get_or, slice_get_within}
use Rattle.std.proofs.lemmas.Bool.{ltb-true, ltb-false}
use Rattle.std.specs.Borrow.{Bor}
use Rattle.std.specs.List.{last_or}
use Rattle.std.specs.Option.{option_copied}
use Rattle.std.specs.Prelude.{IfSome, is_some, nat_lt, ◌==◌, ◌↔◌, if◌then◌else◌, nat_le, unwrap_or, IsSome, IsTrue, slice_get}
use Rattle.std.specs.Ordering.{nat_cmp, eq_by_cmp}
use Rattle.craq_names.specs.Maps.{at_number}
use Rattle.craq_versions.specs.Versions.{numbered, newest_of, Follows, newest_within, versions_from, versions_settled, without_newest, clean_without, AreConsecutive, CanPush, CanSettle, CanSettleAs, IsNext, IsStored, AreVersions}

pub length_numbered : {V : Type 0} (first : ℕ) (values : List V) → length (numbered first values) ≡ length values
length_numbered first [] = refl
length_numbered first (v ∷ values) = ap suc (length_numbered (first + 1) values)

-- an empty list of versions comes from an empty list of items
pub numbered_none : {V : Type 0} (first : ℕ) (values : List V) → numbered first values ≡ [] → values ≡ []
numbered_none first [] h = refl
numbered_none first (v ∷ values) h = cc

-- numbered items are consecutive versions
pub consecutive_numbered : {V : Type 0} (first : ℕ) (values : List V) → AreConsecutive (numbered first values)
consecutive_numbered first [] = tt
consecutive_numbered first (v ∷ []) = tt
consecutive_numbered first (v ∷ w ∷ values) = (refl, consecutive_numbered (first + 1) (w ∷ values))

last_numbered : {V : Type 0} (o : Option (ℕ × V)) (first : ℕ) (v d : V) (values : List V) → last_or o (numbered first (v ∷ values)) ≡ Some (first + length values, get_or (v ∷ values) (length values) d)
last_numbered o first v d [] = let same : first ≡ first + 0 = omega arith in ap (λ (n : ℕ). Some (n, v)) same
last_numbered o first v d (w ∷ values) =
    let same : (first + 1) + length values ≡ first + suc (length values) = omega arith in
    last_numbered (Some (first, v)) (first + 1) w d values ∙ ap (λ (n : ℕ). Some (n, get_or (w ∷ values) (length values) d)) same

-- the newest version and its held item
pub newest_numbered : {V : Type 0} (first : ℕ) (values : List V) (d : V) → 0 < length values → newest_of (numbered first values) ≡ Some (first + (length values - 1), get_or values (length values - 1) d)
newest_numbered first [] d some = absurd (omega arith)
newest_numbered first (v ∷ values) d some =
    let same : length values ≡ suc (length values) - 1 = omega arith in
    last_numbered None first v d values ∙ ap (λ (n : ℕ). Some (first + n, get_or (v ∷ values) n d)) same

-- an empty list has no newest version
pub newest_none : {V : Type 0} (first : ℕ) (values : List V) → length values ≡ 0 → None ≡ newest_of (numbered first values)
newest_none first [] none = refl
newest_none first (v ∷ values) none = absurd (omega arith)

-- the versions after one item is appended
pub numbered_more : {V : Type 0} (first : ℕ) (values : List V) (v : V) → numbered first (values ++ v ∷ []) ≡ numbered first values ++ (first + length values, v) ∷ []
numbered_more first [] v = let same : first ≡ first + 0 = omega arith in ap (λ (n : ℕ). (n, v) ∷ []) same
numbered_more first (w ∷ values) v =
    let same : (first + 1) + length values ≡ first + suc (length values) = omega arith in
    ap (λ rest. (first, w) ∷ rest) (numbered_more (first + 1) values v ∙ ap (λ (n : ℕ). numbered (first + 1) values ++ (n, v) ∷ []) same)

tied : (q n : ℕ) → q ≡ n → eq_by_cmp nat_cmp q n ≡ true
tied q n same = search (rules, same)

apart : (q n : ℕ) → q < n → eq_by_cmp nat_cmp q n ≡ false
apart q n below = search (rules, below)

apart_above : (q n : ℕ) → n < q → eq_by_cmp nat_cmp q n ≡ false
apart_above q n above = search (rules, above)

-- a version below the first is not in the list
pub found_below : {V : Type 0} (first q : ℕ) (values : List V) → q < first → at_number (numbered first values) q ≡ None
found_below first q [] below = refl
found_below first q (v ∷ values) below = ap (λ b. cond b (Some v) (at_number (numbered (first + 1) values) q)) (apart q first below) ∙ found_below (first + 1) q values (omega arith)

-- the item of a version that is at least the first
pub found_at : {V : Type 0} (first q : ℕ) (values : List V) → first ≤ q → at_number (numbered first values) q ≡ slice_get values (q - first)
found_at first q [] from = refl
found_at first q (v ∷ values) from =
    let pick : (n : ℕ) → q - first ≡ n → at_number (numbered first (v ∷ values)) q ≡ slice_get (v ∷ values) n = elim [
      | zero ↦ λ e. ap (λ b. cond b (Some v) (at_number (numbered (first + 1) values) q)) (tied q first (omega arith))
      | suc n ↦ λ e.
          let rest : q - (first + 1) ≡ n = omega arith in
          ap (λ b. cond b (Some v) (at_number (numbered (first + 1) values) q)) (apart_above q first (omega arith)) ∙ found_at (first + 1) q values (omega arith) ∙ ap (slice_get values) rest
    ] in
    pick (q - first) refl

le_true : (m n : ℕ) → m ≤ n → nat_le m n ≡ true
le_true m n le = search (rules, le)

le_false : (m n : ℕ) → n < m → nat_le m n ≡ false
le_false m n above = search (rules, above)

-- no version is at most a bound below the first
pub within_below : {V : Type 0} (first bound : ℕ) (values : List V) → bound < first → newest_within (numbered first values) bound ≡ None
within_below first bound [] below = refl
within_below first bound (v ∷ values) below =
    ap (λ b. cond b (Some (unwrap_or (newest_within (numbered (first + 1) values) bound) (first, v))) None) (le_false first bound below)

-- the newest version at most a bound that is at least the first
pub within_at : {V : Type 0} (first bound i : ℕ) (values : List V) (d : V) → first ≤ bound → 0 < length values → i ≡ min (bound - first) (length values - 1) → newest_within (numbered first values) bound ≡ Some (first + i, get_or values i d)
within_at {V} first bound i [] d from some at = absurd (omega arith)
within_at {V} first bound i (v ∷ []) d from some at =
    let zero_at : 0 ≡ i = omega arith in
    let same : first ≡ first + 0 = omega arith in
    ap (λ b. cond b (Some (first, v)) None) (le_true first bound from) ∙ ap (λ (n : ℕ). Some (n, v)) same ∙ ap (λ (n : ℕ). Some (first + n, get_or (v ∷ []) n d)) zero_at
within_at {V} first bound i (v ∷ w ∷ values) d from some at =
    let open_le = ap (λ b. cond b (Some (unwrap_or (newest_within (numbered (first + 1) (w ∷ values)) bound) (first, v))) None) (le_true first bound from) in
    let pick : (n : ℕ) → i ≡ n → Some (unwrap_or (newest_within (numbered (first + 1) (w ∷ values)) bound) (first, v)) ≡ Some (first + n, get_or (v ∷ w ∷ values) n d) = elim [
      | zero ↦ λ e.
          let same : first ≡ first + 0 = omega arith in
          ap (λ (o : Option (ℕ × V)). Some (unwrap_or o (first, v))) (within_below (first + 1) bound (w ∷ values) (omega arith)) ∙ ap (λ (n : ℕ). Some (n, v)) same
      | suc n ↦ λ e.
          let same : (first + 1) + n ≡ first + suc n = omega arith in
          ap (λ (o : Option (ℕ × V)). Some (unwrap_or o (first, v))) (within_at (first + 1) bound n (w ∷ values) d (omega arith) (omega arith) (omega arith)) ∙ ap (λ (m : ℕ). Some (m, get_or (w ∷ values) n d)) same
    ] in
    open_le ∙ pick i refl ∙ refl

-- the versions from a number at most the first are all versions
pub from_all : {V : Type 0} (first version : ℕ) (values : List V) → version ≤ first → versions_from (numbered first values) version ≡ numbered first values
from_all first version [] low = refl
from_all first version (v ∷ values) low =
    ap (λ b. cond b ((first, v) ∷ versions_from (numbered (first + 1) values) version) (versions_from (numbered (first + 1) values) version)) (le_true version first low) ∙ ap (λ rest. (first, v) ∷ rest) (from_all (first + 1) version values (omega arith))

-- the versions from a number that is at least the first
pub from_at : {V : Type 0} (first version : ℕ) (values : List V) → first ≤ version → versions_from (numbered first values) version ≡ numbered version (drop (version - first) values)
from_at {V} first version [] from = let none : (n : ℕ) → drop n (let none : List V = [] in none) ≡ [] = elim [ zero ↦ refl | suc n ↦ refl ] in sym (ap (numbered version) (none (version - first)))
from_at {V} first version (v ∷ values) from =
    let pick : (n : ℕ) → version - first ≡ n → versions_from (numbered first (v ∷ values)) version ≡ numbered version (drop n (v ∷ values)) = elim [
      | zero ↦ λ e.
          let same : first ≡ version = omega arith in
          from_all first version (v ∷ values) (omega arith) ∙ ap (λ (n : ℕ). numbered n (v ∷ values)) same
      | suc n ↦ λ e.
          let rest : version - (first + 1) ≡ n = omega arith in
          ap (λ b. cond b ((first, v) ∷ versions_from (numbered (first + 1) values) version) (versions_from (numbered (first + 1) values) version)) (le_false version first (omega arith))
          ∙ from_at (first + 1) version values (omega arith) ∙ ap (λ (n : ℕ). numbered version (drop n values)) rest
    ] in
    pick (version - first) refl

-- the version that can be appended is the next
next_version : {V : Type 0} (first : ℕ) (w : V) (values : List V) (version : ℕ) → Follows version (newest_of (numbered first (w ∷ values))) → version ≡ first + length (w ∷ values)
next_version {V} first w values version follows =
    let P : Option (ℕ × V) → Type 0 = λ o. Follows version o in
    let next : version ≡ (first + (length (w ∷ values) - 1)) + 1 = subst P (newest_numbered first (w ∷ values) w (omega arith)) follows in
    omega arith

not_zero : (n : ℕ) → (suc n == 0) ≡ false
not_zero n = search rules

some_more : {V : Type 0} (values : List V) (m n : ℕ) → (if suc (length values) == 0 then m else n) ≡ n
some_more values m n = ap (λ b. if b then m else n) (not_zero (length values))

-- the stored form after an item is appended; a single item keeps its own version
pub stored_more : {V : Type 0} (first first' version : ℕ) (has_clean : Bool) (values : List V) (v : V) → IsStored first has_clean values → CanPush (numbered first values) version → version < 2 ^ 64 → first' ≡ (if length values == 0 then version else first) → IsStored first' has_clean (values ++ v ∷ [])
stored_more first first' version has_clean [] v h can small same =
    let one : 1 ≤ version = can.0 in
    record { from_one = omega arith; fits = omega arith; clean_is_held = λ held. omega arith }
stored_more first first' version has_clean (w ∷ values) v h can small picked =
    let same : first' ≡ first = picked ∙ some_more values version first in
    let one : 1 ≤ first = h.from_one in
    let next : version ≡ first + length (w ∷ values) = next_version first w values version can.1 in
    record {
      from_one = omega arith;
      fits = omega (arith, length-append (w ∷ values) (v ∷ []));
      clean_is_held = λ held. omega (arith, length-append (w ∷ values) (v ∷ []));
    }

-- the versions after one more is appended
pub versions_more : {V : Type 0} (first first' version : ℕ) (values : List V) (v : V) → CanPush (numbered first values) version → first' ≡ (if length values == 0 then version else first) → numbered first' (values ++ v ∷ []) ≡ numbered first values ++ (version, v) ∷ []
versions_more first first' version [] v can same = ap (λ (n : ℕ). (n, v) ∷ []) same
versions_more first first' version (w ∷ values) v can picked =
    let same : first' ≡ first = picked ∙ some_more values version first in
    let next : first + length (w ∷ values) ≡ version = sym (next_version first w values version can.1) in
    ap (λ (n : ℕ). numbered n ((w ∷ values) ++ v ∷ [])) same ∙ numbered_more first (w ∷ values) v ∙ ap (λ (n : ℕ). numbered first (w ∷ values) ++ (n, v) ∷ []) next

no_less : (i n : ℕ) → (i < n → false ≡ true) → n ≤ i
no_less i n h =
    let split : (b : Bool) → nat_lt i n ≡ b → n ≤ i = elim [ true ↦ λ e. let less : i < n = ltb-true i n e in let clash = h less in cc | false ↦ λ e. ltb-false i n e ] in
    split (nat_lt i n) refl

clash : true ≡ false → ⊥
clash e = cc

no_list : {V : Type 0} {v : ℕ × V} {vs : List (ℕ × V)} → v ∷ vs ≡ [] → ⊥
no_list e = cc

settled_case : {V : Type 0} (first version clean : ℕ) (values : List V) → (version ≤ clean) ⊎ IsSome (at_number (numbered first values) version) → version < first → version ≤ clean
settled_case first version clean values (inl le) below = le
settled_case first version clean values (inr held) below =
    let none : false ≡ true = sym (ap is_some (found_below first version values below)) ∙ held in
    absurd (clash (sym none))

-- a borrowed item
pub lent_is : {V : Type 0} (xs : List V) (i : ℕ) (r : Option (Bor V)) → (IsSome r ↔ (i < length xs)) → IfSome r (λ x. x.now ≡ get_or xs i x.now) → option_copied r ≡ slice_get xs i
lent_is {V} xs i None some at =
    let past : length xs ≤ i = no_less i (length xs) some.1 in
    sym (slice_get_past xs i past)
lent_is {V} xs i (Some x) some at =
    let within : i < length xs = some.0 refl in
    ap (λ (v : V). Some v) at ∙ sym (slice_get-get_or xs i x.now within)

-- the held item of a version that is looked up
pub held_is : {V : Type 0} (first version count : ℕ) (values : List V) (r : Option (Bor V)) → count ≡ length values → first ≤ version → (IsSome r ↔ ((version - first) < count)) → IfSome r (λ x. x.now ≡ get_or values (version - first) x.now) → option_copied r ≡ at_number (numbered first values) version
held_is first version count values r all from some at =
    let P : ℕ → Type 0 = λ n. IsSome r ↔ ((version - first) < n) in
    lent_is values (version - first) r (subst P all some) at ∙ sym (found_at first version values from)

-- the newest version, when the last item is borrowed
pub newest_is : {V : Type 0} (first count : ℕ) (values : List V) (v : V) → count ≡ length values → 0 < count → v ≡ get_or values (count - 1) v → Some (first + (count - 1), v) ≡ newest_of (numbered first values)
newest_is {V} first count values v all some at =
    ap (λ (x : V). Some (first + (count - 1), x)) at ∙ ap (λ (n : ℕ). Some (first + (n - 1), get_or values (n - 1) v)) all ∙ sym (newest_numbered first values v (omega arith))

-- the newest version at most a bound, when its item is borrowed
pub within_is : {V : Type 0} (first bound count i : ℕ) (values : List V) (v : V) → count ≡ length values → first ≤ bound → 0 < count → i ≡ min (bound - first) (count - 1) → v ≡ get_or values i v → Some (first + i, v) ≡ newest_within (numbered first values) bound
within_is {V} first bound count i values v all from some at is =
    ap (λ (v : V). Some (first + i, v)) is ∙ sym (within_at first bound i values v from (omega arith) (omega arith))

-- an empty list has no version within a bound
pub within_none : {V : Type 0} (first bound : ℕ) (values : List V) → length values ≡ 0 → None ≡ newest_within (numbered first values) bound
within_none first bound [] none = refl
within_none first bound (v ∷ values) none = absurd (omega arith)

-- there are no versions exactly if there are no items
pub none_numbered : {V : Type 0} (first : ℕ) (values : List V) (b : Bool) → b ≡ (length values == 0) → IsTrue b ↔ (numbered first values ≡ [])
none_numbered first [] b e = (λ h. refl, λ h. e)
none_numbered first (v ∷ values) b e = (λ h. absurd (clash (sym h ∙ e ∙ not_zero (length values))), λ h. absurd (no_list h))

held_within : {V : Type 0} (values : List V) (i : ℕ) → IsSome (slice_get values i) → i < length values
held_within {V} values i held =
    let split : (o : Option V) → slice_get values i ≡ o → is_some o ≡ true → i < length values = elim [ None ↦ λ e h. cc | Some x ↦ λ e h. slice_get_within values i x e ] in
    split (slice_get values i) refl held

settled_at : {V : Type 0} (first version : ℕ) (has_clean : Bool) (values : List V) → IsStored first has_clean values → 1 ≤ version → (version ≤ (if has_clean then first else 0)) ⊎ IsSome (at_number (numbered first values) version) → first ≤ version → version - first < length values
settled_at first version true values h one (inl le) from = let some : 0 < length values = h.clean_is_held refl in omega arith
settled_at first version false values h one (inl le) from = omega arith
settled_at first version has_clean values h one (inr held) from = held_within values (version - first) (ap is_some (sym (found_at first version values from)) ∙ held)

-- a version that may be settled and is below the first is at most the clean one
pub settled_below : {V : Type 0} (first version clean : ℕ) (values : List V) → CanSettle (numbered first values) clean version → version < first → version ≤ clean
settled_below first version clean values can below = settled_case first version clean values can.1 below

-- there are versions if an older one can be settled
pub some_below : {V : Type 0} (first version : ℕ) (has_clean : Bool) (values : List V) → IsStored first has_clean values → CanSettle (numbered first values) (if has_clean then first else 0) version → version < first → 0 < length values
some_below first version true values stored can below = stored.clean_is_held refl
some_below first version false values stored can below = absurd (omega (arith, can.0, settled_below first version 0 values can below))

-- a version that may be settled and is at least the first is in the list
pub settled_from : {V : Type 0} (first version : ℕ) (has_clean : Bool) (values : List V) → IsStored first has_clean values → CanSettle (numbered first values) (if has_clean then first else 0) version → first ≤ version → version - first < length values
settled_from first version has_clean values h can from = settled_at first version has_clean values h can.0 can.1 from

-- the stored form from a version on
pub stored_from : {V : Type 0} (first version : ℕ) (has_clean : Bool) (values : List V) → IsStored first has_clean values → first ≤ version → version - first < length values → IsStored version true (drop (version - first) values)
stored_from first version has_clean values h from held =
    let one : 1 ≤ first = h.from_one in
    let fits : first + length values ≤ 2 ^ 64 = h.fits in
    record {
      from_one = omega arith;
      fits = omega (arith, length-drop (version - first) values);
      clean_is_held = λ clean. omega (arith, length-drop (version - first) values);
    }

-- stored items are versions, whose first may be clean
pub versions_stored : {V : Type 0} (first : ℕ) (has_clean : Bool) (values : List V) → IsStored first has_clean values → AreVersions (numbered first values) (if has_clean then first else 0)
versions_stored first has_clean [] h =
    let split : (b : Bool) → (IsTrue b → 0 < 0) → (if b then first else 0) ≡ 0 = elim [ true ↦ λ some. absurd (omega (arith, some refl)) | false ↦ λ some. refl ] in
    record { consecutive = tt; from_one = inl refl; clean_is_first = inl (split has_clean h.clean_is_held) }
versions_stored first true (v ∷ values) h =
    record { consecutive = consecutive_numbered first (v ∷ values); from_one = inr h.from_one; clean_is_first = inr (h.from_one, refl) }
versions_stored first false (v ∷ values) h =
    record { consecutive = consecutive_numbered first (v ∷ values); from_one = inr h.from_one; clean_is_first = inl refl }

-- a nonempty list of items gives a nonempty list of versions
pub numbered_some : {V : Type 0} (first : ℕ) (values : List V) → 0 < length values → numbered first values ≡ [] → ⊥
numbered_some first [] some e = omega arith
numbered_some first (v ∷ values) some e = no_list e

-- a version that is in the list is within its range
pub held_from : {V : Type 0} (first version : ℕ) (values : List V) → IsSome (at_number (numbered first values) version) → (first ≤ version) × (version - first < length values)
held_from {V} first version values held =
    let absent : Option V = None in
    let low : (b : Bool) → nat_lt version first ≡ b → (first ≤ version) × (version - first < length values) = elim [
      | true ↦ λ e. let none : IsSome absent = subst (λ (o : Option V). IsSome o) (found_below first version values (ltb-true version first e)) held in absurd (clash (sym none))
      | false ↦ λ e.
          let from : first ≤ version = ltb-false version first e in
          (from, held_within values (version - first) (ap is_some (sym (found_at first version values from)) ∙ held))
    ] in
    low (nat_lt version first) refl

nothing_left : {V : Type 0} (n : ℕ) (values : List V) → length values ≤ n → drop n values ≡ []
nothing_left zero [] few = refl
nothing_left (suc n) [] few = refl
nothing_left zero (v ∷ values) few = absurd (omega (arith, few))
nothing_left (suc n) (v ∷ values) few = nothing_left n values (omega (arith, few))

-- a version that can become the first with any held item is in range, or is the next
pub settles_from : {V : Type 0} (first version : ℕ) (values : List V) → CanSettleAs (numbered first values) version → (first ≤ version) × (0 < length values) × (version - first ≤ length values)
settles_from first version values (inl held) =
    let from = held_from first version values held in
    let low = from.0 in
    let high = from.1 in
    (low, omega (arith, high), omega (arith, high))
settles_from {V} first version [] (inr next) = absurd next
settles_from {V} first version (v ∷ values) (inr next) =
    let is : version ≡ (first + (length (v ∷ values) - 1)) + 1 = subst (λ (o : Option (ℕ × V)). IsNext version o) (newest_numbered first (v ∷ values) v (omega arith)) next in
    (omega (arith, is), omega arith, omega (arith, is))

-- the stored form after a version becomes the first with this held item
pub stored_as : {V : Type 0} (first version i : ℕ) (has_clean : Bool) (values : List V) (held : V) → IsStored first has_clean values → version < 2 ^ 64 → first ≤ version → 0 < length values → version - first ≤ length values → i ≡ min (version - first) (length values - 1) → IsStored version true (held ∷ drop (i + 1) values)
stored_as first version i has_clean values held h small from some within is =
    let one : 1 ≤ first = h.from_one in
    let fits : first + length values ≤ 2 ^ 64 = h.fits in
    record {
      from_one = omega arith;
      fits = omega (arith, length-drop (i + 1) values);
      clean_is_held = λ clean. omega arith;
    }

left_at : {V : Type 0} (n i : ℕ) (values : List V) → 0 < length values → n ≤ length values → i ≡ min n (length values - 1) → drop (n + 1) values ≡ drop (i + 1) values
left_at {V} n i values some within is =
    let split : (b : Bool) → nat_lt n (length values) ≡ b → drop (n + 1) values ≡ drop (i + 1) values = elim [
      | true ↦ λ e. let low : n < length values = ltb-true n (length values) e in let same : n ≡ i = omega arith in ap (λ (k : ℕ). drop (k + 1) values) same
      | false ↦ λ e. let high : length values ≤ n = ltb-false n (length values) e in nothing_left (n + 1) values (omega arith) ∙ sym (nothing_left (i + 1) values (omega arith))
    ] in
    split (nat_lt n (length values)) refl

pub versions_as : {V : Type 0} (first version i : ℕ) (values : List V) (held : V) → first ≤ version → 0 < length values → version - first ≤ length values → i ≡ min (version - first) (length values - 1) → numbered version (held ∷ drop (i + 1) values) ≡ versions_settled (numbered first values) version held
versions_as {V} first version i values held from some within is =
    let more : first ≤ version + 1 = omega arith in
    let rest : version + 1 - first ≡ version - first + 1 = omega arith in
    ap (λ (l : List V). numbered version (held ∷ l)) (sym (left_at (version - first) i values some within is))
    ∙ sym (ap (λ vs. (version, held) ∷ vs) (from_at first (version + 1) values more ∙ ap (λ (n : ℕ). numbered (version + 1) (drop n values)) rest))

take_numbered : {V : Type 0} (first n : ℕ) (values : List V) → numbered first (take n values) ≡ take n (numbered first values)
take_numbered first zero values = refl
take_numbered first (suc n) [] = refl
take_numbered first (suc n) (v ∷ values) = ap (λ vs. (first, v) ∷ vs) (take_numbered (first + 1) n values)

-- all versions but the newest
pub versions_without : {V : Type 0} (first count : ℕ) (values : List V) → count ≡ length values → numbered first (take (count - 1) values) ≡ without_newest (numbered first values)
versions_without first count values all = take_numbered first (count - 1) values ∙ ap (λ (n : ℕ). take (n - 1) (numbered first values)) (all ∙ sym (length_numbered first values))

-- the stored form after the newest version is removed
pub stored_without : {V : Type 0} (first count left : ℕ) (has_clean still : Bool) (values : List V) → IsStored first has_clean values → count ≡ length values → left ≡ length (take (count - 1) values) → still ≡ (if left == 0 then false else has_clean) → IsStored first still (take (count - 1) values)
stored_without {V} first count left has_clean still values h all rest is =
    let fits : first + length values ≤ 2 ^ 64 = h.fits in
    let few : length (take (count - 1) values) ≡ count - 1 = length-take-le (count - 1) values (omega (arith, all)) in
    let split : (n : ℕ) → left ≡ n → IsTrue still → 0 < length (take (count - 1) values) = elim [
      | zero ↦ λ e some. absurd (clash (sym some ∙ is ∙ ap (λ (k : ℕ). if k == 0 then false else has_clean) e))
      | suc n ↦ λ e some. omega (arith, e, rest)
    ] in
    record {
      from_one = h.from_one;
      fits = omega (arith, few, all);
      clean_is_held = split left refl;
    }

-- the clean version after the newest version is removed
pub clean_left : {V : Type 0} (first count left : ℕ) (has_clean still : Bool) (values : List V) → IsStored first has_clean values → count ≡ length values → left ≡ length (take (count - 1) values) → still ≡ (if left == 0 then false else has_clean) → (if still then first else 0) ≡ clean_without (numbered first values) (if has_clean then first else 0)
clean_left {V} first count left has_clean still values h all rest is =
    let few : length (take (count - 1) values) ≡ count - 1 = length-take-le (count - 1) values (omega (arith, all)) in
    let long : length (numbered first values) ≡ length values = length_numbered first values in
    let clean : ℕ = (if has_clean then first else 0) in
    let split : (n : ℕ) → left ≡ n → (if (if n == 0 then false else has_clean) then first else 0) ≡ (if nat_le (length (numbered first values)) 1 then 0 else clean) = elim [
      | zero ↦ λ e. sym (ap (λ (b : Bool). if b then 0 else clean) (le_true (length (numbered first values)) 1 (omega (arith, e, rest, few, all, long))))
      | suc n ↦ λ e. ap (λ (b : Bool). if (if b then false else has_clean) then first else 0) (not_zero n) ∙ sym (ap (λ (b : Bool). if b then 0 else clean) (le_false (length (numbered first values)) 1 (omega (arith, e, rest, few, all, long))))
    ] in
    ap (λ (b : Bool). if b then first else 0) is ∙ split left refl

first_numbered : {V : Type 0} (first : ℕ) (values : List V) → map (λ (v : ℕ × V). v.1) (numbered first values) ≡ values
first_numbered first [] = refl
first_numbered first (v ∷ values) = ap (λ vs. v ∷ vs) (first_numbered (first + 1) values)

-- the held items of the versions
pub held_numbered : {V : Type 0} (first : ℕ) (values : List V) → values ≡ map (λ (v : ℕ × V). v.1) (numbered first values)
held_numbered first values = sym (first_numbered first values)
