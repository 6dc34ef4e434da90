-- Objects of a table after the versions of one are changed.
use Rattle.std.proofs.Common.{◌≡◌, ◌⊎◌, inl, inr, ℕ, zero, suc, ◌+◌, ◌-◌, ◌<◌, ◌≤◌, Bool, true, false, cond, T, List, [], ◌∷◌, ◌++◌, length, map, take, drop, Option, Some, None, refl, sym, ◌∙◌, ap, subst, arith, rules}
use Rattle.std.specs.Prelude.{unwrap_or, is_some, IsSome, if◌then◌else◌, nat_le}
use Rattle.std.specs.Option.{option_and_then}
use Rattle.std.specs.Ordering.{is_eq, eq_by_cmp, nat_cmp}
use Rattle.std.specs.declared.cmp.Ordering.{Ordering}
use Rattle.std.specs.declared.cmp.Ordering.TheVariants.{Less, Equal, Greater}
use Rattle.std.specs.Cmp.{eq_by_cmp_equiv, tied_itself}
use Rattle.std.specs.Cmp.Lexicographic.{nat_list_cmp_total, texts_ties}
use Rattle.std.specs.List.Sorted.{IsStrictlySortedBy}
use Rattle.std.specs.FinMap.{IsAntisymmetric, nat_cmp-IsAntisymmetric, slice_cmp-IsAntisymmetric}
use Rattle.std.specs.FinMap.Entries.{find, find-put, is_sorted, is_sorted-put, same_entries}
use Rattle.craq_names.specs.Maps.{key_cmp, at_key, at_number, put_key, same_bytes}
use Rattle.craq_names.proofs.Places.{find_filled, is_sorted_filled, is_sorted_of}
use Rattle.craq_commands.specs.Objects.{Objects, object_of}
use Rattle.craq_versions.specs.Tables.{Held, held_at, held_in, nothing, only_clean, popped, pushed, settled_as}
use Rattle.craq_versions.specs.Versions.{Versions, CanPush, CanSettleAs, AreConsecutive, AreVersions, IsNext, newest_of, versions_from, without_newest}
use Rattle.craq_compact_state.specs.declared.value_locations.ValueLocation.{ValueLocation}
use Rattle.craq_compact_state.specs.declared.value_locations.ValueLocation.TheVariants.{Settled, Written}
use Rattle.craq_compact_state.specs.declared.value_locations.WriteRef.{WriteRef}
use Rattle.craq_compact_state.specs.Placed.{Placed, shown, has_some, later_from, later_in, later_of, objects_of, settled_in, settled_version, versions_of, IsPlaced, IsRising, KeepsLater, SettlesNext, StartsAt}

-- one key has these versions, and every other key the ones it had
abbrev pub IsChanged : Placed → Placed → List ℕ → List (ℕ × ValueLocation) → Type 0
IsChanged t u key vs = (q : List ℕ) → versions_of u q ≡ cond (same_bytes key q) vs (versions_of t q)

exact : IsAntisymmetric key_cmp
exact = slice_cmp-IsAntisymmetric nat_cmp-IsAntisymmetric

pub clash : true ≡ false → ⊥
clash e = cc

equal : (r : Ordering) → is_eq r ≡ true → r ≡ Equal
equal Less p = cc
equal Equal p = refl
equal Greater p = cc

-- keys with the same bytes are equal
pub same_is : (key q : List ℕ) → same_bytes key q ≡ true → key ≡ q
same_is key q same = exact key q (equal (key_cmp key q) (sym (texts_ties key q) ∙ same))

pub own : (key : List ℕ) → same_bytes key key ≡ true
own key = texts_ties key key ∙ ap is_eq (tied_itself nat_list_cmp_total key)

-- the two tests of equal keys agree, in either order
pub same_either_way : (key q : List ℕ) → eq_by_cmp key_cmp q key ≡ same_bytes key q
same_either_way key q = (eq_by_cmp_equiv nat_list_cmp_total).symm q key ∙ sym (texts_ties key q)

-- a key is written
pub changed : (t u : Placed) (key : List ℕ) (h : Held ValueLocation) → u.objects ≡ put_key t.objects key h → IsChanged t u key h.versions
changed t u key h is q =
    let split : (b : Bool) → (unwrap_or (cond b (Some h) (at_key t.objects q)) nothing).versions ≡ cond b h.versions (versions_of t q) = elim [ true ↦ refl | false ↦ refl ] in
    ap (λ (m : List (List ℕ × Held ValueLocation)). (unwrap_or (at_key m q) nothing).versions) is
    ∙ ap (λ (o : Option (Held ValueLocation)). (unwrap_or o nothing).versions) (find-put key_cmp nat_list_cmp_total q key h t.objects)
    ∙ split (eq_by_cmp key_cmp q key) ∙ ap (λ b. cond b h.versions (versions_of t q)) (same_either_way key q)

pub rising_put : (t u : Placed) (key : List ℕ) (h : Held ValueLocation) → u.objects ≡ put_key t.objects key h → IsRising t → IsRising u
rising_put t u key h is rise = subst (λ (m : List (List ℕ × Held ValueLocation)). T (is_sorted key_cmp m)) (sym is) (is_sorted-put key_cmp nat_list_cmp_total key h t.objects rise)

pub rising_same : (t u : Placed) → u.objects ≡ t.objects → IsRising t → IsRising u
rising_same t u is rise = subst (λ (m : List (List ℕ × Held ValueLocation)). T (is_sorted key_cmp m)) (sym is) rise

pub rising_popped : (u : Placed) → IsStrictlySortedBy key_cmp (map (λ (o : List ℕ × Held ValueLocation). o.0) u.objects) → IsRising u
rising_popped u rise = is_sorted_of key_cmp shown u.objects rise

pub versions_same : (t u : Placed) → u.objects ≡ t.objects → (q : List ℕ) → versions_of u q ≡ versions_of t q
versions_same t u is q = ap (λ (m : List (List ℕ × Held ValueLocation)). (unwrap_or (at_key m q) nothing).versions) is

pub later_same : (t u : Placed) → u.objects ≡ t.objects → KeepsLater t u
later_same t u is q = ap later_in (versions_same t u is q)

pub objects_same : (t u : Placed) → u.objects ≡ t.objects → objects_of u ≡ objects_of t
objects_same t u is = search (rules, is)

-- the settled object of a key
pub object_found : (t : Placed) (key : List ℕ) → IsRising t → at_key (objects_of t) key ≡ settled_in (versions_of t key)
object_found t key rise =
    let split : (o : Option (Held ValueLocation)) → option_and_then shown o ≡ settled_in (unwrap_or o nothing).versions = elim [ None ↦ refl | Some h ↦ refl ] in
    find_filled key_cmp shown nat_list_cmp_total key t.objects rise ∙ split (at_key t.objects key)

pub object_here : (t : Placed) (key : List ℕ) → IsRising t → unwrap_or (settled_in (versions_of t key)) (0, []) ≡ object_of (objects_of t) key
unfolding object_of
object_here t key rise = sym (ap (λ (o : Option (ℕ × List ℕ)). unwrap_or o (0, [])) (object_found t key rise))

-- the result of a look-up
pub found_here : (t : Placed) (key : List ℕ) (list : Versions ValueLocation) → Some (held_in list) ≡ at_key t.objects key → list.versions ≡ versions_of t key
found_here t key list is = ap (λ (o : Option (Held ValueLocation)). (unwrap_or o nothing).versions) is

pub none_here : (t : Placed) (key : List ℕ) → None ≡ at_key t.objects key → [] ≡ versions_of t key
none_here t key is = ap (λ (o : Option (Held ValueLocation)). (unwrap_or o nothing).versions) is

pub indexed_here : (t : Placed) (key : List ℕ) (list : Versions ValueLocation) → IsRising t → Some (held_in list) ≡ at_key t.objects key → unwrap_or (settled_in list.versions) (0, []) ≡ object_of (objects_of t) key
indexed_here t key list rise is = ap (λ (vs : List (ℕ × ValueLocation)). unwrap_or (settled_in vs) (0, [])) (found_here t key list is) ∙ object_here t key rise

pub absent_here : (t : Placed) (key : List ℕ) → IsRising t → None ≡ at_key t.objects key → (0, []) ≡ object_of (objects_of t) key
absent_here t key rise is = ap (λ (vs : List (ℕ × ValueLocation)). unwrap_or (settled_in vs) (0, [])) (none_here t key is) ∙ object_here t key rise

-- objects are equal if the settled object of each key is
objects_are : (t : Placed) (m : Objects) → IsRising t → T (is_sorted key_cmp m) → ((q : List ℕ) → settled_in (versions_of t q) ≡ at_key m q) → objects_of t ≡ m
objects_are t m rise sorted each =
    same_entries key_cmp nat_list_cmp_total exact (objects_of t) m (is_sorted_filled key_cmp shown t.objects rise) sorted (λ q. object_found t q rise ∙ each q)

-- the objects are unchanged if each settled object is
pub objects_stay : (t u : Placed) → IsRising t → IsRising u → ((q : List ℕ) → settled_in (versions_of u q) ≡ settled_in (versions_of t q)) → objects_of u ≡ objects_of t
objects_stay t u was is each = objects_are u (objects_of t) is (is_sorted_filled key_cmp shown t.objects was) (λ q. each q ∙ sym (object_found t q was))

-- a version of a key is settled
pub objects_put : (t u : Placed) (key : List ℕ) (vs : List (ℕ × ValueLocation)) (object : ℕ × List ℕ) → settled_in vs ≡ Some object → IsRising t → IsRising u → IsChanged t u key vs → objects_of u ≡ put_key (objects_of t) key object
objects_put t u key vs object has was is at =
    let sorted = is_sorted_filled key_cmp shown t.objects was in
    objects_are u (put_key (objects_of t) key object) is (is_sorted-put key_cmp nat_list_cmp_total key object (objects_of t) sorted) (λ q.
    let split : (b : Bool) → settled_in (cond b vs (versions_of t q)) ≡ cond b (Some object) (at_key (objects_of t) q) = elim [ true ↦ has | false ↦ sym (object_found t q was) ] in
    ap settled_in (at q) ∙ split (same_bytes key q) ∙ ap (λ b. cond b (Some object) (at_key (objects_of t) q)) (sym (same_either_way key q)) ∙ sym (find-put key_cmp nat_list_cmp_total q key object (objects_of t)))

-- the settled object of each key after versions behind the settled one are changed
pub settled_changed : (t u : Placed) (key : List ℕ) (vs : List (ℕ × ValueLocation)) → settled_in vs ≡ settled_in (versions_of t key) → IsChanged t u key vs → (q : List ℕ) → settled_in (versions_of u q) ≡ settled_in (versions_of t q)
settled_changed t u key vs same at q =
    let split : (b : Bool) → same_bytes key q ≡ b → settled_in (cond b vs (versions_of t q)) ≡ settled_in (versions_of t q) = elim [
      | true ↦ λ e. same ∙ ap (λ (k : List ℕ). settled_in (versions_of t k)) (same_is key q e)
      | false ↦ λ e. refl
    ] in
    ap settled_in (at q) ∙ split (same_bytes key q) refl

-- the later versions of each key after that
pub later_changed : (t u : Placed) (key : List ℕ) (vs : List (ℕ × ValueLocation)) (f : List (ℕ × ValueLocation) → List (ℕ × ValueLocation)) → IsChanged t u key vs → later_in vs ≡ f (later_of t key) → (q : List ℕ) → later_of u q ≡ cond (same_bytes key q) (f (later_of t q)) (later_of t q)
later_changed t u key vs f at is q =
    let split : (b : Bool) → same_bytes key q ≡ b → later_in (cond b vs (versions_of t q)) ≡ cond b (f (later_of t q)) (later_of t q) = elim [
      | true ↦ λ e. is ∙ ap (λ (k : List ℕ). f (later_of t k)) (same_is key q e)
      | false ↦ λ e. refl
    ] in
    ap later_in (at q) ∙ split (same_bytes key q) refl

-- the oldest later version is dropped
pub oldest_gone : (b : Bool) (l : List (ℕ × ValueLocation)) → cond b (drop 1 l) l ≡ drop (if b then 1 else 0) l
oldest_gone true l = refl
oldest_gone false l = refl

all_taken : (l : List (ℕ × ValueLocation)) → take (length l) l ≡ l
all_taken [] = refl
all_taken (r ∷ l) = ap (λ (t : List (ℕ × ValueLocation)). r ∷ t) (all_taken l)

-- the newest later version is dropped
pub newest_gone : (b : Bool) (l : List (ℕ × ValueLocation)) → cond b (take (length l - 1) l) l ≡ take (length l - (if b then 1 else 0)) l
newest_gone true l = refl
newest_gone false l = let all : length l ≡ length l - 0 = omega arith in sym (all_taken l) ∙ ap (λ n. take n l) all

-- no later version is dropped
pub none_gone : (l : List (ℕ × ValueLocation)) → l ≡ take (length l - 0) l
none_gone l = newest_gone false l

pub none_more : (l : List (ℕ × ValueLocation)) → l ≡ l ++ []
none_more [] = refl
none_more (r ∷ l) = ap (λ (t : List (ℕ × ValueLocation)). r ∷ t) (none_more l)

-- one later version is added
one_more : (b : Bool) (x : ℕ × ValueLocation) (l : List (ℕ × ValueLocation)) → cond b (l ++ x ∷ []) l ≡ l ++ (if b then x ∷ [] else [])
one_more true x l = refl
one_more false x l = none_more l

settled_first : (v : ℕ × ValueLocation) (vs ws : List (ℕ × ValueLocation)) → settled_in (v ∷ vs) ≡ settled_in (v ∷ ws)
settled_first v vs ws = refl

pub settled_more : (vs : List (ℕ × ValueLocation)) (n : ℕ) (at : WriteRef) → settled_in (vs ++ (n, Written at) ∷ []) ≡ settled_in vs
settled_more [] n at = refl
settled_more (v ∷ vs) n at = settled_first v (vs ++ (n, Written at) ∷ []) vs

later_more : (vs : List (ℕ × ValueLocation)) (n : ℕ) (at : WriteRef) → later_in (vs ++ (n, Written at) ∷ []) ≡ later_in vs ++ (n, Written at) ∷ []
later_more [] n at = refl
later_more (v ∷ vs) n at =
    let x : ℕ × ValueLocation = (n, Written at) in
    let split : (p : ValueLocation) → later_from p (v ∷ (vs ++ x ∷ [])) (vs ++ x ∷ []) ≡ later_from p (v ∷ vs) vs ++ x ∷ [] = elim [ Settled value ↦ refl | Written r ↦ refl ] in
    split v.1

-- a later version is appended to those of a key
pub versions_pushed : (t u : Placed) (key : List ℕ) (n : ℕ) (at : WriteRef) → u.objects ≡ put_key t.objects key (pushed (held_at t key) n (Written at)) → (q : List ℕ) → versions_of u q ≡ versions_of t q ++ (if same_bytes key q then (n, Written at) ∷ [] else [])
versions_pushed t u key n at is q =
    let x : ℕ × ValueLocation = (n, Written at) in
    let split : (b : Bool) → same_bytes key q ≡ b → cond b (versions_of t key ++ x ∷ []) (versions_of t q) ≡ versions_of t q ++ (if b then x ∷ [] else []) = elim [
      | true ↦ λ e. ap (λ (k : List ℕ). versions_of t k ++ x ∷ []) (same_is key q e)
      | false ↦ λ e. none_more (versions_of t q)
    ] in
    changed t u key (pushed (held_at t key) n (Written at)) is q ∙ split (same_bytes key q) refl

pub later_pushed : (t u : Placed) (key : List ℕ) (n : ℕ) (at : WriteRef) → u.objects ≡ put_key t.objects key (pushed (held_at t key) n (Written at)) → (q : List ℕ) → later_of u q ≡ later_of t q ++ (if same_bytes key q then (n, Written at) ∷ [] else [])
later_pushed t u key n at is q =
    let x : ℕ × ValueLocation = (n, Written at) in
    later_changed t u key (versions_of t key ++ x ∷ []) (λ l. l ++ x ∷ []) (changed t u key (pushed (held_at t key) n (Written at)) is) (later_more (versions_of t key) n at) q ∙ one_more (same_bytes key q) x (later_of t q)

pub objects_pushed : (t u : Placed) (key : List ℕ) (n : ℕ) (at : WriteRef) → IsRising t → u.objects ≡ put_key t.objects key (pushed (held_at t key) n (Written at)) → objects_of u ≡ objects_of t
objects_pushed t u key n at rise is =
    let h : Held ValueLocation = pushed (held_at t key) n (Written at) in
    objects_stay t u rise (rising_put t u key h is rise) (settled_changed t u key h.versions (settled_more (versions_of t key) n at) (changed t u key h is))

-- the newest version of a key is removed
abbrev pub IsPopped : Placed → Placed → List ℕ → Type 0
IsPopped t u key = (q : List ℕ) → held_at u q ≡ (if same_bytes key q then popped (held_at t q) else held_at t q)

popped_is : (t u : Placed) (key : List ℕ) → IsPopped t u key → IsChanged t u key (without_newest (versions_of t key))
popped_is t u key at q =
    let split : (b : Bool) → same_bytes key q ≡ b → (if b then popped (held_at t q) else held_at t q).versions ≡ cond b (without_newest (versions_of t key)) (versions_of t q) = elim [
      | true ↦ λ e. ap (λ (k : List ℕ). without_newest (versions_of t k)) (sym (same_is key q e))
      | false ↦ λ e. refl
    ] in
    ap (λ (h : Held ValueLocation). h.versions) (at q) ∙ split (same_bytes key q) refl

settled_taken : (k : ℕ) (v : ℕ × ValueLocation) (vs : List (ℕ × ValueLocation)) → settled_in (take (suc k) (v ∷ vs)) ≡ settled_in (v ∷ vs)
settled_taken k v vs = refl

written_taken : (k n : ℕ) (at : WriteRef) (vs : List (ℕ × ValueLocation)) → (settled_in (take k ((n, Written at) ∷ vs)) ≡ None) × (later_in (take k ((n, Written at) ∷ vs)) ≡ take k ((n, Written at) ∷ vs))
written_taken zero n at vs = (refl, refl)
written_taken (suc k) n at vs = (refl, refl)

-- the settled version stays, and the newest later version is dropped
pub without_is : (vs : List (ℕ × ValueLocation)) → has_some (later_in vs) ≡ true → (settled_in (without_newest vs) ≡ settled_in vs) × (later_in (without_newest vs) ≡ take (length (later_in vs) - 1) (later_in vs))
without_is [] some = absurd (clash (sym some))
without_is (v ∷ vs) some = split v.0 v.1 vs some
  where
    split : (n : ℕ) (p : ValueLocation) (vs : List (ℕ × ValueLocation)) → has_some (later_from p ((n, p) ∷ vs) vs) ≡ true → (settled_in (without_newest ((n, p) ∷ vs)) ≡ settled_in ((n, p) ∷ vs)) × (later_in (without_newest ((n, p) ∷ vs)) ≡ take (length (later_from p ((n, p) ∷ vs) vs) - 1) (later_from p ((n, p) ∷ vs) vs))
    split n (Written at) vs some = written_taken (length ((n, Written at) ∷ vs) - 1) n at vs
    split n (Settled value) [] some = absurd (clash (sym some))
    split n (Settled value) (w ∷ ws) some =
        let v : ℕ × ValueLocation = (n, Settled value) in
        let one : length (v ∷ w ∷ ws) - 1 ≡ suc (length ws) = omega arith in
        let two : length ws ≡ length (w ∷ ws) - 1 = omega arith in
        (ap (λ (k : ℕ). settled_in (take k (v ∷ w ∷ ws))) one, ap (λ (k : ℕ). later_in (take k (v ∷ w ∷ ws))) one ∙ ap (λ (k : ℕ). take k (w ∷ ws)) two)

pub objects_popped : (t u : Placed) (key : List ℕ) → IsRising t → IsRising u → IsPopped t u key → has_some (later_of t key) ≡ true → objects_of u ≡ objects_of t
objects_popped t u key was is at some = objects_stay t u was is (settled_changed t u key (without_newest (versions_of t key)) (without_is (versions_of t key) some).0 (popped_is t u key at))

pub later_popped : (t u : Placed) (key : List ℕ) → IsPopped t u key → has_some (later_of t key) ≡ true → (q : List ℕ) → later_of u q ≡ take (length (later_of t q) - (if same_bytes key q then 1 else 0)) (later_of t q)
later_popped t u key at some q =
    later_changed t u key (without_newest (versions_of t key)) (λ l. take (length l - 1) l) (popped_is t u key at) (without_is (versions_of t key) some).1 q ∙ newest_gone (same_bytes key q) (later_of t q)

none_taken : (n : ℕ) (l : List (ℕ × ValueLocation)) → has_some l ≡ false → l ≡ take n l
none_taken zero [] e = refl
none_taken (suc n) [] e = refl
none_taken n (v ∷ l) e = absurd (clash e)

-- nothing is dropped if the key has no later versions
pub nothing_popped : (t : Placed) (key : List ℕ) → has_some (later_of t key) ≡ false → (q : List ℕ) → later_of t q ≡ take (length (later_of t q) - (if same_bytes key q then 1 else 0)) (later_of t q)
nothing_popped t key none q =
    let l : List (ℕ × ValueLocation) = later_of t q in
    let split : (b : Bool) → same_bytes key q ≡ b → l ≡ take (length l - (if b then 1 else 0)) l = elim [
      | true ↦ λ e. none_taken (length l - 1) l (ap (λ (k : List ℕ). has_some (later_of t k)) (sym (same_is key q e)) ∙ none)
      | false ↦ λ e. newest_gone false l
    ] in
    split (same_bytes key q) refl

le_true : (m n : ℕ) → m ≤ n → nat_le m n ≡ true
le_true m n le = search (rules, le)

pub le_false : (m n : ℕ) → n < m → nat_le m n ≡ false
le_false m n above = search (rules, above)

tied : (q n : ℕ) → q ≡ n → eq_by_cmp nat_cmp q n ≡ true
tied q n same = search (rules, same)

from_low : (b : ℕ) (v : ℕ × ValueLocation) (vs : List (ℕ × ValueLocation)) → AreConsecutive (v ∷ vs) → b ≤ v.0 → versions_from (v ∷ vs) b ≡ v ∷ vs
from_low b v [] row low = ap (λ t. cond t (v ∷ []) []) (le_true b v.0 low)
from_low b v (w ∷ vs) row low =
    let next : w.0 ≡ v.0 + 1 = row.0 in
    ap (λ t. cond t (v ∷ versions_from (w ∷ vs) b) (versions_from (w ∷ vs) b)) (le_true b v.0 low) ∙ ap (λ (l : List (ℕ × ValueLocation)). v ∷ l) (from_low b w vs row.1 (omega (arith, low, next)))

-- the versions after the first
from_next : (v : ℕ × ValueLocation) (vs : List (ℕ × ValueLocation)) → AreConsecutive (v ∷ vs) → versions_from (v ∷ vs) (v.0 + 1) ≡ vs
from_next v [] row = ap (λ t. cond t (v ∷ []) []) (le_false (v.0 + 1) v.0 (omega arith))
from_next v (w ∷ vs) row =
    let next : w.0 ≡ v.0 + 1 = row.0 in
    ap (λ t. cond t (v ∷ versions_from (w ∷ vs) (v.0 + 1)) (versions_from (w ∷ vs) (v.0 + 1))) (le_false (v.0 + 1) v.0 (omega arith)) ∙ from_low (v.0 + 1) w vs row.1 (omega (arith, next))

-- the later versions after the oldest of them is settled
without_oldest : (vs : List (ℕ × ValueLocation)) (version : ℕ) → AreConsecutive vs → StartsAt version (later_in vs) → versions_from vs (version + 1) ≡ drop 1 (later_in vs)
without_oldest [] version row starts = absurd starts
without_oldest (v ∷ vs) version row starts = split v.0 v.1 vs row starts
  where
    split : (n : ℕ) (p : ValueLocation) (vs : List (ℕ × ValueLocation)) → AreConsecutive ((n, p) ∷ vs) → StartsAt version (later_from p ((n, p) ∷ vs) vs) → versions_from ((n, p) ∷ vs) (version + 1) ≡ drop 1 (later_from p ((n, p) ∷ vs) vs)
    split n (Written at) vs row starts = ap (λ (k : ℕ). versions_from ((n, Written at) ∷ vs) (k + 1)) (sym starts) ∙ from_next (n, Written at) vs row
    split n (Settled value) [] row starts = absurd starts
    split n (Settled value) (w ∷ ws) row starts =
        let next : w.0 ≡ n + 1 = row.0 in
        let here : w.0 ≡ version = starts in
        ap (λ t. cond t ((n, Settled value) ∷ versions_from (w ∷ ws) (version + 1)) (versions_from (w ∷ ws) (version + 1))) (le_false (version + 1) n (omega (arith, next, here)))
        ∙ ap (λ (k : ℕ). versions_from (w ∷ ws) (k + 1)) (sym here) ∙ from_next w ws row.1

-- the oldest later version is one of the versions
holds_oldest : (vs : List (ℕ × ValueLocation)) (version : ℕ) → StartsAt version (later_in vs) → IsSome (at_number vs version)
holds_oldest [] version starts = absurd starts
holds_oldest (v ∷ vs) version starts = split v.0 v.1 vs starts
  where
    split : (n : ℕ) (p : ValueLocation) (vs : List (ℕ × ValueLocation)) → StartsAt version (later_from p ((n, p) ∷ vs) vs) → IsSome (at_number ((n, p) ∷ vs) version)
    split n (Written at) vs starts = ap (λ b. is_some (cond b (Some (Written at)) (at_number vs version))) (tied version n (sym starts))
    split n (Settled value) [] starts = absurd starts
    split n (Settled value) (w ∷ ws) starts =
        let rest : is_some (at_number (w ∷ ws) version) ≡ true = ap (λ b. is_some (cond b (Some w.1) (at_number ws version))) (tied version w.0 (sym starts)) in
        let either : (b : Bool) → is_some (cond b (Some (Settled value)) (at_number (w ∷ ws) version)) ≡ true = elim [ true ↦ refl | false ↦ rest ] in
        either (eq_by_cmp nat_cmp version n)

-- the later versions after the next one is settled
without_settled : (vs : List (ℕ × ValueLocation)) (version : ℕ) → AreConsecutive vs → SettlesNext vs version → versions_from vs (version + 1) ≡ drop 1 (later_in vs)
without_settled vs version row (inl starts) = without_oldest vs version row starts
without_settled [] version row (inr after) = absurd after.1
without_settled (v ∷ vs) version row (inr after) = split v.0 v.1 vs after.0 after.1
  where
    no_list : (v : ℕ × ValueLocation) (vs : List (ℕ × ValueLocation)) → v ∷ vs ≡ [] → ⊥
    no_list v vs e = cc

    split : (n : ℕ) (p : ValueLocation) (vs : List (ℕ × ValueLocation)) → later_from p ((n, p) ∷ vs) vs ≡ [] → IsNext version (newest_of ((n, p) ∷ vs)) → versions_from ((n, p) ∷ vs) (version + 1) ≡ drop 1 (later_from p ((n, p) ∷ vs) vs)
    split n (Written at) vs none next = absurd (no_list (n, Written at) vs none)
    split n (Settled value) [] none next = let is : version ≡ n + 1 = next in ap (λ t. cond t ((n, Settled value) ∷ []) []) (le_false (version + 1) n (omega (arith, is)))
    split n (Settled value) (w ∷ ws) none next = absurd (no_list w ws none)

-- the next version can be settled
pub can_settle : (vs : List (ℕ × ValueLocation)) (version : ℕ) → SettlesNext vs version → CanSettleAs vs version
can_settle vs version (inl starts) = inl (holds_oldest vs version starts)
can_settle vs version (inr after) = inr after.1

-- the next version is settled
pub later_settled : (t u : Placed) (key : List ℕ) (version : ℕ) (value : List ℕ) → u.objects ≡ put_key t.objects key (settled_as (held_at t key) version (Settled value)) → AreVersions (held_at t key).versions (held_at t key).clean → SettlesNext (versions_of t key) version
    → (q : List ℕ) → later_of u q ≡ drop (if same_bytes key q then 1 else 0) (later_of t q)
later_settled t u key version value is row starts q =
    let h : Held ValueLocation = settled_as (held_at t key) version (Settled value) in
    later_changed t u key h.versions (drop 1) (changed t u key h is) (without_settled (versions_of t key) version row.consecutive starts) q ∙ oldest_gone (same_bytes key q) (later_of t q)

pub objects_settled : (t u : Placed) (key : List ℕ) (version : ℕ) (value : List ℕ) → IsRising t → u.objects ≡ put_key t.objects key (settled_as (held_at t key) version (Settled value)) → objects_of u ≡ put_key (objects_of t) key (version, value)
objects_settled t u key version value rise is =
    let h : Held ValueLocation = settled_as (held_at t key) version (Settled value) in
    objects_put t u key h.versions (version, value) refl rise (rising_put t u key h is rise) (changed t u key h is)

-- an object of one settled version is inserted
pub objects_first : (t u : Placed) (key : List ℕ) (version : ℕ) (value : List ℕ) → IsRising t → u.objects ≡ put_key t.objects key (only_clean version (Settled value)) → objects_of u ≡ put_key (objects_of t) key (version, value)
objects_first t u key version value rise is =
    let h : Held ValueLocation = only_clean version (Settled value) in
    objects_put t u key h.versions (version, value) refl rise (rising_put t u key h is rise) (changed t u key h is)

pub later_first : (t u : Placed) (key : List ℕ) (version : ℕ) (value : List ℕ) → u.objects ≡ put_key t.objects key (only_clean version (Settled value)) → (q : List ℕ) → later_of t q ≡ [] → later_of u q ≡ []
later_first t u key version value is q h =
    let all : Held ValueLocation = only_clean version (Settled value) in
    let split : (b : Bool) → cond b [] (later_of t q) ≡ [] = elim [ true ↦ refl | false ↦ h ] in
    later_changed t u key all.versions (λ l. []) (changed t u key all is) refl q ∙ split (same_bytes key q)

empty_at : (m : List (List ℕ × Held ValueLocation)) (q : List ℕ) → m ≡ [] → (unwrap_or (at_key m q) nothing).versions ≡ []
empty_at m q none = ap (λ (x : List (List ℕ × Held ValueLocation)). (unwrap_or (at_key x q) nothing).versions) none

-- the empty table
pub new_is_empty : (t : Placed) → t.objects ≡ [] → (objects_of t ≡ []) × ((q : List ℕ) → later_of t q ≡ []) × IsPlaced t
new_is_empty t none =
    let rising : IsRising t = subst (λ (m : List (List ℕ × Held ValueLocation)). T (is_sorted key_cmp m)) (sym none) tt in
    let clean : (q : List ℕ) → (held_at t q).clean ≡ settled_version (versions_of t q) = λ q. subst (λ (m : List (List ℕ × Held ValueLocation)). (unwrap_or (at_key m q) nothing).clean ≡ settled_version (unwrap_or (at_key m q) nothing).versions) (sym none) refl in
    (search (rules, none), λ q. ap later_in (empty_at t.objects q none), record { rising = rising; clean = clean })
