-- Consecutive versions as entries are indexed, applied and appended.
use Rattle.std.proofs.Common.{◌≡◌, ◌⊎◌, inl, inr, ℕ, zero, suc, ◌+◌, ◌-◌, ◌<◌, ◌≤◌, Bool, true, false, cond, List, [], ◌∷◌, ◌++◌, length, take, drop, drop-cons, get_or, Option, Some, None, unwrap_or, refl, sym, ◌∙◌, ap, subst, arith, add-one}
use Rattle.std.specs.List.{AllByRecursion, last_or}
use Rattle.std.specs.Prelude.{if◌then◌else◌}
use Rattle.craq_names.specs.Maps.{same_bytes}
use Rattle.craq_commands.specs.declared.entry.Entry.{Entry}
use Rattle.craq_commands.specs.declared.entry.Write.{Write}
use Rattle.craq_commands.specs.declared.state.State.{State}
use Rattle.craq_commands.specs.Kept.{Window}
use Rattle.craq_commands.specs.Objects.{Objects, object_of, version_of}
use Rattle.craq_commands.specs.SingleCopy.{after_entry, after_entries}
use Rattle.craq_log.specs.Suffixed.{Suffixed, IsFirstOf}
use Rattle.craq_model.specs.Past.{values_in, values_after}
use Rattle.craq_full_history.specs.Scans.{last_value}
use Rattle.craq_full_history.proofs.Scans.{last_of_values}
use Rattle.craq_versions.specs.Versions.{CanPush, Follows, IsNext, newest_of, versions_from, versions_settled}
use Rattle.craq_compact_state.specs.declared.value_locations.ValueLocation.{ValueLocation}
use Rattle.craq_compact_state.specs.declared.value_locations.ValueLocation.TheVariants.{Settled}
use Rattle.craq_compact_state.specs.Followed.{AreNext, AreNextVersions, Begins, CanApply}
use Rattle.craq_compact_state.specs.Indexed.{AreIndexed, version_at, written_in, written_after}
use Rattle.craq_compact_state.specs.Placed.{Placed, later_in, later_of, newest_version, value_number, objects_of, state_at, versions_of, IsRising, SettlesNext, StartsAt}
use Rattle.craq_compact_state.proofs.Found.{newest_number, values-append, values_split}
use Rattle.craq_compact_state.proofs.Looked.{seen_indexed}
use Rattle.craq_compact_state.proofs.Placing.{none_more, object_here, own}

next_front : (n : ℕ) (xs ys : List (ℕ × List ℕ)) → AreNext n (xs ++ ys) → AreNext n xs
next_front n [] ys h = tt
next_front n (x ∷ xs) ys h = (h.0, next_front x.0 xs ys h.1)

next_back : (o : ℕ × List ℕ) (xs ys : List (ℕ × List ℕ)) → AreNext o.0 (xs ++ ys) → AreNext (last_value o xs).0 ys
unfolding last_value
next_back o [] ys h = h
next_back o (x ∷ xs) ys h = next_back x xs ys h.1

pub next_join : (o : ℕ × List ℕ) (xs ys : List (ℕ × List ℕ)) → AreNext o.0 xs → AreNext (last_value o xs).0 ys → AreNext o.0 (xs ++ ys)
unfolding last_value
next_join o [] ys first second = second
next_join o (x ∷ xs) ys first second = (first.0, next_join x xs ys first.1 second)

-- the first write gives the next version
next_write : (n : ℕ) (w : Write) (ws : List Write) → AreNext n (values_in (w ∷ ws) w.key) → w.version ≡ n + 1
unfolding values_in
next_write n w ws h =
    let split : (b : Bool) → b ≡ true → AreNext n (cond b ((w.version, w.value) ∷ values_in ws w.key) (values_in ws w.key)) → w.version ≡ n + 1 = elim [ true ↦ λ e h. h.0 | false ↦ λ e h. cc ] in
    split (same_bytes w.key w.key) (own w.key) h

follows : (version : ℕ) (o : Option (ℕ × ValueLocation)) → version ≡ value_number o + 1 → Follows version o
follows version None is = tt
follows version (Some v) is = is

-- the next version can be pushed
can_push : (vs : List (ℕ × ValueLocation)) (version : ℕ) → version ≡ newest_version vs + 1 → CanPush vs version
can_push vs version is = let one : 1 ≤ version = omega (arith, is) in (one, follows version (newest_of vs) is)

rest_is : (ws : List Write) (i : ℕ) (w : Write) → i < length ws → w ≡ get_or ws i w → drop i ws ≡ w ∷ drop (i + 1) ws
rest_is ws i w low is = drop-cons ws i w low ∙ ap (λ (x : Write). x ∷ drop (suc i) ws) (sym is) ∙ ap (λ (n : ℕ). w ∷ drop n ws) (sym (add-one i))

pub push_next : (vs : List (ℕ × ValueLocation)) (ws : List Write) (i : ℕ) (w : Write) → i < length ws → w ≡ get_or ws i w → AreNext (newest_version vs) (values_in (drop i ws) w.key) → CanPush vs w.version
push_next vs ws i w low is h = can_push vs w.version (next_write (newest_version vs) w (drop (i + 1) ws) (subst (λ (l : List Write). AreNext (newest_version vs) (values_in l w.key)) (rest_is ws i w low is) h))

newest_last : (o : Option (ℕ × ValueLocation)) (vs : List (ℕ × ValueLocation)) (v : ℕ × ValueLocation) → last_or o (vs ++ v ∷ []) ≡ Some v
newest_last o [] v = refl
newest_last o (w ∷ vs) v = newest_last (Some w) vs v

next_after : (vs us : List (ℕ × ValueLocation)) (p : ValueLocation) (w : Write) (ws : List Write) (q : List ℕ) → us ≡ vs ++ (if same_bytes w.key q then (w.version, p) ∷ [] else []) → AreNext (newest_version vs) (values_in (w ∷ ws) q) → AreNext (newest_version us) (values_in ws q)
unfolding values_in
next_after vs us p w ws q is h =
    let split : (b : Bool) → us ≡ vs ++ (if b then (w.version, p) ∷ [] else []) → AreNext (newest_version vs) (cond b ((w.version, w.value) ∷ values_in ws q) (values_in ws q)) → AreNext (newest_version us) (values_in ws q) = elim [
      | true ↦ λ e h. let n : newest_version us ≡ w.version = ap newest_version e ∙ ap value_number (newest_last None vs (w.version, p)) in subst (λ (k : ℕ). AreNext k (values_in ws q)) (sym n) h.1
      | false ↦ λ e h. subst (λ (l : List (ℕ × ValueLocation)). AreNext (newest_version l) (values_in ws q)) (none_more vs ∙ sym e) h
    ] in
    split (same_bytes w.key q) is h

-- after that, the other writes give the next versions
pub next_pushed : (vs us : List (ℕ × ValueLocation)) (p : ValueLocation) (ws : List Write) (i : ℕ) (w : Write) (q : List ℕ) → i < length ws → w ≡ get_or ws i w → us ≡ vs ++ (if same_bytes w.key q then (w.version, p) ∷ [] else []) → AreNext (newest_version vs) (values_in (drop i ws) q) → AreNext (newest_version us) (values_in (drop (i + 1) ws) q)
next_pushed vs us p ws i w q low is more h = next_after vs us p w (drop (i + 1) ws) q more (subst (λ (l : List Write). AreNext (newest_version vs) (values_in l q)) (rest_is ws i w low is) h)

first_of_front : (front : List Entry) (e : Entry) → 0 < length front → e ≡ get_or front 0 e → (rest : List Entry) × (front ≡ e ∷ rest)
first_of_front [] e some is = absurd (omega (arith, some))
first_of_front (d ∷ ds) e some is = (ds, ap (λ (x : Entry). x ∷ ds) (sym is))

-- the next entry gives the versions after the indexed ones
pub next_indexed : (t : Placed) (s : Suffixed) (done : ℕ) (front : List Entry) (e : Entry) → IsRising t → AreIndexed t s done → ((q : List ℕ) → AreNext (version_of (objects_of t) q) (values_after s.entries q)) → front ≡ drop (done - s.base) s.entries → 0 < length front → e ≡ get_or front 0 e
    → (q : List ℕ) → AreNext (newest_version (versions_of t q)) (values_in e.writes q)
unfolding values_after
next_indexed t s done front e rise indexed next rest some is q =
    let n : ℕ = done - s.base in
    let o : ℕ × List ℕ = object_of (objects_of t) q in
    let vs : List (ℕ × ValueLocation) = versions_of t q in
    let before : List (ℕ × List ℕ) = values_after (take n s.entries) q in
    let split = first_of_front front e some is in
    let number : newest_version vs ≡ (last_value o before).0 = newest_number s vs before (seen_indexed t s done q vs indexed refl) ∙ ap (λ (x : ℕ × List ℕ). (last_value x before).0) (object_here t q rise) in
    let left : drop n s.entries ≡ e ∷ split.0 = sym rest ∙ split.1 in
    let all : AreNext o.0 (before ++ values_after (drop n s.entries) q) = subst (λ (l : List (ℕ × List ℕ)). AreNext o.0 l) (sym (values_split n s.entries q)) (next q) in
    let rest_next : AreNext (last_value o before).0 (values_after (drop n s.entries) q) = next_back o before (values_after (drop n s.entries) q) all in
    let here : AreNext (last_value o before).0 (values_in e.writes q ++ values_after split.0 q) = subst (λ (l : List Entry). AreNext (last_value o before).0 (values_after l q)) left rest_next in
    subst (λ (k : ℕ). AreNext k (values_in e.writes q)) (sym number) (next_front (last_value o before).0 (values_in e.writes q) (values_after split.0 q) here)

begins_written : (p k : ℕ) (ws : List Write) (rest : List (ℕ × ValueLocation)) (q : List ℕ) → Begins (values_in ws q) (written_in p k ws q ++ rest)
unfolding values_in written_in
begins_written p k [] rest q = tt
begins_written p k (w ∷ ws) rest q =
    let more = begins_written p (k + 1) ws rest q in
    let split : (b : Bool) → Begins (cond b ((w.version, w.value) ∷ values_in ws q) (values_in ws q)) (cond b (version_at p k w ∷ written_in p (k + 1) ws q) (written_in p (k + 1) ws q) ++ rest) = elim [ true ↦ (refl, more) | false ↦ more ] in
    split (same_bytes w.key q)

first_is : (es : List Entry) (e : Entry) → take 1 es ≡ e ∷ [] → es ≡ e ∷ drop 1 es
first_is [] e is = cc
first_is (d ∷ ds) e is = let same : d ≡ e = cc in ap (λ (x : Entry). x ∷ ds) same

-- the later versions start with those of the first entry, if it is indexed
pub ready_indexed : (t : Placed) (s : Suffixed) (done : ℕ) (e : Entry) → AreIndexed t s done → s.base < done → take 1 s.entries ≡ e ∷ [] → (q : List ℕ) → CanApply (values_in e.writes q) (versions_of t q)
unfolding written_after
ready_indexed t s done e indexed more is q =
    let m : ℕ = done - s.base - 1 in
    let one : done - s.base ≡ suc m = omega arith in
    let rest : List (ℕ × ValueLocation) = written_after (s.base + 1) (take m (drop 1 s.entries)) q in
    let is : later_of t q ≡ written_in (s.base + 1) 0 e.writes q ++ rest = indexed.later q ∙ ap (λ (n : ℕ). written_after s.base (take n s.entries) q) one ∙ ap (λ (l : List Entry). written_after s.base (take (suc m) l) q) (first_is s.entries e is) in
    inl (subst (λ (l : List (ℕ × ValueLocation)). Begins (values_in e.writes q) l) (sym is) (begins_written (s.base + 1) 0 e.writes rest q))

values_high : (ws : List Write) (q : List ℕ) → AllByRecursion (λ (w : Write). 2 ≤ w.version) ws → AllByRecursion (λ (v : ℕ × List ℕ). 2 ≤ v.0) (values_in ws q)
unfolding values_in
values_high [] q all = tt
values_high (w ∷ ws) q all =
    let rest = values_high ws q all.1 in
    let split : (b : Bool) → AllByRecursion (λ (v : ℕ × List ℕ). 2 ≤ v.0) (cond b ((w.version, w.value) ∷ values_in ws q) (values_in ws q)) = elim [ true ↦ (all.0, rest) | false ↦ rest ] in
    split (same_bytes w.key q)

after_settled : (values : List (ℕ × List ℕ)) (vs : List (ℕ × ValueLocation)) → later_in vs ≡ [] → AllByRecursion (λ (v : ℕ × List ℕ). 2 ≤ v.0) values → AreNext (newest_version vs) values → CanApply values vs
after_settled [] vs none high next = inl tt
after_settled (v ∷ values) vs none high next =
    let is : v.0 ≡ newest_version vs + 1 = next.0 in
    let two : 2 ≤ v.0 = high.0 in
    let one : 1 ≤ newest_version vs = omega (arith, is, two) in
    inr (none, one, next)

no_more : (base n : ℕ) (es : List Entry) (q : List ℕ) → n ≡ 0 → written_after base (take n es) q ≡ []
unfolding written_after
no_more base n es q none = ap (λ (k : ℕ). written_after base (take k es) q) none

front_is : (es : List Entry) (n : ℕ) (e : Entry) → n ≡ 0 → take 1 es ≡ e ∷ [] → (0 < length (drop n es)) × (e ≡ get_or (drop n es) 0 e)
front_is es n e none is =
    let all : drop n es ≡ e ∷ drop 1 es = ap (λ (k : ℕ). drop k es) none ∙ first_is es e is in
    let long : length (drop n es) ≡ suc (length (drop 1 es)) = ap length all in
    (omega (arith, long), sym (ap (λ (l : List Entry). get_or l 0 e) all))

-- if nothing is indexed, the first entry gives the next versions of existing objects
pub ready_next : (t : Placed) (s : Suffixed) (done : ℕ) (e : Entry) → IsRising t → AreIndexed t s done → done ≤ s.base → ((q : List ℕ) → AreNext (version_of (objects_of t) q) (values_after s.entries q)) → take 1 s.entries ≡ e ∷ [] → AllByRecursion (λ (w : Write). 2 ≤ w.version) e.writes
    → (q : List ℕ) → CanApply (values_in e.writes q) (versions_of t q)
ready_next t s done e rise indexed low next is high q =
    let none : done - s.base ≡ 0 = omega arith in
    let front = front_is s.entries (done - s.base) e none is in
    after_settled (values_in e.writes q) (versions_of t q) (indexed.later q ∙ no_more s.base (done - s.base) s.entries q none) (values_high e.writes q high)
    (next_indexed t s done (drop (done - s.base) s.entries) e rise indexed next refl front.0 front.1 q)

is_next : (o : Option (ℕ × ValueLocation)) (version : ℕ) → 1 ≤ value_number o → version ≡ value_number o + 1 → IsNext version o
is_next None version some is = absurd (omega (arith, some))
is_next (Some v) version some is = is

starts_with : (w : Write) (ws : List Write) (l : List (ℕ × ValueLocation)) → Begins (values_in (w ∷ ws) w.key) l → StartsAt w.version l
unfolding values_in
starts_with w ws l h =
    let inner : (l : List (ℕ × ValueLocation)) → Begins ((w.version, w.value) ∷ values_in ws w.key) l → StartsAt w.version l = elim [ [] ↦ λ h. absurd h | v ∷ vs ↦ λ h. h.0 ] in
    let split : (b : Bool) → b ≡ true → Begins (cond b ((w.version, w.value) ∷ values_in ws w.key) (values_in ws w.key)) l → StartsAt w.version l = elim [ true ↦ λ e h. inner l h | false ↦ λ e h. cc ] in
    split (same_bytes w.key w.key) (own w.key) h

-- the version of the first write can be settled
pub settles_next : (w : Write) (ws : List Write) (vs : List (ℕ × ValueLocation)) → CanApply (values_in (w ∷ ws) w.key) vs → SettlesNext vs w.version
settles_next w ws vs (inl begins) = inl (starts_with w ws (later_in vs) begins)
settles_next w ws vs (inr after) = inr (after.0, is_next (newest_of vs) w.version after.1 (next_write (newest_version vs) w ws after.2))

begins_after : (w : Write) (ws : List Write) (l r : List (ℕ × ValueLocation)) (q : List ℕ) → r ≡ drop (if same_bytes w.key q then 1 else 0) l → Begins (values_in (w ∷ ws) q) l → Begins (values_in ws q) r
unfolding values_in
begins_after w ws l r q is h =
    let inner : (l : List (ℕ × ValueLocation)) → Begins ((w.version, w.value) ∷ values_in ws q) l → Begins (values_in ws q) (drop 1 l) = elim [ [] ↦ λ h. absurd h | v ∷ vs ↦ λ h. h.1 ] in
    let split : (b : Bool) → Begins (cond b ((w.version, w.value) ∷ values_in ws q) (values_in ws q)) l → Begins (values_in ws q) (drop (if b then 1 else 0) l) = elim [ true ↦ λ h. inner l h | false ↦ λ h. h ] in
    subst (λ (x : List (ℕ × ValueLocation)). Begins (values_in ws q) x) (sym is) (split (same_bytes w.key q) h)

settled_alone : (us rest : List (ℕ × ValueLocation)) (version : ℕ) (p : ValueLocation) (values : List (ℕ × List ℕ)) → us ≡ (version, p) ∷ rest → rest ≡ [] → 1 ≤ version → later_in us ≡ [] → AreNext version values → CanApply values us
settled_alone us rest version p values is none one later next =
    let alone : us ≡ (version, p) ∷ [] = is ∙ ap (λ (l : List (ℕ × ValueLocation)). (version, p) ∷ l) none in
    let number : version ≡ newest_version us = sym (ap newest_version alone) in
    inr (later, subst (λ (n : ℕ). 1 ≤ n) number one, subst (λ (n : ℕ). AreNext n values) number next)

-- after that, those of the other writes can be settled
pub applies_on : (w : Write) (ws : List Write) (q : List ℕ) (vs us ks : List (ℕ × ValueLocation)) (bytes : List ℕ) → us ≡ (if same_bytes w.key q then versions_settled ks w.version (Settled bytes) else vs) → later_in us ≡ drop (if same_bytes w.key q then 1 else 0) (later_in vs)
    → CanApply (values_in (w ∷ ws) q) vs → CanApply (values_in ws q) us
unfolding values_in
applies_on w ws q vs us ks bytes is later (inl begins) = inl (begins_after w ws (later_in vs) (later_in us) q later begins)
applies_on w ws q vs us ks bytes is later (inr after) =
    let split : (b : Bool) → us ≡ (if b then versions_settled ks w.version (Settled bytes) else vs) → later_in us ≡ drop (if b then 1 else 0) (later_in vs) → AreNext (newest_version vs) (cond b ((w.version, w.value) ∷ values_in ws q) (values_in ws q)) → CanApply (values_in ws q) us = elim [
      | true ↦ λ is later h.
          let empty : later_in us ≡ [] = later ∙ ap (λ (l : List (ℕ × ValueLocation)). drop 1 l) after.0 in
          let rest : versions_from ks (w.version + 1) ≡ [] = sym (ap later_in is) ∙ empty in
          let next : w.version ≡ newest_version vs + 1 = h.0 in
          let one : 1 ≤ w.version = omega (arith, next) in
          settled_alone us (versions_from ks (w.version + 1)) w.version (Settled bytes) (values_in ws q) is rest one empty h.1
      | false ↦ λ is later h. subst (λ (l : List (ℕ × ValueLocation)). CanApply (values_in ws q) l) (sym is) (inr (after.0, after.1, h))
    ] in
    split (same_bytes w.key q) is later after.2

-- the remaining entries give the next versions after the first is applied
pub next_applied : (m n : Objects) (kept more : List (ℕ × Window)) (old new : Suffixed) (e : Entry) → state_at n more ≡ after_entry (state_at m kept) e → IsFirstOf e old new → ((q : List ℕ) → AreNext (version_of m q) (values_after old.entries q)) → (q : List ℕ) → AreNext (version_of n q) (values_after new.entries q)
next_applied m n kept more old new e is first next q =
    let o : ℕ × List ℕ = object_of m q in
    let one : List (ℕ × List ℕ) = values_after (e ∷ []) q in
    let object : object_of n q ≡ last_value o one = ap (λ (s : State). object_of s.objects q) is ∙ last_of_values (state_at m kept) (e ∷ []) q in
    let parts : values_after old.entries q ≡ one ++ values_after new.entries q = ap (λ (l : List Entry). values_after l q) first.entries ∙ values-append (e ∷ []) new.entries q in
    let all : AreNext o.0 (one ++ values_after new.entries q) = subst (λ (l : List (ℕ × List ℕ)). AreNext o.0 l) parts (next q) in
    subst (λ (x : ℕ × List ℕ). AreNext x.0 (values_after new.entries q)) (sym object) (next_back o one (values_after new.entries q) all)

-- more entries are appended
pub next_appended : (s : State) (es more all : List Entry) → all ≡ es ++ more → AreNextVersions s es → AreNextVersions (after_entries s es) more → AreNextVersions s all
next_appended s es more all is first second q =
    let o : ℕ × List ℕ = object_of s.objects q in
    let after : AreNext (last_value o (values_after es q)).0 (values_after more q) = subst (λ (x : ℕ × List ℕ). AreNext x.0 (values_after more q)) (last_of_values s es q) (second q) in
    let both : AreNext o.0 (values_after es q ++ values_after more q) = next_join o (values_after es q) (values_after more q) (first q) after in
    subst (λ (l : List (ℕ × List ℕ)). AreNext o.0 l) (sym (ap (λ (l : List Entry). values_after l q) is ∙ values-append es more q)) both

-- no entries
pub next_none : (s : State) (es : List Entry) → es ≡ [] → AreNextVersions s es
unfolding values_after
next_none s es none q = subst (λ (l : List Entry). AreNext (version_of s.objects q) (values_after l q)) (sym none) tt

-- nothing is applied
pub next_of_same : (m n : Objects) (es : List Entry) → n ≡ m → ((q : List ℕ) → AreNext (version_of m q) (values_after es q)) → (q : List ℕ) → AreNext (version_of n q) (values_after es q)
next_of_same m n es same next q = subst (λ (x : Objects). AreNext (version_of x q) (values_after es q)) (sym same) (next q)

-- the entries are unchanged
pub next_same : (s : State) (es fs : List Entry) → fs ≡ es → AreNextVersions s es → AreNextVersions s fs
next_same s es fs same next q = subst (λ (l : List Entry). AreNext (version_of s.objects q) (values_after l q)) (sym same) (next q)
