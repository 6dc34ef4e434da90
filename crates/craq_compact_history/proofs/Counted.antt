-- The count of objects as entries are appended and applied, and as a state is installed.
use Rattle.std.proofs.Common.{◌≡◌, ◌≤◌, ℕ, ◌+◌, ◌-◌, ◌<◌, ◌^◌, ◌==◌, Bool, true, false, ◌&&◌, cond, T, List, [], ◌∷◌, ◌++◌, length, take, drop, min, Option, Some, None, MatchOption, unwrap_or, refl, sym, ◌∙◌, ap, subst, arith}
use Rattle.std.specs.Prelude.{is_some, ⊤, if◌then◌else◌}
use Rattle.std.specs.List.{AllByRecursion}
use Rattle.std.specs.Ordering.{eq_by_cmp}
use Rattle.std.specs.Cmp.Lexicographic.{nat_list_cmp_total}
use Rattle.std.specs.FinMap.Entries.{find, find-put, is_sorted, is_sorted-put, length-put}
use Rattle.std.proofs.lemmas.Bool.{and_parts, eqb-true}
use Rattle.std.proofs.lemmas.List.{take-append-drop}
use Rattle.craq_names.specs.Maps.{at_key, key_cmp, put_key, same_bytes}
use Rattle.craq_commands.specs.declared.entry.Entry.{Entry}
use Rattle.craq_commands.specs.declared.entry.Write.{Write}
use Rattle.craq_commands.specs.declared.state.State.{State}
use Rattle.craq_commands.specs.Objects.{Objects, object_of, set_object, version_of}
use Rattle.craq_commands.specs.SingleCopy.{after_entries, after_entry, with_writes}
use Rattle.craq_commands.proofs.Entries.{after_entries-append}
use Rattle.craq_model.specs.Deliveries.{are_applicable, is_applicable}
use Rattle.craq_model.specs.Encodable.{IsEncodableEntry}
use Rattle.craq_model.specs.Past.{values_after, values_in}
use Rattle.craq_node_invariant.specs.Sound.{IsSoundState}
use Rattle.craq_node_invariant.proofs.Maps.{found_is, put_is}
use Rattle.craq_compact_state.specs.Followed.{AreNext}
use Rattle.craq_compact_state.proofs.Applicable.{are_next}
use Rattle.craq_compact_state.proofs.Placing.{own, same_either_way}
use Rattle.craq_compact_history.specs.Counted.{AreWritten, first_writes, new_objects}

-- a count that stops at a limit and has reached its end is the whole
pub at_end : (count rest all limit : ℕ) → min (count + rest) limit ≡ min all limit → rest ≡ 0 → count ≤ limit → count ≡ min all limit
at_end count rest all limit is none low = omega (arith, is, none, low)

abbrev IsWritten : ℕ × List ℕ → Type 0
IsWritten x = 1 ≤ x.0

-- the count is that of the objects, of which each was written, and whose keys are strictly increasing
pub record Counts (count : ℕ) (objects : Objects) : Type 0 where
  pub number : count ≡ min (length objects) (2 ^ 64 - 1)
  pub written : AreWritten objects
  pub rising : T (is_sorted key_cmp objects)

-- a write of the next version makes an object if its version is 1, and else none
one_more : (o : Option (ℕ × List ℕ)) (version n : ℕ) → version ≡ (unwrap_or o (0, [])).0 + 1 → MatchOption o ⊤ IsWritten → cond (is_some o) n (n + 1) ≡ (if version == 1 then 1 else 0) + n
one_more None version n is h =
    let first : version ≡ 1 = omega (arith, is) in
    let P : ℕ → Type 0 = λ v. n + 1 ≡ (if v == 1 then 1 else 0) + n in
    subst P (sym first) (omega arith)
one_more (Some x) version n is h =
    let low : 1 ≤ x.0 = h in
    let split : (b : Bool) → (version == 1) ≡ b → n ≡ cond b 1 0 + n = elim [
      | true ↦ λ e. absurd (let same : version ≡ 1 = eqb-true version 1 e in omega (arith, is, low, same))
      | false ↦ λ e. omega arith
    ] in
    split (version == 1) refl

write_count : (m : Objects) (w : Write) → T (is_sorted key_cmp m) → AreWritten m → w.version ≡ version_of m w.key + 1 → length (set_object m w.key w.version w.value) ≡ (if w.version == 1 then 1 else 0) + length m
unfolding object_of set_object
write_count m w rise written is =
    length-put key_cmp nat_list_cmp_total w.key (w.version, w.value) m rise
    ∙ one_more (at_key m w.key) w.version (length m) is (found_is key_cmp IsWritten w.key m written)

version_set : (m : Objects) (w : Write) (q : List ℕ) → version_of (set_object m w.key w.version w.value) q ≡ cond (same_bytes w.key q) w.version (version_of m q)
unfolding object_of set_object
version_set m w q =
    let split : (b : Bool) → (unwrap_or (cond b (Some (w.version, w.value)) (find key_cmp q m)) (0, [])).0 ≡ cond b w.version (unwrap_or (find key_cmp q m) (0, [])).0 = elim [ true ↦ refl | false ↦ refl ] in
    ap (λ (o : Option (ℕ × List ℕ)). (unwrap_or o (0, [])).0) (find-put key_cmp nat_list_cmp_total q w.key (w.version, w.value) m)
    ∙ split (eq_by_cmp key_cmp q w.key)
    ∙ ap (λ b. cond b w.version (version_of m q)) (same_either_way w.key q)

-- the first write gives the next version
first_next : (n : ℕ) (w : Write) (ws : List Write) → AreNext n (values_in (w ∷ ws) w.key) → w.version ≡ n + 1
unfolding values_in
first_next n w ws h =
    let split : (b : Bool) → b ≡ true → AreNext n (cond b ((w.version, w.value) ∷ values_in ws w.key) (values_in ws w.key)) → w.version ≡ n + 1 = elim [ true ↦ λ e h. h.0 | false ↦ λ e h. cc ] in
    split (same_bytes w.key w.key) (own w.key) h

-- after it the others give the next versions
others_next : (m : Objects) (w : Write) (ws : List Write) (q : List ℕ) → AreNext (version_of m q) (values_in (w ∷ ws) q) → AreNext (version_of (set_object m w.key w.version w.value) q) (values_in ws q)
unfolding values_in
others_next m w ws q h =
    let split : (b : Bool) → AreNext (version_of m q) (cond b ((w.version, w.value) ∷ values_in ws q) (values_in ws q)) → AreNext (cond b w.version (version_of m q)) (values_in ws q) = elim [ true ↦ λ h. h.1 | false ↦ λ h. h ] in
    subst (λ (n : ℕ). AreNext n (values_in ws q)) (sym (version_set m w q)) (split (same_bytes w.key q) h)

set_rises : (m : Objects) (w : Write) → T (is_sorted key_cmp m) → T (is_sorted key_cmp (set_object m w.key w.version w.value))
unfolding set_object
set_rises m w rise = is_sorted-put key_cmp nat_list_cmp_total w.key (w.version, w.value) m rise

set_written : (m : Objects) (w : Write) → 1 ≤ w.version → AreWritten m → AreWritten (set_object m w.key w.version w.value)
unfolding set_object
set_written m w one written = put_is key_cmp IsWritten w.key (w.version, w.value) m one written

writes_count : (m : Objects) (ws : List Write) → T (is_sorted key_cmp m) → AreWritten m → AllByRecursion (λ (w : Write). 1 ≤ w.version) ws → ((q : List ℕ) → AreNext (version_of m q) (values_in ws q)) → length (with_writes m ws) ≡ first_writes ws + length m
writes_count m [] rise written versions next = omega arith
writes_count m (w ∷ ws) rise written versions next =
    let is : w.version ≡ version_of m w.key + 1 = first_next (version_of m w.key) w ws (next w.key) in
    let here : length (set_object m w.key w.version w.value) ≡ (if w.version == 1 then 1 else 0) + length m = write_count m w rise written is in
    let rest : length (with_writes (set_object m w.key w.version w.value) ws) ≡ first_writes ws + length (set_object m w.key w.version w.value) = writes_count (set_object m w.key w.version w.value) ws (set_rises m w rise) (set_written m w versions.0 written) versions.1 (λ q. others_next m w ws q (next q)) in
    omega (arith, here, rest)

writes_rise : (m : Objects) (ws : List Write) → T (is_sorted key_cmp m) → T (is_sorted key_cmp (with_writes m ws))
writes_rise m [] rise = rise
writes_rise m (w ∷ ws) rise = writes_rise (set_object m w.key w.version w.value) ws (set_rises m w rise)

writes_written : (m : Objects) (ws : List Write) → AreWritten m → AllByRecursion (λ (w : Write). 1 ≤ w.version) ws → AreWritten (with_writes m ws)
writes_written m [] written versions = written
writes_written m (w ∷ ws) written versions = writes_written (set_object m w.key w.version w.value) ws (set_written m w versions.0 written) versions.1

front_next : (n : ℕ) (xs : List (ℕ × List ℕ)) → AreNext n (xs ++ []) → AreNext n xs
front_next n [] h = tt
front_next n (x ∷ xs) h = (h.0, front_next x.0 xs h.1)

-- an applicable entry gives the next versions
entry_next : (s : State) (e : Entry) (q : List ℕ) → is_applicable s e ≡ true → IsEncodableEntry e → AreNext (version_of s.objects q) (values_in e.writes q)
unfolding values_after
entry_next s e q applicable spelled =
    let alone : are_applicable s (e ∷ []) ≡ true = ap (λ (b : Bool). b && true) applicable in
    front_next (version_of s.objects q) (values_in e.writes q) (are_next s (e ∷ []) alone (spelled, tt) q)

-- the facts about the objects that their count rests on
record AreSound (m : Objects) : Type 0 where
  written : AreWritten m
  rising : T (is_sorted key_cmp m)

entry_count : (s : State) (e : Entry) → AreSound s.objects → is_applicable s e ≡ true → IsEncodableEntry e → length (after_entry s e).objects ≡ first_writes e.writes + length s.objects
unfolding after_entry
entry_count s e sound applicable spelled = writes_count s.objects e.writes sound.rising sound.written spelled.versions (λ q. entry_next s e q applicable spelled)

entry_sound : (s : State) (e : Entry) → AreSound s.objects → IsEncodableEntry e → AreSound (after_entry s e).objects
unfolding after_entry
entry_sound s e sound spelled = record { written = writes_written s.objects e.writes sound.written spelled.versions; rising = writes_rise s.objects e.writes sound.rising }

entries_count : (s : State) (es : List Entry) → AreSound s.objects → are_applicable s es ≡ true → AllByRecursion IsEncodableEntry es → length (after_entries s es).objects ≡ new_objects es + length s.objects
entries_count s [] sound applicable spelled = omega arith
entries_count s (e ∷ es) sound applicable spelled =
    let parts = and_parts (is_applicable s e) (are_applicable (after_entry s e) es) applicable in
    let here : length (after_entry s e).objects ≡ first_writes e.writes + length s.objects = entry_count s e sound parts.0 spelled.0 in
    let rest : length (after_entries (after_entry s e) es).objects ≡ new_objects es + length (after_entry s e).objects = entries_count (after_entry s e) es (entry_sound s e sound spelled.0) parts.1 spelled.1 in
    omega (arith, here, rest)

entries_sound : (s : State) (es : List Entry) → AreSound s.objects → AllByRecursion IsEncodableEntry es → AreSound (after_entries s es).objects
entries_sound s [] sound spelled = sound
entries_sound s (e ∷ es) sound spelled = entries_sound (after_entry s e) es (entry_sound s e sound spelled.0) spelled.1

more_counted : (count made sum : ℕ) (s : State) (more : List Entry) → Counts count s.objects → are_applicable s more ≡ true → AllByRecursion IsEncodableEntry more → made ≡ min (new_objects more) (2 ^ 64 - 1) → sum ≡ min (count + made) (2 ^ 64 - 1) → Counts sum (after_entries s more).objects
more_counted count made sum s more counted applicable spelled is adds =
    let sound : AreSound s.objects = record { written = counted.written; rising = counted.rising } in
    let all : length (after_entries s more).objects ≡ new_objects more + length s.objects = entries_count s more sound applicable spelled in
    let old : count ≡ min (length s.objects) (2 ^ 64 - 1) = counted.number in
    let new = entries_sound s more sound spelled in
    record { number = omega (arith, all, old, is, adds); written = new.written; rising = new.rising }

-- entries are appended
pub appended : (count made sum : ℕ) (s t : State) (es fs more : List Entry) → Counts count (after_entries s es).objects → are_applicable (after_entries s es) more ≡ true → AllByRecursion IsEncodableEntry more
    → made ≡ min (new_objects more) (2 ^ 64 - 1) → sum ≡ min (count + made) (2 ^ 64 - 1) → t ≡ s → fs ≡ es ++ more → Counts sum (after_entries t fs).objects
appended count made sum s t es fs more counted applicable spelled is adds same all =
    let whole : after_entries t fs ≡ after_entries (after_entries s es) more = ap (λ (x : State). after_entries x fs) same ∙ ap (after_entries s) all ∙ after_entries-append s es more in
    subst (λ (x : State). Counts sum x.objects) (sym whole) (more_counted count made sum (after_entries s es) more counted applicable spelled is adds)

-- the first entries are applied to the state
pub settled : (count n : ℕ) (s t : State) (es fs : List Entry) → Counts count (after_entries s es).objects → t ≡ after_entries s (take n es) → fs ≡ drop n es → Counts count (after_entries t fs).objects
settled count n s t es fs counted front rest =
    let whole : after_entries t fs ≡ after_entries s es = ap (λ (x : State). after_entries x fs) front ∙ ap (after_entries (after_entries s (take n es))) rest ∙ sym (after_entries-append s (take n es) (drop n es)) ∙ ap (after_entries s) (take-append-drop n es) in
    subst (λ (x : State). Counts count x.objects) (sym whole) counted

-- a state is installed
pub installed : (count : ℕ) (s t : State) (es : List Entry) → IsSoundState s → count ≡ length s.objects → count < 2 ^ 64 → t ≡ s → es ≡ [] → Counts count (after_entries t es).objects
installed count s t es sound is few same none =
    let whole : after_entries t es ≡ s = ap (λ (x : State). after_entries x es) same ∙ ap (after_entries s) none in
    subst (λ (x : State). Counts count x.objects) (sym whole) (record { number = omega (arith, is, few); written = sound.versions; rising = sound.keys_rise })
