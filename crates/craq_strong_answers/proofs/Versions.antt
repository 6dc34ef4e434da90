-- Versions along valid entries.
use Rattle.std.proofs.Common.{◌≡◌, ◌⊎◌, inl, inr, ℕ, ◌+◌, ◌≤◌, Bool, true, false, List, [], ◌∷◌, ◌++◌, map, Option, unwrap_or, refl, ap, sym, subst, ◌∙◌, arith}
use Rattle.std.specs.List.{AllByRecursion, IsDistinct}
use Rattle.std.proofs.lemmas.Bool.{cond_both, cond-false, both_ways}
use Rattle.std.specs.Cmp.Lexicographic.{bytes_decides}
use Rattle.craq_names.specs.Maps.{same_bytes}
use Rattle.craq_commands.specs.declared.entry.Entry.{Entry}
use Rattle.craq_commands.specs.declared.entry.Write.{Write}
use Rattle.craq_commands.specs.Objects.{Objects, object_of, version_of, set_object}
use Rattle.craq_commands.specs.Evaluation.{eval}
use Rattle.craq_commands.specs.declared.state.State.{State}
use Rattle.craq_commands.specs.SingleCopy.{opening_state, with_writes, after_entry, after_entries}
use Rattle.craq_commands.proofs.Entries.{after_entries-append}
use Rattle.craq_model.specs.Asks.{versioned_write}
use Rattle.craq_model.specs.Past.{values_in}
use Rattle.craq_protocol.specs.Promises.{IsPrefix}
use Rattle.craq_runs.specs.Seen.{Asked}
use Rattle.craq_laws.proofs.Histories.{IsNoOlder, more_updates}
use Rattle.craq_laws.proofs.Writes.{found_here, found_elsewhere}
use Rattle.craq_updates.specs.ValidEntries.{IsValidEntry, AllValid}
use Rattle.craq_updates.proofs.Found.{IsNumbered}
use Rattle.craq_updates.proofs.Updates.{updates_of, after_updates}

-- ---- along a list

pub valid_rest : (asked : List Asked) (s : State) (xs ys : List Entry) → AllValid asked s (xs ++ ys) → AllValid asked (after_entries s xs) ys
valid_rest asked s [] ys g = g
valid_rest asked s (x ∷ xs) ys g = valid_rest asked (after_entry s x) xs ys g.1

pub no_older_entries : (asked : List Asked) (s : State) (es : List Entry) (key : List ℕ) → IsNumbered asked → AllValid asked s es → IsNoOlder s.objects (after_entries s es).objects key
no_older_entries asked s es key n g =
    let P : State → Type 0 = λ t. IsNoOlder s.objects t.objects key in
    subst P (after_updates asked s es n g) (more_updates s (updates_of asked es) key)

-- the longer of two prefixes has no older versions
pub no_older_prefix : (asked : List Asked) (xs ys : List Entry) (key : List ℕ) → IsNumbered asked → AllValid asked opening_state ys → IsPrefix xs ys
    → IsNoOlder (after_entries opening_state xs).objects (after_entries opening_state ys).objects key
no_older_prefix asked xs ys key n g p =
    let P : List Entry → Type 0 = λ l. AllValid asked opening_state l in
    let S : State → Type 0 = λ t. IsNoOlder (after_entries opening_state xs).objects t.objects key in
    let same : after_entries opening_state ys ≡ after_entries (after_entries opening_state xs) p.rest = ap (after_entries opening_state) (sym p.is) ∙ after_entries-append opening_state xs p.rest in
    subst S (sym same) (no_older_entries asked (after_entries opening_state xs) p.rest key n (valid_rest asked opening_state xs p.rest (subst P (sym p.is) g)))

pub version_rises : (m n : Objects) (key : List ℕ) → IsNoOlder m n key → version_of m key ≤ version_of n key
version_rises m n key (inl lt) = omega (arith, lt)
version_rises m n key (inr e) = let v : version_of n key ≡ version_of m key = ap (λ (o : ℕ × List ℕ). o.0) e in omega (arith, v)

pub version_tells : (m n : Objects) (key : List ℕ) → IsNoOlder m n key → version_of n key ≤ version_of m key → object_of n key ≡ object_of m key
version_tells m n key (inl lt) le = absurd (omega (arith, lt, le))
version_tells m n key (inr e) le = e

-- ---- one entry

-- the entry keeps the object, or gives it exactly the next version
pub record Leaves (m : Objects) (o : ℕ × List ℕ) (values : List (ℕ × List ℕ)) (key : List ℕ) : Type 0 where
  pub none : values ≡ []
  pub same : o ≡ object_of m key

pub record Gives (m : Objects) (o : ℕ × List ℕ) (values : List (ℕ × List ℕ)) (key : List ℕ) : Type 0 where
  pub one : values ≡ o ∷ []
  pub next : o.0 ≡ version_of m key + 1

set_here : (m : Objects) (key : List ℕ) (version : ℕ) (value : List ℕ) → object_of (set_object m key version value) key ≡ (version, value)
unfolding object_of set_object
set_here m key version value = ap (λ (o : Option (ℕ × List ℕ)). unwrap_or o (0, [])) (found_here m key (version, value))

set_elsewhere : (m : Objects) (key other : List ℕ) (version : ℕ) (value : List ℕ) → same_bytes key other ≡ false → object_of (set_object m key version value) other ≡ object_of m other
unfolding object_of set_object
set_elsewhere m key other version value ne = ap (λ (o : Option (ℕ × List ℕ)). unwrap_or o (0, [])) (found_elsewhere m key other (version, value) ne)

-- no write of the key
untouched : (m now : Objects) (ws : List (List ℕ × List ℕ)) (key : List ℕ) → AllByRecursion (λ other. same_bytes key other ≡ false) (map (λ (w : List ℕ × List ℕ). w.0) ws) → (k : List ℕ) → k ≡ key
    → (values_in (map (versioned_write m) ws) k ≡ []) × (object_of (with_writes now (map (versioned_write m) ws)) k ≡ object_of now k)
unfolding values_in
untouched m now [] key a k e = (refl, refl)
untouched m now (w ∷ ws) key a k e =
    let ne : same_bytes key w.0 ≡ false = a.0 in
    let P : List ℕ → Type 0 = λ k. same_bytes k w.0 ≡ false in
    let ne' : same_bytes w.0 k ≡ false = swapped k w.0 (subst P (sym e) ne) in
    let next : Objects = set_object now w.0 (version_of m w.0 + 1) w.1 in
    let r : _ = untouched m next ws key a.1 k e in
    let rest : List (ℕ × List ℕ) = values_in (map (versioned_write m) ws) k in
    (cond-false (same_bytes w.0 k) ((version_of m w.0 + 1, w.1) ∷ rest) rest ne' ∙ r.0, r.1 ∙ set_elsewhere now w.0 k (version_of m w.0 + 1) w.1 ne')
  where
    swapped : (j k : List ℕ) → same_bytes j k ≡ false → same_bytes k j ≡ false
    swapped j k h =
        cases (same_bytes k j) refl
      where
        cases : (b : Bool) → same_bytes k j ≡ b → same_bytes k j ≡ false
        cases true e = let same : k ≡ j = (bytes_decides k j).0 e in absurd (both_ways (same_bytes j k) h ((bytes_decides j k).1 (sym same)))
        cases false e = e

by_writes : (m now : Objects) (ws : List (List ℕ × List ℕ)) (key : List ℕ) → IsDistinct same_bytes (map (λ (w : List ℕ × List ℕ). w.0) ws) → object_of now key ≡ object_of m key
    → Leaves m (object_of (with_writes now (map (versioned_write m) ws)) key) (values_in (map (versioned_write m) ws) key) key
    ⊎ Gives m (object_of (with_writes now (map (versioned_write m) ws)) key) (values_in (map (versioned_write m) ws) key) key
unfolding values_in IsDistinct
by_writes m now [] key d h = inl (record { none = refl; same = h })
by_writes m now (w ∷ ws) key d h =
    let next : Objects = set_object now w.0 (version_of m w.0 + 1) w.1 in
    let rest : List (ℕ × List ℕ) = values_in (map (versioned_write m) ws) key in
    let last : ℕ × List ℕ = object_of (with_writes next (map (versioned_write m) ws)) key in
    cond_both (same_bytes w.0 key) ((version_of m w.0 + 1, w.1) ∷ rest) rest (λ (l : List (ℕ × List ℕ)). Leaves m last l key ⊎ Gives m last l key)
    (λ e.
    let same : w.0 ≡ key = (bytes_decides w.0 key).0 e in
    let u : _ = untouched m next ws w.0 d.0 key (sym same) in
    let here : object_of next key ≡ (version_of m w.0 + 1, w.1) = let P : List ℕ → Type 0 = λ k. object_of next k ≡ (version_of m w.0 + 1, w.1) in subst P same (set_here now w.0 (version_of m w.0 + 1) w.1) in
    let is : last ≡ (version_of m w.0 + 1, w.1) = u.1 ∙ here in
    inr (record {
      one = ap (λ l. (version_of m w.0 + 1, w.1) ∷ l) u.0 ∙ ap (λ (o : ℕ × List ℕ). o ∷ []) (sym is);
      next = ap (λ (o : ℕ × List ℕ). o.0) is ∙ ap (λ k. version_of m k + 1) same;
    }))
    (λ e. by_writes m next ws key d.1 (set_elsewhere now w.0 key (version_of m w.0 + 1) w.1 e ∙ h))

pub by_entry : (asked : List Asked) (s : State) (e : Entry) (key : List ℕ) → IsValidEntry asked s e
    → Leaves s.objects (object_of (after_entry s e).objects key) (values_in e.writes key) key ⊎ Gives s.objects (object_of (after_entry s e).objects key) (values_in e.writes key) key
unfolding after_entry
by_entry asked s e key g =
    let P : List Write → Type 0 = λ l. Leaves s.objects (object_of (with_writes s.objects l) key) (values_in l key) key ⊎ Gives s.objects (object_of (with_writes s.objects l) key) (values_in l key) key in
    subst P (sym g.writes) (by_writes s.objects s.objects (eval s.objects g.update.command).0 key g.once refl)
