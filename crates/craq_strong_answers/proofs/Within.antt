-- The newest version within a bound, and the entry that wrote a version.
use Rattle.std.proofs.Common.{◌≡◌, ◌≢◌, ⊎_elim, ℕ, zero, suc, ◌+◌, ◌<◌, ◌≤◌, ◌==◌, nat_le, Bool, true, false, ◌&&◌, ◌||◌, List, [], ◌∷◌, ◌++◌, length, take, find, Some, refl, ap, sym, ◌∙◌, arith}
use Rattle.std.specs.List.{list_any}
use Rattle.std.proofs.lemmas.Bool.{cond_both, cond-true, cond-false, eqb-true, eqb-false, leb-true, leb-false}
use Rattle.craq_names.specs.Maps.{same_bytes}
use Rattle.craq_commands.specs.declared.entry.Entry.{Entry}
use Rattle.craq_commands.specs.declared.entry.Write.{Write}
use Rattle.craq_commands.specs.Objects.{object_of, version_of}
use Rattle.craq_commands.specs.declared.state.State.{State}
use Rattle.craq_commands.specs.SingleCopy.{after_entry, after_entries}
use Rattle.craq_model.specs.Past.{values_in, values_after, newest_within}
use Rattle.craq_runs.specs.Seen.{Asked}
use Rattle.craq_runs.specs.Explain.{wrote}
use Rattle.craq_refinement.specs.Follows.{IsPlaced}
use Rattle.craq_updates.specs.ValidEntries.{AllValid}
use Rattle.craq_protocol.proofs.Prefix.{prefix_take}
use Rattle.craq_updates.proofs.Entries.{valid_closed}
use Rattle.craq_updates.proofs.Found.{IsNumbered}
use Rattle.craq_strong_answers.proofs.Versions.{Leaves, Gives, by_entry, no_older_entries, version_rises}

-- the version of an object after this number of entries
abbrev pub version_at : State → List Entry → List ℕ → ℕ → ℕ
version_at s es key count = version_of (after_entries s (take count es)).objects key

-- the newest version that is not above the bound
pub record IsWithin (s : State) (es : List Entry) (key : List ℕ) (bound : ℕ) : Type 0 where
  pub count : ℕ
  pub short : count ≤ length es
  pub is : newest_within bound (object_of s.objects key) (values_after es key) ≡ object_of (after_entries s (take count es)).objects key
  pub below : version_at s es key count ≤ bound
  pub most : (k : ℕ) → version_at s es key k ≤ bound → version_at s es key k ≤ version_at s es key count

-- one more entry in front
pushed : (s : State) (e : Entry) (es : List Entry) (key : List ℕ) (bound : ℕ) (values : List (ℕ × List ℕ)) → newest_within bound (object_of s.objects key) values ≡ newest_within bound (object_of (after_entry s e).objects key) (values_after es key)
    → version_of s.objects key ≤ version_of (after_entry s e).objects key → version_of (after_entry s e).objects key ≤ bound → values_after (e ∷ es) key ≡ values → IsWithin (after_entry s e) es key bound → IsWithin s (e ∷ es) key bound
pushed s e es key bound values same rises below split i = record {
  count = suc i.count;
  short = omega (arith, i.short);
  is = ap (newest_within bound (object_of s.objects key)) split ∙ (same ∙ i.is);
  below = i.below;
  most = λ k. by_count k;
}
  where
    by_count : (k : ℕ) → version_at s (e ∷ es) key k ≤ bound → version_at s (e ∷ es) key k ≤ version_at s (e ∷ es) key (suc i.count)
    by_count zero h = omega (arith, rises, i.most 0 below)
    by_count (suc k) h = i.most k h

rising : (asked : List Asked) (s : State) (es : List Entry) (key : List ℕ) (k : ℕ) → IsNumbered asked → AllValid asked s es → version_of s.objects key ≤ version_at s es key k
rising asked s es key k n g = version_rises s.objects (after_entries s (take k es)).objects key (no_older_entries asked s (take k es) key n (valid_closed asked s (take k es) es (prefix_take k es) g))

pub within : (asked : List Asked) (s : State) (es : List Entry) (key : List ℕ) (bound : ℕ) → IsNumbered asked → AllValid asked s es → version_of s.objects key ≤ bound → IsWithin s es key bound
unfolding newest_within values_after
within asked s [] key bound n g le = record { count = 0; short = omega arith; is = refl; below = le; most = λ k. by_count k }
  where
    by_count : (k : ℕ) → version_at s [] key k ≤ bound → version_at s [] key k ≤ version_at s [] key 0
    by_count zero h = omega arith
    by_count (suc k) h = omega arith
within asked s (e ∷ es) key bound n g le =
    let t : State = after_entry s e in
    let vs : List (ℕ × List ℕ) = values_after es key in
    ⊎_elim
    (λ (l : Leaves s.objects (object_of t.objects key) (values_in e.writes key) key).
    let same : version_of t.objects key ≡ version_of s.objects key = ap (λ (o : ℕ × List ℕ). o.0) l.same in
    pushed s e es key bound vs (ap (λ o. newest_within bound o vs) (sym l.same)) (omega (arith, same)) (omega (arith, same, le)) (ap (λ l. l ++ vs) l.none)
    (within asked t es key bound n g.1 (omega (arith, same, le))))
    (λ (o : Gives s.objects (object_of t.objects key) (values_in e.writes key) key).
    let new : ℕ × List ℕ = object_of t.objects key in
    let next : version_of t.objects key ≡ version_of s.objects key + 1 = o.next in
    let split : values_after (e ∷ es) key ≡ new ∷ vs = ap (λ l. l ++ vs) o.one in
    by_bound (nat_le new.0 bound) refl next split (λ low. within asked t es key bound n g.1 low))
    (by_entry asked s e key g.0)
  where
    by_bound : (b : Bool) → nat_le (object_of (after_entry s e).objects key).0 bound ≡ b → version_of (after_entry s e).objects key ≡ version_of s.objects key + 1
        → values_after (e ∷ es) key ≡ object_of (after_entry s e).objects key ∷ values_after es key
        → (version_of (after_entry s e).objects key ≤ bound → IsWithin (after_entry s e) es key bound) → IsWithin s (e ∷ es) key bound
    by_bound true h next split go =
        let new : ℕ × List ℕ = object_of (after_entry s e).objects key in
        let vs : List (ℕ × List ℕ) = values_after es key in
        let low : new.0 ≤ bound = leb-true new.0 bound h in
        pushed s e es key bound (new ∷ vs) (cond-true (nat_le new.0 bound) (newest_within bound new vs) (object_of s.objects key) h) (omega (arith, next)) low split (go low)
    by_bound false h next split go =
        let new : ℕ × List ℕ = object_of (after_entry s e).objects key in
        let vs : List (ℕ × List ℕ) = values_after es key in
        let high : bound < new.0 = leb-false new.0 bound h in
        record {
          count = 0;
          short = omega arith;
          is = ap (newest_within bound (object_of s.objects key)) split ∙ cond-false (nat_le new.0 bound) (newest_within bound new vs) (object_of s.objects key) h;
          below = le;
          most = λ k. by_count high k;
        }
      where
        by_count : bound < (object_of (after_entry s e).objects key).0 → (k : ℕ) → version_at s (e ∷ es) key k ≤ bound → version_at s (e ∷ es) key k ≤ version_at s (e ∷ es) key 0
        by_count high zero h = omega arith
        by_count high (suc k) h = absurd (omega (arith, high, h, rising asked (after_entry s e) es key k n g.1))

-- ---- the entry that wrote a version

any_wrote : (ws : List Write) (key : List ℕ) (version : ℕ) → list_any (λ (x : Write). same_bytes x.key key && (x.version == version)) ws ≡ list_any (λ (v : ℕ × List ℕ). v.0 == version) (values_in ws key)
unfolding values_in
any_wrote [] key version = refl
any_wrote (w ∷ ws) key version =
    let rest : List (ℕ × List ℕ) = values_in ws key in
    let any : List (ℕ × List ℕ) → Bool = list_any (λ (v : ℕ × List ℕ). v.0 == version) in
    let tail : Bool = list_any (λ (x : Write). same_bytes x.key key && (x.version == version)) ws in
    cond_both (same_bytes w.key key) ((w.version, w.value) ∷ rest) rest (λ (l : List (ℕ × List ℕ)). ((same_bytes w.key key && (w.version == version)) || tail) ≡ any l)
    (λ e. ap (λ b. (b && (w.version == version)) || tail) e ∙ ap (λ b. (w.version == version) || b) (any_wrote ws key version))
    (λ e. ap (λ b. (b && (w.version == version)) || tail) e ∙ any_wrote ws key version)

-- the first entry that wrote this version
pub record IsWritten (s : State) (k : ℕ) (es : List Entry) (key : List ℕ) (version : ℕ) : Type 0 where
  pub place : ℕ
  pub entry : Entry
  pub found : find (wrote key version) es ≡ Some entry
  pub position : entry.position ≡ k + place
  pub short : place ≤ length es
  pub is : version_at s es key place ≡ version

wrote_later : (s : State) (k : ℕ) (e : Entry) (es : List Entry) (key : List ℕ) (version : ℕ) → wrote key version e ≡ false → IsWritten (after_entry s e) (suc k) es key version → IsWritten s k (e ∷ es) key version
wrote_later s k e es key version not_here i = record {
  place = suc i.place;
  entry = i.entry;
  found = cond-false (wrote key version e) (Some e) (find (wrote key version) es) not_here ∙ i.found;
  position = omega (arith, i.position);
  short = omega (arith, i.short);
  is = i.is;
}

pub written : (asked : List Asked) (s : State) (k : ℕ) (es : List Entry) (key : List ℕ) (version : ℕ) → IsNumbered asked → AllValid asked s es → IsPlaced k es → version_of s.objects key < version
    → version ≤ version_of (after_entries s es).objects key → IsWritten s k es key version
unfolding wrote
written asked s k [] key version n g p lt le = absurd (omega (arith, lt, le))
written asked s k (e ∷ es) key version n g p lt le =
    let t : State = after_entry s e in
    let any : List (ℕ × List ℕ) → Bool = list_any (λ (v : ℕ × List ℕ). v.0 == version) in
    ⊎_elim
    (λ (l : Leaves s.objects (object_of t.objects key) (values_in e.writes key) key).
    let same : version_of t.objects key ≡ version_of s.objects key = ap (λ (o : ℕ × List ℕ). o.0) l.same in
    wrote_later s k e es key version (any_wrote e.writes key version ∙ ap any l.none) (written asked t (suc k) es key version n g.1 p.1 (omega (arith, same, lt)) le))
    (λ (o : Gives s.objects (object_of t.objects key) (values_in e.writes key) key).
    by_version (version_of t.objects key == version) refl o.next (any_wrote e.writes key version ∙ ap any o.one) (λ low. written asked t (suc k) es key version n g.1 p.1 low le))
    (by_entry asked s e key g.0)
  where
    or_false : (b : Bool) → (b || false) ≡ b
    or_false true = refl
    or_false false = refl

    by_version : (b : Bool) → (version_of (after_entry s e).objects key == version) ≡ b → version_of (after_entry s e).objects key ≡ version_of s.objects key + 1
        → wrote key version e ≡ ((version_of (after_entry s e).objects key == version) || false)
        → (version_of (after_entry s e).objects key < version → IsWritten (after_entry s e) (suc k) es key version) → IsWritten s k (e ∷ es) key version
    by_version true h next w go = record {
      place = 1;
      entry = e;
      found = cond-true (wrote key version e) (Some e) (find (wrote key version) es) (w ∙ (or_false (version_of (after_entry s e).objects key == version) ∙ h));
      position = omega (arith, p.0);
      short = omega arith;
      is = eqb-true (version_of (after_entry s e).objects key) version h;
    }
    by_version false h next w go =
        wrote_later s k e es key version (w ∙ (or_false (version_of (after_entry s e).objects key == version) ∙ h))
        (go (above (eqb-false (version_of (after_entry s e).objects key) version h) next))
      where
        above : version_of (after_entry s e).objects key ≢ version → version_of (after_entry s e).objects key ≡ version_of s.objects key + 1 → version_of (after_entry s e).objects key < version
        above ne next = omega (arith, ne, next, lt)
