-- The values at the locations that an object's versions name.
use Rattle.std.proofs.Common.{◌≡◌, ℕ, zero, suc, ◌+◌, ◌-◌, Bool, true, false, cond, List, [], ◌∷◌, ◌++◌, take, Some, None, refl, sym, ◌∙◌, ap, subst, arith}
use Rattle.std.specs.List.{AllZip}
use Rattle.std.specs.Prelude.{slice_get}
use Rattle.craq_names.specs.Maps.{same_bytes}
use Rattle.craq_commands.specs.declared.entry.Entry.{Entry}
use Rattle.craq_commands.specs.declared.entry.Write.{Write}
use Rattle.craq_log.specs.Suffixed.{Suffixed}
use Rattle.craq_model.specs.Past.{values_in, values_after}
use Rattle.craq_compact_state.specs.declared.value_locations.ValueLocation.{ValueLocation}
use Rattle.craq_compact_state.specs.Indexed.{AreIndexed, GivesValue, IsGiven, version_at, written_in, written_after}
use Rattle.craq_compact_state.specs.Placed.{Placed, later_in, versions_of}

zip-append : (s : Suffixed) (xs ys : List (ℕ × ValueLocation)) (us vs : List (ℕ × List ℕ)) → AllZip (IsGiven s) xs us → AllZip (IsGiven s) ys vs → AllZip (IsGiven s) (xs ++ ys) (us ++ vs)
zip-append s [] ys [] vs first second = second
zip-append s [] ys (u ∷ us) vs first second = absurd first
zip-append s (x ∷ xs) ys [] vs first second = absurd first
zip-append s (x ∷ xs) ys (u ∷ us) vs first second = (first.0, zip-append s xs ys us vs first.1 second)

-- the writes of an entry from an index on
seen_in : (s : Suffixed) (k : ℕ) (e : Entry) (p i : ℕ) (ws : List Write) (key : List ℕ) → p ≡ s.base + k + 1 → slice_get s.entries k ≡ Some e → ((j : ℕ) (w : Write) → slice_get ws j ≡ Some w → slice_get e.writes (i + j) ≡ Some w)
    → AllZip (IsGiven s) (written_in p i ws key) (values_in ws key)
unfolding written_in values_in
seen_in s k e p i [] key at is within = tt
seen_in s k e p i (w ∷ ws) key at is within =
    let here : i + 0 ≡ i = omega arith in
    let gives : GivesValue s (record { position = p; index = i }) (w.version, w.value) = record {
      earlier = k;
      entry = e;
      write = w;
      position = at;
      its_entry = is;
      its_write = subst (λ (n : ℕ). slice_get e.writes n ≡ Some w) here (within 0 w refl);
      given = refl;
    } in
    let one : IsGiven s (version_at p i w) (w.version, w.value) = (refl, gives) in
    let rest = seen_in s k e p (i + 1) ws key at is (λ j x h. let there : i + suc j ≡ i + 1 + j = omega arith in subst (λ (n : ℕ). slice_get e.writes n ≡ Some x) there (within (suc j) x h)) in
    let split : (b : Bool) → AllZip (IsGiven s) (cond b (version_at p i w ∷ written_in p (i + 1) ws key) (written_in p (i + 1) ws key)) (cond b ((w.version, w.value) ∷ values_in ws key) (values_in ws key)) = elim [ true ↦ (one, rest) | false ↦ rest ] in
    split (same_bytes w.key key)

-- the entries from one on
seen_after : (s : Suffixed) (b k : ℕ) (es : List Entry) (key : List ℕ) → b ≡ s.base + k → ((j : ℕ) (e : Entry) → slice_get es j ≡ Some e → slice_get s.entries (k + j) ≡ Some e)
    → AllZip (IsGiven s) (written_after b es key) (values_after es key)
unfolding written_after values_after
seen_after s b k [] key at within = tt
seen_after s b k (e ∷ es) key at within =
    let here : k + 0 ≡ k = omega arith in
    let first : b + 1 ≡ s.base + k + 1 = omega arith in
    let then : b + 1 ≡ s.base + (k + 1) = omega arith in
    zip-append s (written_in (b + 1) 0 e.writes key) (written_after (b + 1) es key) (values_in e.writes key) (values_after es key)
    (seen_in s k e (b + 1) 0 e.writes key first (subst (λ (n : ℕ). slice_get s.entries n ≡ Some e) here (within 0 e refl)) (λ j w h. let same : j ≡ 0 + j = omega arith in subst (λ (n : ℕ). slice_get e.writes n ≡ Some w) same h))
    (seen_after s (b + 1) (k + 1) es key then (λ j x h. let there : k + suc j ≡ k + 1 + j = omega arith in subst (λ (n : ℕ). slice_get s.entries n ≡ Some x) there (within (suc j) x h)))

got_of_taken : (n : ℕ) (es : List Entry) (j : ℕ) (e : Entry) → slice_get (take n es) j ≡ Some e → slice_get es j ≡ Some e
got_of_taken zero es j e h = cc
got_of_taken (suc n) [] j e h = cc
got_of_taken (suc n) (d ∷ es) zero e h = h
got_of_taken (suc n) (d ∷ es) (suc j) e h = got_of_taken n es j e h

-- a prefix of the entries
pub seen : (s : Suffixed) (n : ℕ) (key : List ℕ) → AllZip (IsGiven s) (written_after s.base (take n s.entries) key) (values_after (take n s.entries) key)
seen s n key =
    let none : s.base ≡ s.base + 0 = omega arith in
    seen_after s s.base 0 (take n s.entries) key none (λ j e h. let same : j ≡ 0 + j = omega arith in subst (λ (m : ℕ). slice_get s.entries m ≡ Some e) same (got_of_taken n s.entries j e h))

-- an object with these versions
pub seen_indexed : (t : Placed) (s : Suffixed) (indexed : ℕ) (key : List ℕ) (vs : List (ℕ × ValueLocation)) → AreIndexed t s indexed → vs ≡ versions_of t key → AllZip (IsGiven s) (later_in vs) (values_after (take (indexed - s.base) s.entries) key)
seen_indexed t s indexed key vs are is =
    let n : ℕ = indexed - s.base in
    let same : later_in vs ≡ written_after s.base (take n s.entries) key = ap later_in is ∙ are.later key in
    subst (λ (l : List (ℕ × ValueLocation)). AllZip (IsGiven s) l (values_after (take n s.entries) key)) (sym same) (seen s n key)

none_of_none : (s : Suffixed) (vs : List (ℕ × List ℕ)) → AllZip (IsGiven s) [] vs → vs ≡ []
none_of_none s [] all = refl
none_of_none s (v ∷ vs) all = absurd all

-- an object without versions
pub none_indexed_of : (t : Placed) (s : Suffixed) (indexed : ℕ) (key : List ℕ) → AreIndexed t s indexed → [] ≡ versions_of t key → values_after (take (indexed - s.base) s.entries) key ≡ []
none_indexed_of t s indexed key are none = none_of_none s (values_after (take (indexed - s.base) s.entries) key) (seen_indexed t s indexed key [] are none)
