-- The newest written version, and the newest within a bound.
use Rattle.std.proofs.Common.{◌≡◌, ℕ, zero, suc, length, slice_index_or, ◌+◌, ◌-◌, ◌<◌, ◌≤◌, Bool, true, false, cond, List, [], ◌∷◌, ◌++◌, map, take, drop, Option, Some, None, unwrap_or, refl, sym, ◌∙◌, ap, subst, append_assoc, add-one, arith}
use Rattle.std.proofs.lemmas.List.{take-append-drop}
use Rattle.std.specs.List.{AllZip, last_or}
use Rattle.std.specs.Prelude.{nat_le}
use Rattle.craq_commands.specs.declared.entry.Entry.{Entry}
use Rattle.craq_log.specs.Suffixed.{Suffixed}
use Rattle.craq_model.specs.Past.{newest_within, values_in, values_after}
use Rattle.craq_full_history.specs.Scans.{last_value}
use Rattle.craq_full_history.proofs.Scans.{last_value-append}
use Rattle.craq_versions.specs.Versions.{newest_of}
use Rattle.craq_compact_state.specs.declared.value_locations.ValueLocation.{ValueLocation}
use Rattle.craq_compact_state.specs.declared.value_locations.ValueLocation.TheVariants.{Settled, Written}
use Rattle.craq_compact_state.specs.declared.value_locations.WriteRef.{WriteRef}
use Rattle.craq_compact_state.specs.Indexed.{GivesValue, GivenThere, IsGiven, Stands, StandsThere}
use Rattle.craq_compact_state.specs.Placed.{later_from, later_in, newest_version, value_number, settled_in, settled_there}

clash : {A : Type 0} (x : A) → Some x ≡ None → ⊥
clash x h = cc

none_last : (x : ℕ × ValueLocation) (xs : List (ℕ × ValueLocation)) → last_or (Some x) xs ≡ None → ⊥
none_last x [] h = clash x h
none_last x (y ∷ xs) h = none_last y xs h

-- a given value stands at its location
stands : (s : Suffixed) (v : ℕ × ValueLocation) (value : ℕ × List ℕ) → IsGiven s v value → Stands s v value
stands s v value h =
    let split : (p : ValueLocation) → GivenThere s v.0 p value → StandsThere s v.0 p value = elim [ Settled bytes ↦ λ h. absurd h | Written at ↦ λ h. h ] in
    split v.1 h

last_from : (s : Suffixed) (x r : ℕ × ValueLocation) (v : ℕ × List ℕ) (xs : List (ℕ × ValueLocation)) (vs : List (ℕ × List ℕ)) → Some r ≡ last_or (Some x) xs → Stands s x v → AllZip (IsGiven s) xs vs → Stands s r (last_value v vs)
unfolding last_value
last_from s x r v [] [] h one all = let same : x ≡ r = ap (λ (o : Option (ℕ × ValueLocation)). unwrap_or o x) (sym h) in subst (λ (y : ℕ × ValueLocation). Stands s y v) same one
last_from s x r v [] (u ∷ vs) h one all = absurd all
last_from s x r v (y ∷ xs) [] h one all = absurd all
last_from s x r v (y ∷ xs) (u ∷ vs) h one all = last_from s y r u xs vs h (stands s y u all.0) all.1

-- the newest version has the last value
pub newest_stands : (s : Suffixed) (vs : List (ℕ × ValueLocation)) (r : ℕ × ValueLocation) (values : List (ℕ × List ℕ)) → Some r ≡ newest_of vs → AllZip (IsGiven s) (later_in vs) values → Stands s r (last_value (unwrap_or (settled_in vs) (0, [])) values)
unfolding last_value
newest_stands s [] r values h all = absurd (clash r h)
newest_stands s (v ∷ vs) r values h all = split v.0 v.1 vs values h all
  where
    split : (n : ℕ) (p : ValueLocation) (vs : List (ℕ × ValueLocation)) (values : List (ℕ × List ℕ)) → Some r ≡ last_or (Some (n, p)) vs → AllZip (IsGiven s) (later_from p ((n, p) ∷ vs) vs) values → Stands s r (last_value (unwrap_or (settled_there n p) (0, [])) values)
    split n (Settled bytes) vs values h all = last_from s (n, Settled bytes) r (n, bytes) vs values h refl all
    split n (Written at) vs [] h all = absurd all
    split n (Written at) vs (u ∷ us) h all = last_from s (n, Written at) r u vs us h (stands s (n, Written at) u all.0) all.1

-- without versions no value is given
pub newest_none : (s : Suffixed) (vs : List (ℕ × ValueLocation)) (values : List (ℕ × List ℕ)) → None ≡ newest_of vs → AllZip (IsGiven s) (later_in vs) values → (0, []) ≡ last_value (unwrap_or (settled_in vs) (0, [])) values
unfolding last_value
newest_none s [] [] h all = refl
newest_none s [] (u ∷ us) h all = absurd all
newest_none s (v ∷ vs) values h all = absurd (none_last v vs (sym h))

number_stands : (s : Suffixed) (v : ℕ × ValueLocation) (value : ℕ × List ℕ) → Stands s v value → v.0 ≡ value.0
number_stands s v value h =
    let split : (p : ValueLocation) → StandsThere s v.0 p value → v.0 ≡ value.0 = elim [ Settled bytes ↦ λ h. ap (λ (x : ℕ × List ℕ). x.0) h | Written at ↦ λ h. h.0 ] in
    split v.1 h

-- the newest version is that of the last value
pub newest_number : (s : Suffixed) (vs : List (ℕ × ValueLocation)) (values : List (ℕ × List ℕ)) → AllZip (IsGiven s) (later_in vs) values → newest_version vs ≡ (last_value (unwrap_or (settled_in vs) (0, [])) values).0
newest_number s vs values all =
    let found : ℕ × List ℕ = last_value (unwrap_or (settled_in vs) (0, [])) values in
    let split : (o : Option (ℕ × ValueLocation)) → o ≡ newest_of vs → value_number o ≡ found.0 = elim [
      | None ↦ λ e. ap (λ (x : ℕ × List ℕ). x.0) (newest_none s vs values e all)
      | Some r ↦ λ e. number_stands s r found (newest_stands s vs r values e all)
    ] in
    split (newest_of vs) refl

-- the references to the entries that write these versions
abbrev pub ref_before : ValueLocation → List WriteRef → List WriteRef
ref_before (Settled bytes) rs = rs
ref_before (Written at) rs = at ∷ rs

abbrev pub refs_in : List ValueLocation → List WriteRef
refs_in [] = []
refs_in (p ∷ ps) = ref_before p (refs_in ps)

abbrev pub places_in : List (ℕ × ValueLocation) → List ValueLocation
places_in vs = map (λ (v : ℕ × ValueLocation). v.1) vs

drop_next : (ps : List ValueLocation) (i : ℕ) (p : ValueLocation) → i < length ps → p ≡ slice_index_or ps i p → drop i ps ≡ p ∷ drop (suc i) ps
drop_next [] i p within is = absurd (omega (arith, within))
drop_next (q ∷ ps) zero p within is = ap (λ x. x ∷ ps) (sym is)
drop_next (q ∷ ps) (suc i) p within is = drop_next ps i p (omega (arith, within)) is

length_places : (vs : List (ℕ × ValueLocation)) → length (places_in vs) ≡ length vs
length_places [] = refl
length_places (v ∷ vs) = ap suc (length_places vs)

-- the place at an index, and those after it
pub place_next : (vs : List (ℕ × ValueLocation)) (i : ℕ) (p : ValueLocation) → i < length vs → p ≡ slice_index_or (places_in vs) i p → drop i (places_in vs) ≡ p ∷ drop (i + 1) (places_in vs)
place_next vs i p within is = rw add-one (drop_next (places_in vs) i p (omega (arith, within, length_places vs)) is)

refs_of_later : (s : Suffixed) (vs : List (ℕ × ValueLocation)) (values : List (ℕ × List ℕ)) → AllZip (IsGiven s) vs values → AllZip (GivesValue s) (refs_in (places_in vs)) values
refs_of_later s [] [] all = tt
refs_of_later s [] (u ∷ us) all = absurd all
refs_of_later s (v ∷ vs) [] all = absurd all
refs_of_later s (v ∷ vs) (u ∷ us) all =
    let rest = refs_of_later s vs us all.1 in
    let split : (p : ValueLocation) → GivenThere s v.0 p u → AllZip (GivesValue s) (ref_before p (refs_in (places_in vs))) (u ∷ us) = elim [ Settled bytes ↦ λ h. absurd h | Written at ↦ λ h. (h.1, rest) ] in
    split v.1 all.0

-- the references give the values of the later versions
pub refs_given : (s : Suffixed) (vs : List (ℕ × ValueLocation)) (values : List (ℕ × List ℕ)) → AllZip (IsGiven s) (later_in vs) values → AllZip (GivesValue s) (refs_in (places_in vs)) values
refs_given s [] values all = refs_of_later s [] values all
refs_given s (v ∷ vs) values all = split v.0 v.1 vs all
  where
    split : (n : ℕ) (p : ValueLocation) (vs : List (ℕ × ValueLocation)) → AllZip (IsGiven s) (later_from p ((n, p) ∷ vs) vs) values → AllZip (GivesValue s) (refs_in (places_in ((n, p) ∷ vs))) values
    split n (Settled bytes) vs all = refs_of_later s vs values all
    split n (Written at) vs all = refs_of_later s ((n, Written at) ∷ vs) values all

-- the values of concatenated entries
pub values-append : (es fs : List Entry) (key : List ℕ) → values_after (es ++ fs) key ≡ values_after es key ++ values_after fs key
unfolding values_after
values-append [] fs key = refl
values-append (e ∷ es) fs key = ap (λ (l : List (ℕ × List ℕ)). values_in e.writes key ++ l) (values-append es fs key) ∙ sym (append_assoc (values_in e.writes key) (values_after es key) (values_after fs key))

pub values_split : (n : ℕ) (es : List Entry) (key : List ℕ) → values_after (take n es) key ++ values_after (drop n es) key ≡ values_after es key
values_split n es key = sym (values-append (take n es) (drop n es) key) ∙ ap (λ (l : List Entry). values_after l key) (take-append-drop n es)

-- a search among the first entries, and then among the others
pub found_after : (n : ℕ) (es : List Entry) (key : List ℕ) (o found : ℕ × List ℕ) → found ≡ last_value o (values_after (take n es) key) → last_value found (values_after (drop n es) key) ≡ last_value o (values_after es key)
found_after n es key o found is =
    ap (λ (x : ℕ × List ℕ). last_value x (values_after (drop n es) key)) is
    ∙ sym (last_value-append o (values_after (take n es) key) (values_after (drop n es) key))
    ∙ ap (λ (vs : List (ℕ × List ℕ)). last_value o vs) (values_split n es key)

-- the first entries give the object no value
pub none_before : (n : ℕ) (es : List Entry) (key : List ℕ) → values_after (take n es) key ≡ [] → values_after (drop n es) key ≡ values_after es key
none_before n es key none = ap (λ (vs : List (ℕ × List ℕ)). vs ++ values_after (drop n es) key) (sym none) ∙ values_split n es key

-- the next version is above the bound: the search ends
pub within_ends : (bound : ℕ) (found v t : ℕ × List ℕ) (vs rest more : List (ℕ × List ℕ)) → vs ≡ v ∷ rest → nat_le v.0 bound ≡ false → newest_within bound found (vs ++ more) ≡ t → found ≡ t
unfolding newest_within
within_ends bound found v t vs rest more is above goes =
    sym (ap (λ (b : Bool). cond b (newest_within bound v (rest ++ more)) found) above) ∙ sym (ap (λ (l : List (ℕ × List ℕ)). newest_within bound found (l ++ more)) is) ∙ goes

-- the next version is within the bound: the search goes on
pub within_next : (bound : ℕ) (found v w t : ℕ × List ℕ) (vs rest more : List (ℕ × List ℕ)) → vs ≡ v ∷ rest → nat_le v.0 bound ≡ true → w ≡ v → newest_within bound found (vs ++ more) ≡ t → newest_within bound w (rest ++ more) ≡ t
unfolding newest_within
within_next bound found v w t vs rest more is below same goes =
    ap (λ (x : ℕ × List ℕ). newest_within bound x (rest ++ more)) same
    ∙ sym (ap (λ (b : Bool). cond b (newest_within bound v (rest ++ more)) found) below) ∙ sym (ap (λ (l : List (ℕ × List ℕ)). newest_within bound found (l ++ more)) is) ∙ goes

-- the first reference gives the first value
pub first_given : (s : Suffixed) (x : WriteRef) (all xs : List WriteRef) (vs : List (ℕ × List ℕ)) → all ≡ x ∷ xs → AllZip (GivesValue s) all vs → (v : ℕ × List ℕ) × (rest : List (ℕ × List ℕ)) × (vs ≡ v ∷ rest) × GivesValue s x v × AllZip (GivesValue s) xs rest
first_given s x all xs vs is every =
    let split : (us : List (ℕ × List ℕ)) → AllZip (GivesValue s) (x ∷ xs) us → (v : ℕ × List ℕ) × (rest : List (ℕ × List ℕ)) × (us ≡ v ∷ rest) × GivesValue s x v × AllZip (GivesValue s) xs rest = elim [
      | [] ↦ λ h. absurd h
      | v ∷ rest ↦ λ h. (v, rest, refl, h.0, h.1)
    ] in
    split vs (subst (λ (l : List WriteRef). AllZip (GivesValue s) l vs) is every)

pub above_bound : (v version above : ℕ) → above < v - version → nat_le v (version + above) ≡ false
above_bound v version above h = grind (arith, h)

pub within_bound : (v version above : ℕ) → v - version ≤ above → nat_le v (version + above) ≡ true
within_bound v version above h = grind (arith, h)

-- a settled location gives no later value
pub settled_given : (s : Suffixed) (p : ValueLocation) (bytes : List ℕ) (all rest : List ValueLocation) (vs : List (ℕ × List ℕ)) → p ≡ Settled bytes → all ≡ p ∷ rest → AllZip (GivesValue s) (refs_in all) vs → AllZip (GivesValue s) (refs_in rest) vs
settled_given s p bytes all rest vs is step every = subst (λ (l : List WriteRef). AllZip (GivesValue s) l vs) (ap refs_in step ∙ ap (λ (x : ValueLocation). ref_before x (refs_in rest)) is) every

-- a written location gives the first value
pub written_given : (s : Suffixed) (p : ValueLocation) (at : WriteRef) (all rest : List ValueLocation) (vs : List (ℕ × List ℕ)) → p ≡ Written at → all ≡ p ∷ rest → AllZip (GivesValue s) (refs_in all) vs
    → (v : ℕ × List ℕ) × (more : List (ℕ × List ℕ)) × (vs ≡ v ∷ more) × GivesValue s at v × AllZip (GivesValue s) (refs_in rest) more
written_given s p at all rest vs is step every = first_given s at (refs_in all) (refs_in rest) vs (ap refs_in step ∙ ap (λ (x : ValueLocation). ref_before x (refs_in rest)) is) every
