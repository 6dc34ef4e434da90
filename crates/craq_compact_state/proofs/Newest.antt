-- The newest version that entries give an object, found by a scan from the end.
use Rattle.std.proofs.Common.{◌≡◌, ℕ, suc, ◌+◌, ◌<◌, Bool, true, false, cond, List, [], ◌∷◌, ◌++◌, length, take, drop, get_or, drop-cons, Option, Some, None, refl, sym, ◌∙◌, ap, add-one}
use Rattle.std.proofs.lemmas.List.{append-nil, take-append-drop}
use Rattle.std.specs.List.{last_or}
use Rattle.craq_names.specs.Maps.{same_bytes}
use Rattle.craq_commands.specs.declared.entry.Entry.{Entry}
use Rattle.craq_commands.specs.declared.entry.Write.{Write}
use Rattle.craq_model.specs.Past.{values_in, values_after}
use Rattle.craq_full_history.specs.Scans.{last_value}
use Rattle.craq_full_history.proofs.Scans.{last_value-append}
use Rattle.craq_versions.specs.Versions.{newest_of}
use Rattle.craq_compact_state.proofs.Found.{found_after, values-append, values_split}

clash : {A : Type 0} (x : A) → Some x ≡ None → ⊥
clash x h = cc

none_last : {A : Type 0} (x : A) (xs : List A) → last_or (Some x) xs ≡ None → ⊥
none_last x [] h = clash x h
none_last x (y ∷ xs) h = none_last y xs h

last_append : {A : Type 0} (o : Option A) (xs ys : List A) → last_or o (xs ++ ys) ≡ last_or (last_or o xs) ys
last_append o [] ys = refl
last_append o (x ∷ xs) ys = last_append (Some x) xs ys

last_some : {A : Type 0} (o : Option A) (ys : List A) (v : A) → last_or None ys ≡ Some v → last_or o ys ≡ Some v
last_some o [] v h = absurd (clash v (sym h))
last_some o (y ∷ ys) v h = h

last_none : {A : Type 0} (ys : List A) → last_or None ys ≡ None → ys ≡ []
last_none [] h = refl
last_none (y ∷ ys) h = absurd (none_last y ys h)

written-append : (ws us : List Write) (key : List ℕ) → values_in (ws ++ us) key ≡ values_in ws key ++ values_in us key
unfolding values_in
written-append [] us key = refl
written-append (w ∷ ws) us key =
    let split : (b : Bool) → cond b ((w.version, w.value) ∷ values_in (ws ++ us) key) (values_in (ws ++ us) key) ≡ cond b ((w.version, w.value) ∷ values_in ws key) (values_in ws key) ++ values_in us key = elim [
      | true ↦ ap (λ (l : List (ℕ × List ℕ)). (w.version, w.value) ∷ l) (written-append ws us key)
      | false ↦ written-append ws us key
    ] in
    split (same_bytes w.key key)

-- no writes, or no entries, remain
pub no_writes : (ws : List Write) (key : List ℕ) → values_in (drop (length ws) ws) key ≡ []
unfolding values_in
no_writes [] key = refl
no_writes (w ∷ ws) key = no_writes ws key

pub no_entries : (es : List Entry) (key : List ℕ) → values_after (drop (length es) es) key ≡ []
unfolding values_after
no_entries [] key = refl
no_entries (e ∷ es) key = no_entries es key

-- the versions of writes from an index on, when those after it give the object none
written_from : (ws : List Write) (i k : ℕ) (w : Write) (key : List ℕ) (b : Bool) → k ≡ suc i → i < length ws → w ≡ get_or ws i w → values_in (drop k ws) key ≡ [] → same_bytes w.key key ≡ b → values_in (drop i ws) key ≡ cond b ((w.version, w.value) ∷ []) []
unfolding values_in
written_from ws i k w key b next below is none same =
    let rest : values_in (drop (suc i) ws) key ≡ [] = ap (λ (n : ℕ). values_in (drop n ws) key) (sym next) ∙ none in
    ap (λ (l : List Write). values_in l key) (drop-cons ws i w below ∙ ap (λ (x : Write). x ∷ drop (suc i) ws) (sym is))
    ∙ ap (λ (l : List (ℕ × List ℕ)). cond (same_bytes w.key key) ((w.version, w.value) ∷ l) l) rest
    ∙ ap (λ (c : Bool). cond c ((w.version, w.value) ∷ []) []) same

-- the write does not write the object
pub write_passed : (ws : List Write) (i k : ℕ) (w : Write) (key : List ℕ) → k ≡ suc i → i < length ws → w ≡ get_or ws i w → values_in (drop k ws) key ≡ [] → same_bytes w.key key ≡ false → values_in (drop i ws) key ≡ []
write_passed ws i k w key next below is none same = written_from ws i k w key false next below is none same

-- the write is the last that writes the object
pub write_found : (ws : List Write) (i k : ℕ) (w : Write) (key : List ℕ) → k ≡ suc i → i < length ws → w ≡ get_or ws i w → values_in (drop k ws) key ≡ [] → same_bytes w.key key ≡ true → Some (w.version, w.value) ≡ newest_of (values_in ws key)
write_found ws i k w key next below is none same =
    let first : List (ℕ × List ℕ) = values_in (take i ws) key in
    sym (ap (λ (l : List Write). newest_of (values_in l key)) (sym (take-append-drop i ws))
    ∙ ap newest_of (written-append (take i ws) (drop i ws) key)
    ∙ ap (λ (l : List (ℕ × List ℕ)). newest_of (first ++ l)) (written_from ws i k w key true next below is none same)
    ∙ last_append None first ((w.version, w.value) ∷ []))

-- the versions of entries from an index on, when those after it give the object none
entries_from : (es : List Entry) (i k : ℕ) (e : Entry) (key : List ℕ) → k ≡ suc i → i < length es → e ≡ get_or es i e → values_after (drop k es) key ≡ [] → values_after (drop i es) key ≡ values_in e.writes key
unfolding values_after
entries_from es i k e key next below is none =
    let rest : values_after (drop (suc i) es) key ≡ [] = ap (λ (n : ℕ). values_after (drop n es) key) (sym next) ∙ none in
    ap (λ (l : List Entry). values_after l key) (drop-cons es i e below ∙ ap (λ (x : Entry). x ∷ drop (suc i) es) (sym is))
    ∙ ap (λ (l : List (ℕ × List ℕ)). values_in e.writes key ++ l) rest ∙ append-nil (values_in e.writes key)

-- the entry does not write the object
pub entry_passed : (es : List Entry) (i k : ℕ) (e : Entry) (key : List ℕ) → k ≡ suc i → i < length es → e ≡ get_or es i e → values_after (drop k es) key ≡ [] → newest_of (values_in e.writes key) ≡ None → values_after (drop i es) key ≡ []
entry_passed es i k e key next below is none absent = entries_from es i k e key next below is none ∙ last_none (values_in e.writes key) absent

-- the entry is the last that writes the object
pub entry_found : (es : List Entry) (i k : ℕ) (e : Entry) (key : List ℕ) (found : ℕ × List ℕ) → k ≡ suc i → i < length es → e ≡ get_or es i e → values_after (drop k es) key ≡ [] → newest_of (values_in e.writes key) ≡ Some found → Some found ≡ newest_of (values_after es key)
entry_found es i k e key found next below is none some =
    let first : List (ℕ × List ℕ) = values_after (take i es) key in
    sym (ap newest_of (sym (values_split i es key))
    ∙ ap (λ (l : List (ℕ × List ℕ)). newest_of (first ++ l)) (entries_from es i k e key next below is none)
    ∙ last_append None first (values_in e.writes key) ∙ last_some (last_or None first) (values_in e.writes key) found some)

last_found : (o found : ℕ × List ℕ) (vs : List (ℕ × List ℕ)) → newest_of vs ≡ Some found → last_value o vs ≡ found
unfolding last_value
last_found o found [] h = absurd (clash found (sym h))
last_found o found (v ∷ vs) h = last_from v found vs h
  where
    same : (v found : ℕ × List ℕ) → Some v ≡ Some found → v ≡ found
    same v found h = cc

    last_from : (v found : ℕ × List ℕ) (vs : List (ℕ × List ℕ)) → last_or (Some v) vs ≡ Some found → last_value v vs ≡ found
    last_from v found [] h = same v found h
    last_from v found (w ∷ vs) h = last_from w found vs h

-- the last value of the later entries is the last value of all
pub late_is_newest : (n : ℕ) (es : List Entry) (key : List ℕ) (o found : ℕ × List ℕ) → Some found ≡ newest_of (values_after (drop n es) key) → found ≡ last_value o (values_after es key)
late_is_newest n es key o found some =
    let first : ℕ × List ℕ = last_value o (values_after (take n es) key) in
    sym (last_found first found (values_after (drop n es) key) (sym some)) ∙ found_after n es key o first refl

-- if the later entries give none, the first entries decide
pub none_late : (n : ℕ) (es : List Entry) (key : List ℕ) (o found : ℕ × List ℕ) → None ≡ newest_of (values_after (drop n es) key) → found ≡ last_value o (values_after (take n es) key) → found ≡ last_value o (values_after es key)
unfolding last_value
none_late n es key o found none is =
    ap (λ (vs : List (ℕ × List ℕ)). last_value found vs) (sym (last_none (values_after (drop n es) key) (sym none))) ∙ found_after n es key o found is
