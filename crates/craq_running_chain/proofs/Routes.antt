-- The routing entries of a chain one after another: one that is searched for, all nodes, and each changed in its place.
use Rattle.std.proofs.Common.{add-zero, ◌≡◌, ◌<◌, ◌≤◌, ◌+◌, ◌-◌, ◌∙◌, ℕ, Bool, true, false, cond, List, [], ◌∷◌, ◌++◌, map, take, drop, set, length, get_or, Option, Some, None, sym, ap, refl, arith, append_assoc}
use Rattle.std.specs.List.{AllByRecursion, cons_option, filter_map, find}
use Rattle.std.proofs.lemmas.List.{append-nil, drop-drop, drop-set-lt, drop_all, drop_more, get_or-drop, length-drop, map-append, map_more, take_all, take_more_set}

-- a list from a place on begins with its element there
from : {A : Type 0} (xs : List A) (i : ℕ) (x : A) → i < length xs → x ≡ get_or xs i x → drop i xs ≡ x ∷ drop (i + 1) xs
from xs i x within at = drop_more xs i x within ∙ ap (λ y. y ∷ drop (i + 1) xs) (sym at)

-- the one that is searched for is among those from here on
pub found_later : {A : Type 0} (p : A → Bool) (xs : List A) (i : ℕ) (x : A)
    → i < length xs → x ≡ get_or xs i x → p x ≡ false → find p (drop i xs) ≡ find p xs → find p (drop (i + 1) xs) ≡ find p xs
found_later p xs i x within at not h =
    sym (ap (find p) (from xs i x within at) ∙ ap (λ b. cond b (Some x) (find p (drop (i + 1) xs))) not) ∙ h

-- it is this one
pub found_here : {A : Type 0} (p : A → Bool) (xs : List A) (i : ℕ) (x : A)
    → i < length xs → x ≡ get_or xs i x → p x ≡ true → find p (drop i xs) ≡ find p xs → find p xs ≡ Some x
found_here p xs i x within at is h =
    sym h ∙ ap (find p) (from xs i x within at) ∙ ap (λ b. cond b (Some x) (find p (drop (i + 1) xs))) is

-- there is none
pub found_none : {A : Type 0} (p : A → Bool) (xs : List A) (i : ℕ) → length xs ≤ i → find p (drop i xs) ≡ find p xs → find p xs ≡ None
found_none p xs i past h = sym h ∙ ap (find p) (drop_all i xs past)

-- one more is had, or the next has none
pub had_more : {A B V : Type 0} (h : A → Option V) (value : B → V) (old new : List B) (b : B) (xs : List A) (i : ℕ) (x : A) (all : List V)
    → i < length xs → x ≡ get_or xs i x → h x ≡ Some (value b) → new ≡ old ++ b ∷ [] → map value old ++ filter_map h (drop i xs) ≡ all → map value new ++ filter_map h (drop (i + 1) xs) ≡ all
had_more h value old new b xs i x all within at has grown so =
    let rest = filter_map h (drop (i + 1) xs) in
    ap (λ z. map value z ++ rest) grown ∙ ap (λ z. z ++ rest) (map-append value old (b ∷ [])) ∙ append_assoc (map value old) (value b ∷ []) rest
    ∙ sym (ap (λ z. map value old ++ filter_map h z) (from xs i x within at) ∙ ap (λ o. map value old ++ cons_option o rest) has) ∙ so

pub had_same : {A V : Type 0} (h : A → Option V) (old : List V) (xs : List A) (i : ℕ) (x : A) (all : List V)
    → i < length xs → x ≡ get_or xs i x → h x ≡ None → old ++ filter_map h (drop i xs) ≡ all → old ++ filter_map h (drop (i + 1) xs) ≡ all
had_same h old xs i x all within at has so =
    let rest = filter_map h (drop (i + 1) xs) in
    sym (ap (λ z. old ++ filter_map h z) (from xs i x within at) ∙ ap (λ o. old ++ cons_option o rest) has) ∙ so

pub had_all : {A V : Type 0} (h : A → Option V) (old : List V) (xs : List A) (i : ℕ) (all : List V) → length xs ≤ i → old ++ filter_map h (drop i xs) ≡ all → old ≡ all
had_all h old xs i all past so = sym (append-nil old) ∙ ap (λ z. old ++ filter_map h z) (sym (drop_all i xs past)) ∙ so

-- those up to here are changed, and those from here on are as they were
abbrev pub Changed : {A : Type 0} → (A → A) → ℕ → List A → List A → Type 0
Changed f i old new = (take i new ≡ map f (take i old)) × (drop i new ≡ drop i old)

pub changed_none : {A : Type 0} (f : A → A) (xs : List A) → Changed f 0 xs xs
changed_none f xs = (refl, refl)

within_both : {A : Type 0} (old new : List A) (i : ℕ) → i < length new → drop i new ≡ drop i old → i < length old
within_both old new i within same =
    let sizes : length new - i ≡ length old - i = sym (length-drop i new) ∙ ap length same ∙ length-drop i old in omega (arith, sizes)

first_from : {A : Type 0} (xs : List A) (i : ℕ) (d : A) → get_or (drop i xs) 0 d ≡ get_or xs i d
first_from xs i d = get_or-drop i xs 0 d ∙ ap (λ k. get_or xs k d) (add-zero i)

pub changed_more : {A : Type 0} (f : A → A) (i : ℕ) (old new : List A) (x y : A)
    → i < length new → x ≡ get_or new i x → y ≡ f x → Changed f i old new → Changed f (i + 1) old (set new i y)
changed_more {A} f i old new x y within at is h =
    let before : i < length old = within_both old new i within h.1 in
    let same : get_or old i x ≡ x = sym (first_from old i x) ∙ sym (ap (λ z. get_or z 0 x) h.1) ∙ first_from new i x ∙ sym at in (
      take_more_set new i y within ∙ ap (λ z. z ++ y ∷ []) h.0 ∙ ap (λ z. map f (take i old) ++ z ∷ []) (is ∙ ap f (sym same)) ∙ sym (map_more f old i x before),
      drop-set-lt (i + 1) new i y (omega arith) ∙ sym (drop-drop 1 i new) ∙ ap (drop 1) h.1 ∙ drop-drop 1 i old,
    )

pub changed_all : {A : Type 0} (f : A → A) (i : ℕ) (old new : List A) → length new ≤ i → Changed f i old new → new ≡ map f old
changed_all f i old new past h =
    let sizes : length new - i ≡ length old - i = sym (length-drop i new) ∙ ap length h.1 ∙ length-drop i old in
    let ends : length old ≤ i = omega (arith, sizes) in
    sym (take_all i new past) ∙ h.0 ∙ ap (map f) (take_all i old ends)

-- one of a list more was made as it should be
pub made_more : {A B X : Type 0} (f : B → X) (g : A → X) (xs : List A) (i : ℕ) (x : A) (old new : List B) (b : B)
    → i < length xs → x ≡ get_or xs i x → f b ≡ g x → new ≡ old ++ b ∷ [] → map f old ≡ map g (take i xs) → map f new ≡ map g (take (i + 1) xs)
made_more f g xs i x old new b within at is grown h =
    ap (map f) grown ∙ map-append f old (b ∷ []) ∙ ap (λ z. z ++ f b ∷ []) h ∙ ap (λ z. map g (take i xs) ++ z ∷ []) (is ∙ ap g at) ∙ sym (map_more g xs i x within)

-- a fact of each of a list, and of one more
pub each_more : {A : Type 0} (P : A → Type 0) (xs : List A) (x : A) → AllByRecursion P xs → P x → AllByRecursion P (xs ++ x ∷ [])
each_more P [] x h is = (is, tt)
each_more P (y ∷ xs) x h is = (h.0, each_more P xs x h.1 is)
