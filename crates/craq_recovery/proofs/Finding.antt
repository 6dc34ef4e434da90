-- Searching a list, and the items that are left.
use Rattle.std.proofs.Common.{◌≡◌, Bool, true, false, List, [], ◌∷◌, filter, find, Option, Some, None, subst}
use Rattle.std.proofs.lemmas.Bool.{cond_both}
use Rattle.std.specs.List.{AllByRecursion}

pub found_is : {A : Type 0} (f : A → Bool) (x : A) (xs : List A) → find f xs ≡ Some x → f x ≡ true
found_is {A} f x [] h = absurd (cc)
found_is {A} f x (y ∷ ys) h =
    cond_both (f y) (Some y) (find f ys) (λ (o : Option A). o ≡ Some x → f x ≡ true)
    (λ t e. let same : y ≡ x = cc in subst (λ z. f z ≡ true) same t)
    (λ t e. found_is f x ys e)
    h

pub found_of : {A : Type 0} (P : A → Type 0) (f : A → Bool) (x : A) (xs : List A) → find f xs ≡ Some x → AllByRecursion P xs → P x
found_of {A} P f x [] h a = absurd (cc)
found_of {A} P f x (y ∷ ys) h a =
    cond_both (f y) (Some y) (find f ys) (λ (o : Option A). o ≡ Some x → P x)
    (λ t e. let same : y ≡ x = cc in subst P same a.0)
    (λ t e. found_of P f x ys e a.1)
    h

pub none_found : {A : Type 0} (f : A → Bool) (xs : List A) → find f xs ≡ None → AllByRecursion (λ x. f x ≡ false) xs
none_found {A} f [] h = tt
none_found {A} f (y ∷ ys) h =
    cond_both (f y) (Some y) (find f ys) (λ (o : Option A). o ≡ None → (f y ≡ false) × AllByRecursion (λ x. f x ≡ false) ys)
    (λ t e. absurd (cc))
    (λ t e. (t, none_found f ys e))
    h

pub all_pass : {A : Type 0} (f : A → Bool) (xs : List A) → AllByRecursion (λ x. f x ≡ true) (filter f xs)
all_pass {A} f [] = tt
all_pass {A} f (x ∷ xs) = cond_both (f x) (x ∷ filter f xs) (filter f xs) (λ l. AllByRecursion (λ x. f x ≡ true) l) (λ t. (t, all_pass f xs)) (λ t. all_pass f xs)
