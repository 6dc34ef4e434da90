-- Facts about properties of every element of a list.
use Rattle.std.proofs.Common.{ℕ, zero, suc, Bool, List, [], ◌∷◌, ◌++◌, map, filter, take, drop}
use Rattle.std.proofs.lemmas.Bool.{cond_both}
use Rattle.std.specs.List.{AllByRecursion}

pub all_append : {A : Type 0} (P : A → Type 0) (xs ys : List A) → AllByRecursion P xs → AllByRecursion P ys → AllByRecursion P (xs ++ ys)
all_append P [] ys a b = b
all_append P (x ∷ xs) ys a b = (a.0, all_append P xs ys a.1 b)

pub all_like : {A : Type 0} (P Q : A → Type 0) (xs : List A) → ((x : A) → P x → Q x) → AllByRecursion P xs → AllByRecursion Q xs
all_like P Q [] f a = tt
all_like P Q (x ∷ xs) f a = (f x a.0, all_like P Q xs f a.1)

pub all_map : {A B : Type 0} (P : B → Type 0) (f : A → B) (xs : List A) → AllByRecursion (λ x. P (f x)) xs → AllByRecursion P (map f xs)
all_map P f [] a = tt
all_map P f (x ∷ xs) a = (a.0, all_map P f xs a.1)

pub all_each : {A : Type 0} (P : A → Type 0) (xs : List A) → ((x : A) → P x) → AllByRecursion P xs
all_each P [] f = tt
all_each P (x ∷ xs) f = (f x, all_each P xs f)

pub all_drop : {A : Type 0} (P : A → Type 0) (k : ℕ) (xs : List A) → AllByRecursion P xs → AllByRecursion P (drop k xs)
all_drop P zero xs a = a
all_drop P (suc k) [] a = tt
all_drop P (suc k) (x ∷ xs) a = all_drop P k xs a.1

pub all_take : {A : Type 0} (P : A → Type 0) (k : ℕ) (xs : List A) → AllByRecursion P xs → AllByRecursion P (take k xs)
all_take P zero xs a = tt
all_take P (suc k) [] a = tt
all_take P (suc k) (x ∷ xs) a = (a.0, all_take P k xs a.1)

pub all_filter : {A : Type 0} (P : A → Type 0) (test : A → Bool) (xs : List A) → AllByRecursion P xs → AllByRecursion P (filter test xs)
all_filter P test [] a = tt
all_filter {A} P test (x ∷ xs) a =
    cond_both (test x) (x ∷ filter test xs) (filter test xs) (λ (ys : List A). AllByRecursion P ys)
    (λ e. (a.0, all_filter P test xs a.1))
    (λ e. all_filter P test xs a.1)
