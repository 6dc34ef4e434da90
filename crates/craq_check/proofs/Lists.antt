-- The tests of lists decide their rules.
use Rattle.std.proofs.Common.{◌≡◌, ℕ, zero, suc, ◌+◌, ◌<◌, ◌≤◌, Bool, true, false, length, take, map, List, [], ◌∷◌, Option, Some, None, refl, sym, ap, ◌∙◌, arith}
use Rattle.std.specs.Prelude.{◌==◌, nat_le, not, filter_map, IsSome, slice_index}
use Rattle.std.specs.List.{list_all, list_any, AllByRecursion, IsDistinct, cons_option}
use Rattle.craq_runs.specs.declared.explanation.Place.{Place}
use Rattle.craq_runs.specs.Seen.{Answered}
use Rattle.craq_runs.specs.Valid.{place_name, answer_name}
use Rattle.craq_check.specs.Tests.{stand_once, all_pairs, is_named, never_fall, asked_in_time}
use Rattle.craq_check.proofs.Bools.{and_both, both_and, or_neither, neither_or, not_false, not_true}

pub same_number : (x y : ℕ) → (x == y) ≡ true → x ≡ y
same_number x y h = grind (arith, h)

pub number_same : (x y : ℕ) → x ≡ y → (x == y) ≡ true
number_same x y h = grind (arith, h)

pub at_most : (x y : ℕ) → nat_le x y ≡ true → x ≤ y
at_most x y h = grind (arith, h)

pub most_at : (x y : ℕ) → x ≤ y → nat_le x y ≡ true
most_at x y h = grind (arith, h)

-- ---- no item twice

none_of : {A : Type 0} (p : A → Bool) (xs : List A) → list_any p xs ≡ false → AllByRecursion (λ y. p y ≡ false) xs
none_of p [] h = tt
none_of p (x ∷ xs) h = let b : (p x ≡ false) × (list_any p xs ≡ false) = or_neither (p x) (list_any p xs) h in (b.0, none_of p xs b.1)

any_none : {A : Type 0} (p : A → Bool) (xs : List A) → AllByRecursion (λ y. p y ≡ false) xs → list_any p xs ≡ false
any_none p [] h = refl
any_none p (x ∷ xs) h = neither_or (p x) (list_any p xs) h.0 (any_none p xs h.1)

pub distinct : {A : Type 0} (same : A → A → Bool) (xs : List A) → stand_once same xs ≡ true → IsDistinct same xs
unfolding stand_once IsDistinct
distinct same [] h = tt
distinct same (x ∷ xs) h =
    let b : (not (list_any (same x) xs) ≡ true) × (stand_once same xs ≡ true) = and_both (not (list_any (same x) xs)) (stand_once same xs) h in
    (none_of (same x) xs (not_false (list_any (same x) xs) b.0), distinct same xs b.1)

pub once : {A : Type 0} (same : A → A → Bool) (xs : List A) → IsDistinct same xs → stand_once same xs ≡ true
unfolding stand_once IsDistinct
once same [] h = refl
once same (x ∷ xs) h = both_and (not (list_any (same x) xs)) (stand_once same xs) (not_true (list_any (same x) xs) (any_none (same x) xs h.0)) (once same xs h.1)

-- ---- names

first_or : {A : Type 0} → A → List A → A
first_or d [] = d
first_or d (x ∷ xs) = x

rest_of : {A : Type 0} → List A → List A
rest_of [] = []
rest_of (x ∷ xs) = xs

pub named : (xs : List Answered) (ps : List Place) → all_pairs is_named xs ps ≡ true → map place_name ps ≡ map answer_name xs
unfolding all_pairs
named [] [] h = refl
named [] (p ∷ ps) h = cc
named (a ∷ xs) [] h = cc
named (a ∷ xs) (p ∷ ps) h =
    let b : (is_named a p ≡ true) × (all_pairs is_named xs ps ≡ true) = and_both (is_named a p) (all_pairs is_named xs ps) h in
    let n : ((a.node == p.node) ≡ true) × ((a.ticket == p.ticket) ≡ true) = and_both (a.node == p.node) (a.ticket == p.ticket) b.0 in
    let node : a.node ≡ p.node = same_number a.node p.node n.0 in
    let ticket : a.ticket ≡ p.ticket = same_number a.ticket p.ticket n.1 in
    λ i. (sym node i, sym ticket i) ∷ named xs ps b.1 i

pub names : (xs : List Answered) (ps : List Place) → map place_name ps ≡ map answer_name xs → all_pairs is_named xs ps ≡ true
unfolding all_pairs first_or rest_of
names [] [] h = refl
names [] (p ∷ ps) h = cc
names (a ∷ xs) [] h = cc
names (a ∷ xs) (p ∷ ps) h =
    let first : place_name p ≡ answer_name a = ap (first_or (0, 0)) h in
    let rest : map place_name ps ≡ map answer_name xs = ap rest_of h in
    let node : a.node ≡ p.node = ap (λ (n : ℕ × ℕ). n.0) (sym first) in
    let ticket : a.ticket ≡ p.ticket = ap (λ (n : ℕ × ℕ). n.1) (sym first) in
    both_and (is_named a p) (all_pairs is_named xs ps) (both_and (a.node == p.node) (a.ticket == p.ticket) (number_same a.node p.node node) (number_same a.ticket p.ticket ticket)) (names xs ps rest)

-- ---- each number names something

few_kept : {A B : Type 0} (f : A → Option B) (xs : List A) → length (filter_map f xs) ≤ length xs
few_kept {B = B} f [] = omega arith
few_kept {B = B} f (x ∷ xs) =
    let rest : length (filter_map f xs) ≤ length xs = few_kept f xs in
    let split : (o : Option B) → length (cons_option o (filter_map f xs)) ≤ suc (length xs) = elim [ None ↦ omega (arith, rest) | Some y ↦ omega (arith, rest) ] in
    split (f x)

one_kept : {B : Type 0} (o : Option B) (ys : List B) (n : ℕ) → length ys ≤ n → length (cons_option o ys) ≡ suc n → (IsSome o) × (length ys ≡ n)
one_kept None ys n low h = grind (arith, low, h)
one_kept (Some y) ys n low h = (refl, omega (arith, h))

pub all_kept : {A B : Type 0} (f : A → Option B) (xs : List A) → length (filter_map f xs) ≡ length xs → AllByRecursion (λ x. IsSome (f x)) xs
all_kept f [] h = tt
all_kept f (x ∷ xs) h =
    let b : (IsSome (f x)) × (length (filter_map f xs) ≡ length xs) = one_kept (f x) (filter_map f xs) (length xs) (few_kept f xs) h in
    (b.0, all_kept f xs b.1)

kept_one : {B : Type 0} (o : Option B) (ys : List B) → IsSome o → length (cons_option o ys) ≡ suc (length ys)
kept_one None ys h = cc
kept_one (Some y) ys h = refl

pub kept_all : {A B : Type 0} (f : A → Option B) (xs : List A) → AllByRecursion (λ x. IsSome (f x)) xs → length (filter_map f xs) ≡ length xs
kept_all f [] h = refl
kept_all f (x ∷ xs) h = kept_one (f x) (filter_map f xs) h.0 ∙ ap suc (kept_all f xs h.1)

-- ---- lengths

pub rises : (n : ℕ) (ns : List ℕ) → never_fall n ns ≡ true → (k : ℕ) → k < length ns → slice_index (n ∷ ns) k ≤ slice_index ns k
unfolding never_fall
rises n [] h k low = omega (arith, low)
rises n (m ∷ ms) h zero low = at_most n m (and_both (nat_le n m) (never_fall m ms) h).0
rises n (m ∷ ms) h (suc k) low = rises m ms (and_both (nat_le n m) (never_fall m ms) h).1 k (omega (arith, low))

pub risen : (n : ℕ) (ns : List ℕ) → ((k : ℕ) → k < length ns → slice_index (n ∷ ns) k ≤ slice_index ns k) → never_fall n ns ≡ true
unfolding never_fall
risen n [] f = refl
risen n (m ∷ ms) f =
    let first : n ≤ m = f 0 (omega arith) in
    both_and (nat_le n m) (never_fall m ms) (most_at n m first) (risen m ms (λ k low. f (suc k) (omega (arith, low))))

-- none is above the last
pub last_highest : (n : ℕ) (ns : List ℕ) → never_fall n ns ≡ true → (k : ℕ) → slice_index (n ∷ ns) k ≤ slice_index (n ∷ ns) (length ns)
unfolding never_fall
last_highest n [] h zero = omega arith
last_highest n [] h (suc k) = omega arith
last_highest n (m ∷ ms) h zero =
    let first : n ≤ m = at_most n m (and_both (nat_le n m) (never_fall m ms) h).0 in
    let rest : m ≤ slice_index (m ∷ ms) (length ms) = last_highest m ms (and_both (nat_le n m) (never_fall m ms) h).1 0 in
    omega (arith, first, rest)
last_highest n (m ∷ ms) h (suc k) = last_highest m ms (and_both (nat_le n m) (never_fall m ms) h).1 k

-- ---- requested in time

within : (asks : List ℕ) (n number : ℕ) → list_all (λ a. nat_le a number) (take n asks) ≡ true → (place : ℕ) → place < n → slice_index asks place ≤ number
within [] n number h place low = omega arith
within (a ∷ asks) zero number h place low = omega (arith, low)
within (a ∷ asks) (suc n) number h zero low = at_most a number (and_both (nat_le a number) (list_all (λ x. nat_le x number) (take n asks)) h).0
within (a ∷ asks) (suc n) number h (suc place) low =
    within asks n number (and_both (nat_le a number) (list_all (λ x. nat_le x number) (take n asks)) h).1 place (omega (arith, low))

all_within : (asks : List ℕ) (n number : ℕ) → ((place : ℕ) → place < n → slice_index asks place ≤ number) → list_all (λ a. nat_le a number) (take n asks) ≡ true
all_within [] zero number f = refl
all_within [] (suc n) number f = refl
all_within (a ∷ asks) zero number f = refl
all_within (a ∷ asks) (suc n) number f =
    let first : a ≤ number = f 0 (omega arith) in
    both_and (nat_le a number) (list_all (λ x. nat_le x number) (take n asks)) (most_at a number first) (all_within asks n number (λ place low. f (suc place) (omega (arith, low))))

pub asked_by : (asks : List ℕ) (number : ℕ) (ns : List ℕ) → asked_in_time asks number ns ≡ true → (k place : ℕ) → place < slice_index ns k → slice_index asks place ≤ number + k
unfolding asked_in_time
asked_by asks number [] h k place low = omega (arith, low)
asked_by asks number (n ∷ ns) h zero place low =
    let first : slice_index asks place ≤ number = within asks n number (and_both (list_all (λ a. nat_le a number) (take n asks)) (asked_in_time asks (number + 1) ns) h).0 place low in
    omega (arith, first)
asked_by asks number (n ∷ ns) h (suc k) place low =
    let later : slice_index asks place ≤ number + 1 + k = asked_by asks (number + 1) ns (and_both (list_all (λ a. nat_le a number) (take n asks)) (asked_in_time asks (number + 1) ns) h).1 k place low in
    omega (arith, later)

pub by_asked : (asks : List ℕ) (number : ℕ) (ns : List ℕ) → ((k place : ℕ) → place < slice_index ns k → slice_index asks place ≤ number + k) → asked_in_time asks number ns ≡ true
unfolding asked_in_time
by_asked asks number [] f = refl
by_asked asks number (n ∷ ns) f =
    let first : (place : ℕ) → place < n → slice_index asks place ≤ number = λ place low. let h : slice_index asks place ≤ number + 0 = f 0 place low in omega (arith, h) in
    let later : (k place : ℕ) → place < slice_index ns k → slice_index asks place ≤ number + 1 + k = λ k place low. let h : slice_index asks place ≤ number + suc k = f (suc k) place low in omega (arith, h) in
    both_and (list_all (λ a. nat_le a number) (take n asks)) (asked_in_time asks (number + 1) ns) (all_within asks n number first) (by_asked asks (number + 1) ns later)
