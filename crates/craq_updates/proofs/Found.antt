-- The requests in a list, by number and by ticket.
use Rattle.std.proofs.Common.{◌≡◌, ℕ, ◌<◌, ◌==◌, Bool, true, false, ◌&&◌, List, [], ◌∷◌, ◌++◌, find, Option, Some, None, refl, ap, sym, subst, ◌∙◌, arith}
use Rattle.std.specs.List.{AllByRecursion}
use Rattle.std.proofs.lemmas.Bool.{cond_both, cond-true, cond-false, eq-eqb, eqb-true, ne_eqb, and_parts, false_from_ne_true}
use Rattle.craq_names.proofs.Lists.{all_append, all_like}
use Rattle.craq_runs.specs.Seen.{Asked, is_ticket, ask_with}

pub find_all : {A : Type 0} (P : A → Type 0) (test : A → Bool) (xs : List A) (x : A) → AllByRecursion P xs → find test xs ≡ Some x → P x
find_all P test [] x a h = absurd (cc)
find_all {A} P test (y ∷ xs) x a h =
    cond_both (test y) (Some y) (find test xs) (λ (o : Option A). o ≡ Some x → P x)
    (λ e i. let same : y ≡ x = cc in subst P same a.0)
    (λ e i. find_all P test xs x a.1 i)
    h

pub find_true : {A : Type 0} (test : A → Bool) (xs : List A) (x : A) → find test xs ≡ Some x → test x ≡ true
find_true test [] x h = absurd (cc)
find_true {A} test (y ∷ xs) x h =
    cond_both (test y) (Some y) (find test xs) (λ (o : Option A). o ≡ Some x → test x ≡ true)
    (λ e i. let same : y ≡ x = cc in let P : A → Type 0 = λ z. test z ≡ true in subst P same e)
    (λ e i. find_true test xs x i)
    h

pub find_left : {A : Type 0} (test : A → Bool) (xs ys : List A) (x : A) → find test xs ≡ Some x → find test (xs ++ ys) ≡ Some x
find_left test [] ys x h = absurd (cc)
find_left {A} test (y ∷ xs) ys x h =
    cond_both (test y) (Some y) (find test xs) (λ (o : Option A). o ≡ Some x → find test (y ∷ (xs ++ ys)) ≡ Some x)
    (λ e i. cond-true (test y) (Some y) (find test (xs ++ ys)) e ∙ i)
    (λ e i. cond-false (test y) (Some y) (find test (xs ++ ys)) e ∙ find_left test xs ys x i)
    h

pub find_last : {A : Type 0} (test : A → Bool) (xs : List A) (x : A) → AllByRecursion (λ y. test y ≡ false) xs → test x ≡ true → find test (xs ++ x ∷ []) ≡ Some x
find_last test [] x a h = cond-true (test x) (Some x) None h
find_last test (y ∷ xs) x a h = cond-false (test y) (Some y) (find test (xs ++ x ∷ [])) a.0 ∙ find_last test xs x a.1 h

-- ---- by number

-- each request is found by its number
abbrev pub IsNumbered : List Asked → Type 0
IsNumbered asked = AllByRecursion (λ (a : Asked). find (λ (b : Asked). b.move == a.move) asked ≡ Some a) asked

pub numbered_push : (asked : List Asked) (new : Asked) → IsNumbered asked → AllByRecursion (λ (a : Asked). a.move < new.move) asked → IsNumbered (asked ++ new ∷ [])
numbered_push asked new n below =
    let P : Asked → Type 0 = λ a. find (λ (b : Asked). b.move == a.move) (asked ++ new ∷ []) ≡ Some a in
    let old : AllByRecursion P asked =
    all_like (λ (a : Asked). find (λ (b : Asked). b.move == a.move) asked ≡ Some a) P asked (λ a h. find_left (λ (b : Asked). b.move == a.move) asked (new ∷ []) a h) n
    in
    let last : P new =
    find_last (λ (b : Asked). b.move == new.move) asked new
    (all_like (λ (a : Asked). a.move < new.move) (λ (a : Asked). (a.move == new.move) ≡ false) asked (λ a lt. ne_eqb a.move new.move (λ e. omega (arith, e, lt))) below)
    (eq-eqb new.move new.move refl)
    in
    all_append P asked (new ∷ []) old (last, tt)

-- ---- by ticket

pub ask_stays : (asked more : List Asked) (node ticket : ℕ) (a : Asked) → ask_with asked node ticket ≡ Some a → ask_with (asked ++ more) node ticket ≡ Some a
unfolding ask_with
ask_stays asked more node ticket a h = find_left (λ (a : Asked). (a.node == node) && is_ticket a.ticket ticket) asked more a h

-- no request at the node has a ticket at or above this one
abbrev pub IsBelow : ℕ → ℕ → Asked → Type 0
IsBelow node ticket a = a.node ≡ node → (t : ℕ) → a.ticket ≡ Some t → t < ticket

not_asked : (node ticket : ℕ) (a : Asked) → IsBelow node ticket a → ((a.node == node) && is_ticket a.ticket ticket) ≡ false
not_asked node ticket a below =
    false_from_ne_true ((a.node == node) && is_ticket a.ticket ticket)
    (λ h.
    let p : ((a.node == node) ≡ true) × (is_ticket a.ticket ticket ≡ true) = and_parts (a.node == node) (is_ticket a.ticket ticket) h in
    by_ticket a.ticket refl p.1 (eqb-true a.node node p.0))
  where
    by_ticket : (o : Option ℕ) → a.ticket ≡ o → is_ticket o ticket ≡ true → a.node ≡ node → ⊥
    by_ticket None is i e = cc
    by_ticket (Some t) is i e = let same : t ≡ ticket = eqb-true t ticket i in let lt : t < ticket = below e t is in omega (arith, same, lt)

pub ask_last : (asked : List Asked) (new : Asked) (ticket : ℕ) → AllByRecursion (IsBelow new.node ticket) asked → new.ticket ≡ Some ticket → ask_with (asked ++ new ∷ []) new.node ticket ≡ Some new
unfolding ask_with
ask_last asked new ticket below is =
    let test : Asked → Bool = λ a. (a.node == new.node) && is_ticket a.ticket ticket in
    let P : Option ℕ → Type 0 = λ o. is_ticket o ticket ≡ true in
    let mine : is_ticket new.ticket ticket ≡ true = subst P (sym is) (eq-eqb ticket ticket refl) in
    let node : (new.node == new.node) ≡ true = eq-eqb new.node new.node refl in
    find_last test asked new
    (all_like (IsBelow new.node ticket) (λ (a : Asked). test a ≡ false) asked (λ a b. not_asked new.node ticket a b) below)
    (ap (λ b. b && is_ticket new.ticket ticket) node ∙ mine)
