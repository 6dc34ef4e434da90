-- Where the first item under a ticket stands, what is left without it, and that tickets go on to rise.
use Rattle.std.proofs.Common.{◌≡◌, ◌<◌, ◌≤◌, ◌==◌, ◌+◌, ◌-◌, ◌++◌, ◌∙◌, ℕ, zero, suc, Bool, true, false, not, if◌then◌else◌, List, [], ◌∷◌, take, drop, length, get_or, Option, None, Some, refl, sym, ap, subst, arith}
use Rattle.std.specs.Prelude.{⊤, find, filter, IfSome, IsSome}
use Rattle.std.specs.List.{AllByRecursion, remove}
use Rattle.std.specs.Ordering.{is_lt, nat_cmp}
use Rattle.std.specs.Set.{remove_key}
use Rattle.std.proofs.lemmas.List.{take_more}
use Rattle.craq_seat.specs.Queues.{IsPlace, Rises}

all_at : {T : Type 0} (P : T → Type 0) (xs : List T) (i : ℕ) (d : T) → AllByRecursion P xs → i < length xs → P (get_or xs i d)
all_at P [] i d h within = absurd (omega (arith, within))
all_at P (x ∷ xs) zero d (p, ps) within = p
all_at P (x ∷ xs) (suc i) d (p, ps) within = all_at P xs i d ps (omega (arith, within))

all_both : {T : Type 0} (P : T → Type 0) (xs ys : List T) → AllByRecursion P xs → AllByRecursion P ys → AllByRecursion P (xs ++ ys)
all_both P [] ys h k = k
all_both P (x ∷ xs) ys (p, ps) k = (p, all_both P xs ys ps k)

all_without : {T : Type 0} (P : T → Type 0) (xs : List T) (i : ℕ) → AllByRecursion P xs → AllByRecursion P (remove xs i)
all_without P [] zero h = tt
all_without P [] (suc i) h = tt
all_without P (x ∷ xs) zero (p, ps) = ps
all_without P (x ∷ xs) (suc i) (p, ps) = (p, all_without P xs i ps)

-- nothing waits under the ticket where all tickets are lower, or all higher
below_none : {T : Type 0} (of : T → ℕ) (t : ℕ) (xs : List T) → AllByRecursion (λ (x : T). of x < t) xs → find (λ (x : T). of x == t) xs ≡ None
below_none of t [] h = refl
below_none of t (x ∷ xs) (first, rest) = grind (arith, below_none of t xs rest)

above_none : {T : Type 0} (of : T → ℕ) (t : ℕ) (xs : List T) → AllByRecursion (λ (x : T). t < of x) xs → find (λ (x : T). of x == t) xs ≡ None
above_none of t [] h = refl
above_none of t (x ∷ xs) (first, rest) = grind (arith, above_none of t xs rest)

-- up to one with a lower ticket all have lower tickets
pub lower : {T : Type 0} (of : T → ℕ) (t : ℕ) (xs : List T) (i : ℕ) (d : T) → Rises of xs → i < length xs → of (get_or xs i d) < t → AllByRecursion (λ (x : T). of x < t) (take (suc i) xs)
lower of t [] i d rises within h = absurd (omega (arith, within))
lower of t (x ∷ xs) zero d (above, rises) within h = (h, tt)
lower of t (x ∷ xs) (suc i) d (above, rises) within h =
    let w : i < length xs = omega (arith, within) in
    let a : of x < of (get_or xs i d) = all_at (λ y. of x < of y) xs i d above w in
    let b : of x < t = omega (arith, a, h) in
    (b, lower of t xs i d rises w h)

all_above : {T : Type 0} (of : T → ℕ) (t n : ℕ) (xs : List T) → AllByRecursion (λ (y : T). n < of y) xs → t < n → AllByRecursion (λ (y : T). t < of y) xs
all_above of t n [] above h = tt
all_above of t n (y ∷ ys) (p, ps) h = (omega (arith, p, h), all_above of t n ys ps h)

-- from one with a higher ticket on all have higher tickets
pub higher : {T : Type 0} (of : T → ℕ) (t : ℕ) (xs : List T) (i : ℕ) (d : T) → Rises of xs → i < length xs → t < of (get_or xs i d) → AllByRecursion (λ (x : T). t < of x) (drop i xs)
higher of t [] i d rises within h = absurd (omega (arith, within))
higher of t (x ∷ xs) zero d (above, rises) within h = (h, all_above of t (of x) xs above h)
higher of t (x ∷ xs) (suc i) d (above, rises) within h = higher of t xs i d rises (omega (arith, within)) h

earlier : {T : Type 0} (of : T → ℕ) (t : ℕ) (xs : List T) (i : ℕ) (d : T) → Rises of xs → i < length xs → of (get_or xs i d) ≡ t → AllByRecursion (λ (x : T). of x < t) (take i xs)
earlier of t [] i d rises within h = absurd (omega (arith, within))
earlier of t (x ∷ xs) zero d rises within h = tt
earlier of t (x ∷ xs) (suc i) d (above, rises) within h =
    let w : i < length xs = omega (arith, within) in
    let a : of x < of (get_or xs i d) = all_at (λ y. of x < of y) xs i d above w in
    let b : of x < t = omega (arith, a, h) in
    (b, earlier of t xs i d rises w h)

-- before the one of the ticket there is none
pub first_of_rising : {T : Type 0} (of : T → ℕ) (t : ℕ) (xs : List T) (i : ℕ) (d : T) → Rises of xs → i < length xs → of (get_or xs i d) ≡ t → find (λ (x : T). of x == t) (take i xs) ≡ None
first_of_rising of t xs i d rises within h = below_none of t (take i xs) (earlier of t xs i d rises within h)

-- between lower and higher ones there is none
pub none_between : {T : Type 0} (of : T → ℕ) (t : ℕ) (xs : List T) (i : ℕ) → AllByRecursion (λ (x : T). of x < t) (take i xs) → AllByRecursion (λ (x : T). t < of x) (drop i xs) → find (λ (x : T). of x == t) xs ≡ None
none_between of t [] i below above = refl
none_between of t (x ∷ xs) zero below above = above_none of t (x ∷ xs) above
none_between of t (x ∷ xs) (suc i) (p, ps) above = grind (arith, none_between of t xs i ps above)

missed : {T : Type 0} (b : Bool) (x : T) (rest : Option T) → (if b then Some x else rest) ≡ None → (b ≡ false) × (rest ≡ None)
missed true x rest h = cc
missed false x rest h = (refl, h)

-- the one at the place is the first
pub found_at : {T : Type 0} (p : T → Bool) (xs : List T) (i : ℕ) (d : T) → i < length xs → find p (take i xs) ≡ None → p (get_or xs i d) ≡ true → find p xs ≡ Some (get_or xs i d)
found_at p [] i d within none is = absurd (omega (arith, within))
found_at p (x ∷ xs) zero d within none is = rw is refl
found_at p (x ∷ xs) (suc i) d within none is =
    let m = missed (p x) x (find p (take i xs)) none in
    rw m.0 (found_at p xs i d (omega (arith, within)) m.1 is)

-- and what is left is the list without that place
pub left_at : {T : Type 0} (p : T → Bool) (xs : List T) (i : ℕ) (d : T) → i < length xs → find p (take i xs) ≡ None → p (get_or xs i d) ≡ true → remove_key p xs ≡ remove xs i
left_at p [] i d within none is = absurd (omega (arith, within))
left_at p (x ∷ xs) zero d within none is = rw is refl
left_at p (x ∷ xs) (suc i) d within none is =
    let m = missed (p x) x (find p (take i xs)) none in
    rw m.0 (ap (λ ys. x ∷ ys) (left_at p xs i d (omega (arith, within)) m.1 is))

pub none_left : {T : Type 0} (p : T → Bool) (xs : List T) → find p xs ≡ None → remove_key p xs ≡ xs
none_left p [] none = refl
none_left p (x ∷ xs) none =
    let m = missed (p x) x (find p xs) none in
    rw m.0 (ap (λ ys. x ∷ ys) (none_left p xs m.1))

by_first : {T : Type 0} (p : T → Bool) (x : T) (xs : List T) (b : Bool) → p x ≡ b → filter (λ x. not (p x)) (remove_key p xs) ≡ filter (λ x. not (p x)) xs → filter (λ x. not (p x)) (remove_key p (x ∷ xs)) ≡ filter (λ x. not (p x)) (x ∷ xs)
by_first p x xs true is rest = rw is refl
by_first p x xs false is rest = rw is (rw is (ap (λ ys. x ∷ ys) rest))

first_goes : {T : Type 0} (p : T → Bool) (xs : List T) → filter (λ x. not (p x)) (remove_key p xs) ≡ filter (λ x. not (p x)) xs
first_goes p [] = refl
first_goes p (x ∷ xs) = by_first p x xs (p x) refl (first_goes p xs)

fewer_by : {T : Type 0} (p : T → Bool) (x y : T) (xs : List T) (b : Bool) → p x ≡ b → (Some y ≡ find p xs → length (remove_key p xs) < length xs) → Some y ≡ find p (x ∷ xs) → length (remove_key p (x ∷ xs)) < length (x ∷ xs)
fewer_by p x y xs true is rest found = rw is (omega arith)
fewer_by p x y xs false is rest found = let r = rest (rw is at found) in rw is (omega (arith, r))

fewer : {T : Type 0} (p : T → Bool) (xs : List T) (x : T) → Some x ≡ find p xs → length (remove_key p xs) < length xs
fewer p [] x found = cc
fewer p (y ∷ ys) x found = fewer_by p y x ys (p y) refl (fewer p ys x) found

-- where there is none, all others are all
pub none_out : {T : Type 0} (p : T → Bool) (xs : List T) → find p xs ≡ None → filter (λ x. not (p x)) xs ≡ xs
none_out p [] none = refl
none_out p (x ∷ xs) none =
    let m = missed (p x) x (find p xs) none in
    rw m.0 (ap (λ ys. x ∷ ys) (none_out p xs m.1))

equal : (m n : ℕ) → m ≡ n → (m == n) ≡ true
equal m n h = grind (arith, h)

-- tickets still rise without the one at a place
pub rises_without : {T : Type 0} (of : T → ℕ) (xs : List T) (i : ℕ) → Rises of xs → Rises of (remove xs i)
rises_without of [] zero rises = tt
rises_without of [] (suc i) rises = tt
rises_without of (x ∷ xs) zero (above, rises) = rises
rises_without of (x ∷ xs) (suc i) (above, rises) = (all_without (λ y. of x < of y) xs i above, rises_without of xs i rises)

rises_with : {T : Type 0} (of : T → ℕ) (xs : List T) (y : T) → Rises of xs → AllByRecursion (λ (x : T). of x < of y) xs → Rises of (xs ++ y ∷ [])
rises_with of [] y rises low = (tt, tt)
rises_with of (x ∷ xs) y (above, rises) (p, ps) = (all_both (λ z. of x < of z) xs (y ∷ []) above (p, tt), rises_with of xs y rises ps)

-- where the last ticket is lower, all are
below_last : {T : Type 0} (of : T → ℕ) (t : ℕ) (xs : List T) (i : ℕ) (d : T) → Rises of xs → i + 1 ≡ length xs → of (get_or xs i d) < t → AllByRecursion (λ (x : T). of x < t) xs
below_last of t [] i d rises end low = tt
below_last of t (x ∷ []) zero d rises end low = (low, tt)
below_last of t (x ∷ y ∷ ys) zero d rises end low = absurd (omega (arith, end))
below_last of t (x ∷ xs) (suc i) d (above, rises) end low =
    let w : i < length xs = omega (arith, end) in
    let a : of x < of (get_or xs i d) = all_at (λ y. of x < of y) xs i d above w in
    (omega (arith, a, low), below_last of t xs i d rises (omega (arith, end)) low)

-- the tickets still rise with a higher one behind them
pub rises_higher : {T : Type 0} (of : T → ℕ) (xs : List T) (i : ℕ) (last item : T) → Rises of xs → i + 1 ≡ length xs → last ≡ get_or xs i last → of last < of item → Rises of (xs ++ item ∷ [])
rises_higher of xs i last item rises end at low =
    rises_with of xs item rises (below_last of (of item) xs i last rises end (subst (λ (n : ℕ). n < of item) (ap of at) low))

all_of_first : {T : Type 0} (P : T → Type 0) (xs : List T) (n : ℕ) → AllByRecursion P xs → AllByRecursion P (take n xs)
all_of_first P [] zero h = tt
all_of_first P [] (suc n) h = tt
all_of_first P (x ∷ xs) zero h = tt
all_of_first P (x ∷ xs) (suc n) (p, ps) = (p, all_of_first P xs n ps)

pub rises_first : {T : Type 0} (of : T → ℕ) (xs : List T) (n : ℕ) → Rises of xs → Rises of (take n xs)
rises_first of [] zero rises = tt
rises_first of [] (suc n) rises = tt
rises_first of (x ∷ xs) zero rises = tt
rises_first of (x ∷ xs) (suc n) (above, rises) = (all_of_first (λ y. of x < of y) xs n above, rises_first of xs n rises)

none_and : {T : Type 0} (p : T → Bool) (xs ys : List T) → find p xs ≡ None → find p (xs ++ ys) ≡ find p ys
none_and p [] ys none = refl
none_and p (x ∷ xs) ys none =
    let m = missed (p x) x (find p xs) none in
    rw m.0 (none_and p xs ys m.1)

differs : (m n : ℕ) → (m ≡ n → ⊥) → (m == n) ≡ false
differs m n h = grind (arith, h)

alone : {T : Type 0} (p : T → Bool) (x : T) → p x ≡ false → find p (x ∷ []) ≡ None
alone p x is = rw is refl

-- one more item has another ticket
pub none_more : {T : Type 0} (of : T → ℕ) (t : ℕ) (xs : List T) (i : ℕ) (x : T) → i < length xs → x ≡ get_or xs i x → find (λ (y : T). of y == t) (take i xs) ≡ None → (of x ≡ t → ⊥) → find (λ (y : T). of y == t) (take (i + 1) xs) ≡ None
none_more {T} of t xs i x within at none other =
    let p : T → Bool = λ (y : T). of y == t in
    let more : take (i + 1) xs ≡ take i xs ++ x ∷ [] = take_more xs i x within ∙ ap (λ (y : T). take i xs ++ y ∷ []) (sym at) in
    ap (λ (ys : List T). find p ys) more ∙ none_and p (take i xs) (x ∷ []) none ∙ alone p x (differs (of x) t other)

get_any : {T : Type 0} (xs : List T) (i : ℕ) (x d : T) → i < length xs → get_or xs i d ≡ get_or xs i x
get_any [] i x d within = absurd (omega (arith, within))
get_any (y ∷ ys) zero x d within = refl
get_any (y ∷ ys) (suc i) x d within = get_any ys i x d (omega (arith, within))

-- the item at a place has the ticket
pub is_place : {T : Type 0} (of : T → ℕ) (t : ℕ) (xs : List T) (i : ℕ) (x : T) → Rises of xs → i < length xs → x ≡ get_or xs i x → of x ≡ t → IsPlace of t xs (Some i)
is_place {T} of t xs i x rises within at is =
    let here : of (get_or xs i x) ≡ t = ap of (sym at) ∙ is in
    (within, first_of_rising of t xs i x rises within here, λ d. ap of (get_any xs i x d within) ∙ here)

-- all up to an item with a lower ticket are lower
pub lower_to : {T : Type 0} (of : T → ℕ) (t : ℕ) (xs : List T) (i : ℕ) (x : T) → Rises of xs → i < length xs → x ≡ get_or xs i x → of x < t → AllByRecursion (λ (y : T). of y < t) (take (i + 1) xs)
lower_to {T} of t xs i x rises within at low =
    let here : of (get_or xs i x) < t = subst (λ (n : ℕ). n < t) (ap of at) low in
    let next : i + 1 ≡ suc i = omega arith in
    subst (λ (n : ℕ). AllByRecursion (λ (y : T). of y < t) (take n xs)) (sym next) (lower of t xs i x rises within here)

-- all from an item with a higher ticket on are higher
pub higher_from : {T : Type 0} (of : T → ℕ) (t : ℕ) (xs : List T) (i : ℕ) (x : T) → Rises of xs → i < length xs → x ≡ get_or xs i x → t < of x → AllByRecursion (λ (y : T). t < of y) (drop i xs)
higher_from {T} of t xs i x rises within at high = higher of t xs i x rises within (subst (λ (n : ℕ). t < n) (ap of at) high)

-- nothing is between
pub none_there : {T : Type 0} (of : T → ℕ) (t : ℕ) (xs : List T) (low high : ℕ) → low ≤ high → high ≤ low → AllByRecursion (λ (x : T). of x < t) (take low xs) → AllByRecursion (λ (x : T). t < of x) (drop high xs) → find (λ (x : T). of x == t) xs ≡ None
none_there {T} of t xs low high up down below above =
    let same : high ≡ low = omega arith in
    none_between of t xs low below (subst (λ (n : ℕ). AllByRecursion (λ (x : T). t < of x) (drop n xs)) same above)

-- the item at the place is the first of the ticket
pub found_is : {T : Type 0} (of : T → ℕ) (t : ℕ) (xs : List T) (i : ℕ) (x : T) → IsPlace of t xs (Some i) → x ≡ get_or xs i x → find (λ (y : T). of y == t) xs ≡ Some x
found_is {T} of t xs i x is at =
    found_at (λ (y : T). of y == t) xs i x is.0 is.1 (equal (of (get_or xs i x)) t (is.2 x)) ∙ ap (λ (y : T). Some y) (sym at)

pub found_some : {T : Type 0} (of : T → ℕ) (t : ℕ) (xs : List T) (i : ℕ) (o : Option T) → IsPlace of t xs (Some i) → IsSome o → IfSome o (λ (x : T). x ≡ get_or xs i x) → o ≡ find (λ (y : T). of y == t) xs
found_some of t xs i None is some at = cc
found_some of t xs i (Some x) is some at = sym (found_is of t xs i x is at)

-- and the list without it is the list without the first of the ticket
pub left_is : {T : Type 0} (of : T → ℕ) (t : ℕ) (xs : List T) (i : ℕ) (o : Option T) → IsPlace of t xs (Some i) → IsSome o → remove xs i ≡ remove_key (λ (y : T). of y == t) xs
left_is of t xs i None is some = cc
left_is {T} of t xs i (Some x) is some = sym (left_at (λ (y : T). of y == t) xs i x is.0 is.1 (equal (of (get_or xs i x)) t (is.2 x)))

same : (m n : ℕ) → (m == n) ≡ true → m ≡ n
same m n h = grind (arith, h)

-- comparisons of tickets, read as facts
pub is_equal : (a m n : ℕ) (r : Bool) → a ≡ m → r ≡ (a == n) → r ≡ true → m ≡ n
is_equal a m n r is eq holds = sym is ∙ same a n (sym eq ∙ holds)

pub is_other : (a m n : ℕ) (r : Bool) → a ≡ m → r ≡ (a == n) → r ≡ false → m ≡ n → ⊥
is_other a m n r is eq fails equals = grind (arith, is, eq, fails, equals)

pub is_lower : (a b m n : ℕ) (r : Bool) → a ≡ m → b ≡ n → r ≡ is_lt (nat_cmp a b) → r ≡ true → m < n
is_lower a b m n r is other lt holds = grind (arith, is, other, lt, holds)

not_lower : (a b : ℕ) → is_lt (nat_cmp a b) ≡ false → b ≤ a
not_lower a b h = grind (arith, h)

pub is_higher : (a m n : ℕ) (r s : Bool) → a ≡ m → r ≡ (a == n) → r ≡ false → s ≡ is_lt (nat_cmp a n) → s ≡ false → n < m
is_higher a m n r s is eq differ lt fails =
    let least : n ≤ a = not_lower a n (sym lt ∙ fails) in
    let other : a ≡ n → ⊥ = λ equals. is_other a a n r refl eq differ equals in
    omega (arith, is, least, other)

-- once none is left, the others are
pub all_gone : {T : Type 0} (p : T → Bool) (xs ys : List T) → None ≡ find p xs → ys ≡ remove_key p xs → ys ≡ filter (λ x. not (p x)) xs
all_gone p xs ys none is = is ∙ none_left p xs (sym none) ∙ sym (none_out p xs (sym none))

-- all of a ticket go where the first goes, and then the others
pub others_stay : {T : Type 0} (p : T → Bool) (xs ys : List T) → ys ≡ remove_key p xs → filter (λ x. not (p x)) ys ≡ filter (λ x. not (p x)) xs
others_stay p xs ys is = rw is (first_goes p xs)

-- one fewer is left
pub one_fewer : {T : Type 0} (p : T → Bool) (xs ys : List T) (x : T) → Some x ≡ find p xs → ys ≡ remove_key p xs → length ys < length xs
one_fewer p xs ys x found is = rw is (fewer p xs x found)
