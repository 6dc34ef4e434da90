-- Authors and permits differ, and the part of a right that is left.
use Rattle.std.proofs.Common.{◌≡◌, ◌≢◌, ◌≤◌, ℕ, suc, ◌==◌, ◌&&◌, ◌||◌, Bool, true, false, true≢false, List, [], ◌∷◌, ◌++◌, Option, Some, None, refl, ap, sym, ◌∙◌, subst, eq-eqb, ne_eqb, arith}
use Rattle.std.proofs.lemmas.Bool.{eqb-true}
use Rattle.std.proofs.lemmas.List.{append-nil}
use Rattle.std.proofs.lemmas.List.Elements.{filter-append}
use Rattle.craq_ghost_history.specs.declared.author.Author.{Author}
use Rattle.craq_ghost_history.specs.declared.author.Author.TheVariants.{Node, Client}
use Rattle.craq_ghost_history.specs.declared.author.Permit.{Permit}
use Rattle.craq_ghost_history.specs.declared.author.Right.{Right}
use Rattle.craq_ghost_history.specs.declared.author.Right.TheVariants.{Nothing, One, Caller, Using, Others}
use Rattle.craq_ghost_history.specs.Authors.{same, of, is_used, is_use, uses, same_permit, Owns, Has, MayGive, MayUse, without, right_of, first_permit, after_permit, using}

both_true : (a b : Bool) → (a && b) ≡ true → (a ≡ true) × (b ≡ true)
both_true true b e = (refl, e)
both_true false b e = absurd (true≢false (sym e))

pub same_is : (a b : Author) → same a b ≡ true → a ≡ b
same_is (Node c n) (Node d m) e =
    let t = both_true (c == d) (n == m) e in
    let chain : c ≡ d = eqb-true c d t.0 in
    let node : n ≡ m = eqb-true n m t.1 in
    λ i. Node (chain i) (node i)
same_is (Node c n) (Client k) e = absurd (true≢false (sym e))
same_is (Client k) (Node c n) e = absurd (true≢false (sym e))
same_is (Client k) (Client l) e = ap Client (eqb-true k l e)

pub same_self : (a : Author) → same a a ≡ true
same_self (Node c n) = rw (eq-eqb c c refl, eq-eqb n n refl) refl
same_self (Client k) = eq-eqb k k refl

pub same_eq : (a b : Author) → a ≡ b → same a b ≡ true
same_eq a b e = subst (λ (x : Author). same a x ≡ true) e (same_self a)

pub same_apart : (a b : Author) → a ≢ b → same a b ≡ false
same_apart a b apart = cases (same a b) refl
  where
    cases : (t : Bool) → same a b ≡ t → same a b ≡ false
    cases true e = absurd (apart (same_is a b e))
    cases false e = e

-- another author has no more entries by an entry
pub own_other : {E : Type 0} (author : E → Author) (a : Author) (log : List E) (e : E) → author e ≢ a → of author a (log ++ e ∷ []) ≡ of author a log
own_other author a log e apart = filter-append (λ x. same (author x) a) log (e ∷ []) ∙ rw (same_apart (author e) a apart) (append-nil (of author a log))

-- ---- rights

or_false : (a b : Bool) → a || b ≡ false → (a ≡ false) × (b ≡ false)
or_false true b e = absurd (true≢false e)
or_false false b e = (refl, e)

any_more : (used : List Author) (k a : Author) → is_used (used ++ k ∷ []) a ≡ false → (same k a ≡ false) × (is_used used a ≡ false)
any_more [] k a e = ((or_false (same k a) false e).0, refl)
any_more (u ∷ us) k a e =
    let both = or_false (same u a) (is_used (us ++ k ∷ []) a) e in
    let rest = any_more us k a both.1 in
    (rest.0, rw (both.0) rest.1)

-- an author that may give a right has it
pub owns_given : (a : Author) (r : Right) → MayGive r a → Owns r a
owns_given a Nothing may = may
owns_given a (One k) may = absurd may
owns_given a (Caller client next) may = absurd may
owns_given a (Using p) may = absurd may
owns_given (Node c n) (Others used next) may = may
owns_given (Client k) (Others used next) may = omega (arith, may)

other_kind : (c n k : ℕ) → Node c n ≡ Client k → ⊥
other_kind c n k e = cc

same_client : (k l : ℕ) → Client k ≡ Client l → k ≡ l
same_client k l e = cc

-- an author that is still owned after one was given was owned before, and is another than that one
pub owns_left : (k a : Author) (r : Right) → MayGive r k → Owns (without k r) a → Owns r a × (a ≢ k)
owns_left k a Nothing may o = absurd may
owns_left k a (One m) may o = absurd may
owns_left k a (Caller client next) may o = absurd may
owns_left k a (Using p) may o = absurd may
owns_left (Node c n) (Node d m) (Others used next) may o =
    let t = any_more used (Node c n) (Node d m) o in
    (t.1, λ e. true≢false (sym (same_eq (Node c n) (Node d m) (sym e)) ∙ t.0))
owns_left (Node c n) (Client l) (Others used next) may o = (o, λ e. other_kind c n l (sym e))
owns_left (Client k) (Node d m) (Others used next) may o = (o, λ e. other_kind d m k e)
owns_left (Client k) (Client l) (Others used next) may o =
    (omega (arith, o), λ e. let s : l ≡ k = same_client l k e in omega (arith, may, o, s))

-- the right that an author is given is to its entries alone
pub owns_of : (k a : Author) (next : ℕ) → Owns (right_of k next) a → a ≡ k
owns_of (Node c n) a next o = o
owns_of (Client k) a next o = o

pub owns_using : (o : Option Permit) (a : Author) → Owns (using o) a → ⊥
owns_using None a o = o
owns_using (Some p) a o = o

pub owns_after : (r : Right) (a : Author) → Owns (after_permit r) a → Owns r a
owns_after Nothing a o = o
owns_after (One k) a o = o
owns_after (Caller client next) a o = o
owns_after (Using p) a o = o
owns_after (Others used next) a o = o

-- ---- permits

pub permit_is : (p q : Permit) → same_permit p q ≡ true → p ≡ q
permit_is p q e =
    let t = both_true (p.client == q.client) (p.number == q.number) e in
    let client : p.client ≡ q.client = eqb-true p.client q.client t.0 in
    let number : p.number ≡ q.number = eqb-true p.number q.number t.1 in
    λ i. record { client = client i; number = number i }

permit_self : (p : Permit) → same_permit p p ≡ true
permit_self p = rw (eq-eqb p.client p.client refl, eq-eqb p.number p.number refl) refl

pub permit_eq : (p q : Permit) → p ≡ q → same_permit p q ≡ true
permit_eq p q e = subst (λ (x : Permit). same_permit p x ≡ true) e (permit_self p)

pub permit_apart : (p q : Permit) → p ≢ q → same_permit p q ≡ false
permit_apart p q apart = cases (same_permit p q) refl
  where
    cases : (t : Bool) → same_permit p q ≡ t → same_permit p q ≡ false
    cases true e = absurd (apart (permit_is p q e))
    cases false e = e

-- a permit is used no more by an entry that does not use it
pub uses_other : {E : Type 0} (permit : E → Option Permit) (p : Permit) (log : List E) (e : E) → is_use (permit e) p ≡ false → uses permit p (log ++ e ∷ []) ≡ uses permit p log
uses_other permit p log e other = filter-append (λ x. is_use (permit x) p) log (e ∷ []) ∙ rw other (append-nil (uses permit p log))

-- the permits that go with an author's right
abbrev pub goes : Author → Permit → Bool
goes (Node c n) p = false
goes (Client k) p = p.client == k

pub has_given : (k : Author) (r : Right) (p : Permit) → MayGive r k → Has (right_of k 0) p → (goes k p ≡ true) × Has r p
has_given k Nothing p may h = absurd may
has_given k (One m) p may h = absurd may
has_given k (Caller client next) p may h = absurd may
has_given k (Using q) p may h = absurd may
has_given (Node c n) (Others used next) p may h = absurd h
has_given (Client k) (Others used next) p may h = let at : p.client ≡ k = h.0 in (eq-eqb p.client k at, omega (arith, may, at))

pub has_left : (k : Author) (r : Right) (p : Permit) → MayGive r k → Has (without k r) p → Has r p × (goes k p ≡ false)
has_left k Nothing p may h = absurd may
has_left k (One m) p may h = absurd may
has_left k (Caller client next) p may h = absurd may
has_left k (Using q) p may h = absurd may
has_left (Node c n) (Others used next) p may h = (h, refl)
has_left (Client k) (Others used next) p may h = (omega (arith, may, h), ne_eqb p.client k (λ e. omega (arith, h, e)))

pub has_going : (k : Author) (r : Right) (p : Permit) → MayGive r k → goes k p ≡ true → Has r p
has_going k Nothing p may g = absurd may
has_going k (One m) p may g = absurd may
has_going k (Caller client next) p may g = absurd may
has_going k (Using q) p may g = absurd may
has_going (Node c n) (Others used next) p may g = absurd (true≢false (sym g))
has_going (Client k) (Others used next) p may g = let at : p.client ≡ k = eqb-true p.client k g in omega (arith, may, at)

-- the permit that a right gives next is its own
pub has_first : (r : Right) (p : Permit) → is_use (first_permit r) p ≡ true → Has r p
has_first Nothing p u = absurd (true≢false (sym u))
has_first (One k) p u = absurd (true≢false (sym u))
has_first (Caller client next) p u =
    let q : Permit = record { client = client; number = next } in
    let e : q ≡ p = permit_is q p u in
    let client_is : client ≡ p.client = ap (λ (x : Permit). x.client) e in
    let number_is : next ≡ p.number = ap (λ (x : Permit). x.number) e in
    (sym client_is, omega (arith, number_is))
has_first (Using q) p u = absurd (true≢false (sym u))
has_first (Others used next) p u = absurd (true≢false (sym u))

pub has_using : (o : Option Permit) (p : Permit) → Has (using o) p → is_use o p ≡ true
has_using None p h = absurd h
has_using (Some q) p h = permit_eq q p (sym h)

-- a permit that is left is another than the one that was given
pub has_after : (r : Right) (p : Permit) → Has (after_permit r) p → Has r p × (is_use (first_permit r) p ≡ false)
has_after Nothing p h = absurd h
has_after (One k) p h = absurd h
has_after (Caller client next) p h =
    let q : Permit = record { client = client; number = next } in
    let above : suc next ≤ p.number = h.1 in
    ((h.0, omega (arith, above)), permit_apart q p (λ e. let at : next ≡ p.number = ap (λ (x : Permit). x.number) e in omega (arith, above, at)))
has_after (Using q) p h = (h, refl)
has_after (Others used next) p h = (h, refl)

pub may_have : (r : Right) (o : Option Permit) (p : Permit) → MayUse r o → o ≡ Some p → Has r p
may_have r o p may is = subst (MayUse r) is may

pub may_use : (o : Option Permit) → MayUse (using o) o
may_use None = tt
may_use (Some p) = refl
