-- Lists of lines: their elements, their authors, and no two with one author and stamp.
use Rattle.std.proofs.Common.{◌≡◌, ◌≢◌, ◌<◌, ◌⊎◌, ℕ, zero, suc, ◌==◌, List, [], ◌∷◌, ◌++◌, map, length, refl, sym, ap, subst, arith, ◌∙◌, inl, inr}
use Rattle.std.specs.Prelude.{⊤, Contains, slice_get, Some}
use Rattle.std.specs.List.{AllByRecursion}
use Rattle.std.proofs.lemmas.Bool.{cond_both, eqb-true}
use Rattle.craq_seat.specs.declared.journal.Record.{Record}
use Rattle.craq_seat.specs.Journal.{RisesTo}
use Rattle.craq_seat.specs.Merge.{MergedStep}
use Rattle.craq_causality.specs.Authors.{lines_of}

-- ---- the elements of a list

abbrev pub IsIn : {X : Type 0} → List X → X → Type 0
IsIn {X} [] x = ⊥
IsIn {X} (y ∷ ys) x = (y ≡ x) ⊎ IsIn ys x

pub from_contains : {X : Type 0} (xs : List X) (x : X) → Contains xs x → IsIn xs x
from_contains [] x (k, less, is) = absurd (omega (arith, less))
from_contains (y ∷ ys) x (zero, less, is) = inl is
from_contains (y ∷ ys) x (suc k, less, is) = inr (from_contains ys x (k, omega (arith, less), is))

pub to_contains : {X : Type 0} (xs : List X) (x : X) → IsIn xs x → Contains xs x
to_contains [] x i = absurd i
to_contains (y ∷ ys) x (inl e) = (0, omega arith, e)
to_contains (y ∷ ys) x (inr i) = let c = to_contains ys x i in (suc c.0, (let l : c.0 < length ys = c.1 in omega arith), c.2)

pub in_left : {X : Type 0} (xs ys : List X) (x : X) → IsIn xs x → IsIn (xs ++ ys) x
in_left [] ys x i = absurd i
in_left (y ∷ xs) ys x (inl e) = inl e
in_left (y ∷ xs) ys x (inr i) = inr (in_left xs ys x i)

pub in_right : {X : Type 0} (xs ys : List X) (x : X) → IsIn ys x → IsIn (xs ++ ys) x
in_right [] ys x i = i
in_right (y ∷ xs) ys x i = inr (in_right xs ys x i)

pub in_either : {X : Type 0} (xs ys : List X) (x : X) → IsIn (xs ++ ys) x → IsIn xs x ⊎ IsIn ys x
in_either [] ys x i = inr i
in_either (y ∷ xs) ys x (inl e) = inl (inl e)
in_either (y ∷ xs) ys x (inr i) = elim (in_either xs ys x i) [ inl a ↦ inl (inr a) | inr b ↦ inr b ]

pub in_map : {X Y : Type 0} (f : X → Y) (xs : List X) (x : X) → IsIn xs x → IsIn (map f xs) (f x)
in_map f [] x i = absurd i
in_map f (y ∷ xs) x (inl e) = inl (ap f e)
in_map f (y ∷ xs) x (inr i) = inr (in_map f xs x i)

pub of_map : {X Y : Type 0} (f : X → Y) (xs : List X) (y : Y) → IsIn (map f xs) y → (x : X) × IsIn xs x × (f x ≡ y)
of_map f [] y i = absurd i
of_map f (x ∷ xs) y (inl e) = (x, inl refl, e)
of_map f (x ∷ xs) y (inr i) = let r = of_map f xs y i in (r.0, inr r.1, r.2)

pub all_in : {X : Type 0} (P : X → Type 0) (xs : List X) (x : X) → AllByRecursion P xs → IsIn xs x → P x
all_in P [] x a i = absurd i
all_in P (y ∷ xs) x a (inl e) = subst P e a.0
all_in P (y ∷ xs) x a (inr i) = all_in P xs x a.1 i

pub all_by : {X : Type 0} (P : X → Type 0) (xs : List X) → ((x : X) → IsIn xs x → P x) → AllByRecursion P xs
all_by P [] f = tt
all_by P (x ∷ xs) f = (f x (inl refl), all_by P xs (λ y i. f y (inr i)))

pub in_get : {X : Type 0} (xs : List X) (k : ℕ) (x : X) → slice_get xs k ≡ Some x → IsIn xs x
in_get [] k x h = cc
in_get (y ∷ xs) zero x h = inl cc
in_get (y ∷ xs) (suc k) x h = inr (in_get xs k x h)

-- ---- stamps along the lines

-- each stamp is below all that follow
abbrev pub AreRising : List MergedStep → Type 0
AreRising [] = ⊤
AreRising (a ∷ ls) = AllByRecursion (λ (b : MergedStep). a.stamp < b.stamp) ls × AreRising ls

pub above_first : {E : Type 0} (first last : ℕ) (rs : List (Record E)) (r : Record E) → RisesTo first rs last → IsIn rs r → first < r.stamp
above_first first last [] r h i = absurd i
above_first first last (x ∷ rs) r h (inl e) = let a = h.0 in let s : x.stamp ≡ r.stamp = ap (λ y. y.stamp) e in omega (arith, a, s)
above_first first last (x ∷ rs) r h (inr i) = let a = h.0 in let b = above_first x.stamp last rs r h.1 i in omega (arith, a, b)

-- the stamps of a journal rise
pub journal_rises : {E : Type 0} (line : Record E → MergedStep) → ((r : Record E) → (line r).stamp ≡ r.stamp) → (first last : ℕ) (rs : List (Record E)) → RisesTo first rs last → AreRising (map line rs)
journal_rises line at first last [] h = tt
journal_rises line at first last (r ∷ rs) h =
    (all_by (λ (b : MergedStep). (line r).stamp < b.stamp) (map line rs) (λ z i. by_record z (of_map line rs z i)), journal_rises line at r.stamp last rs h.1)
  where
    by_record : (z : MergedStep) → (x : _) × IsIn rs x × (line x ≡ z) → (line r).stamp < z.stamp
    by_record z (x, i, e) =
        let a = above_first r.stamp last rs x h.1 i in
        let b = at r in
        let c : x.stamp ≡ z.stamp = sym (at x) ∙ ap (λ (y : MergedStep). y.stamp) e in
        omega (arith, a, b, c)

-- ---- the lines of one node

pub at_here : (id : ℕ) (l : MergedStep) (ls : List MergedStep) → l.node ≡ id → lines_of id (l ∷ ls) ≡ l ∷ lines_of id ls
at_here id l ls e = grind (arith, e)

pub at_other : (id : ℕ) (l : MergedStep) (ls : List MergedStep) → l.node ≢ id → lines_of id (l ∷ ls) ≡ lines_of id ls
at_other id l ls n = grind (arith, n)

pub to_at : (id : ℕ) (ls : List MergedStep) (z : MergedStep) → IsIn ls z → z.node ≡ id → IsIn (lines_of id ls) z
to_at id [] z i e = absurd i
to_at id (l ∷ ls) z (inl s) e =
    rw (at_here id l ls (ap (λ (x : MergedStep). x.node) s ∙ e)) (inl s)
to_at id (l ∷ ls) z (inr i) e =
    cond_both (l.node == id) (l ∷ lines_of id ls) (lines_of id ls) (λ xs. IsIn xs z) (λ b. inr (to_at id ls z i e)) (λ b. to_at id ls z i e)

abbrev IsOf : ℕ → List MergedStep → MergedStep → Type 0
IsOf id ls z = IsIn ls z × (z.node ≡ id)

pub from_at : (id : ℕ) (ls : List MergedStep) (z : MergedStep) → IsIn (lines_of id ls) z → IsIn ls z × (z.node ≡ id)
from_at id [] z i = absurd i
from_at id (l ∷ ls) z i =
    cond_both (l.node == id) (l ∷ lines_of id ls) (lines_of id ls) (λ xs. IsIn xs z → IsOf id (l ∷ ls) z)
    (λ b k. elim k [ inl s ↦ (inl s, ap (λ (x : MergedStep). x.node) (sym s) ∙ eqb-true l.node id b) | inr m ↦ (let r = from_at id ls z m in (inr r.0, r.1)) ])
    (λ b k. let r = from_at id ls z k in (inr r.0, r.1))
    i

-- ---- lines of one author have different stamps

abbrev pub IsApart : MergedStep → MergedStep → Type 0
IsApart a b = a.node ≡ b.node → a.stamp < b.stamp

abbrev pub AreApart : List MergedStep → Type 0
AreApart [] = ⊤
AreApart (a ∷ ls) = AllByRecursion (IsApart a) ls × AreApart ls

rest_rises : (id : ℕ) (l : MergedStep) (ls : List MergedStep) → AreRising (lines_of id (l ∷ ls)) → AreRising (lines_of id ls)
rest_rises id l ls r = cond_both (l.node == id) (l ∷ lines_of id ls) (lines_of id ls) (λ xs. AreRising xs → AreRising (lines_of id ls)) (λ b k. k.1) (λ b k. k) r

pub apart : (ls : List MergedStep) → ((id : ℕ) → AreRising (lines_of id ls)) → AreApart ls
apart [] f = tt
apart (l ∷ ls) f =
    let up = (subst AreRising (at_here l.node l ls refl) (f l.node)).0 in (
      all_by (IsApart l) ls (λ s i e. all_in (λ (b : MergedStep). l.stamp < b.stamp) (lines_of l.node ls) s up (to_at l.node ls s i (sym e))),
      apart ls (λ id. rest_rises id l ls (f id)),
    )
