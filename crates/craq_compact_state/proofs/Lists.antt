-- Prefixes of lists, and sorted maps made from them.
use Rattle.std.proofs.Common.{◌≡◌, ℕ, zero, suc, ◌+◌, ◌<◌, Bool, true, false, cond, ◌&&◌, T, List, [], ◌∷◌, ◌++◌, length, take, drop, get_or, Option, Some, None, refl, sym, ◌∙◌, ap, subst, arith, add-one, append_assoc, drop-cons}
use Rattle.std.proofs.lemmas.List.{take-append-drop}
use Rattle.std.specs.List.{AllByRecursion}
use Rattle.std.specs.Ordering.{is_eq, is_lt, ordering_reverse}
use Rattle.std.specs.Cmp.{IsTotalOrder}
use Rattle.std.specs.declared.cmp.Ordering.{Ordering}
use Rattle.std.specs.declared.cmp.Ordering.TheVariants.{Less, Equal, Greater}
use Rattle.std.specs.FinMap.Entries.{by_order, find, put, below_all, is_sorted}

first : (a b : Bool) → T (a && b) → T a
first true b p = tt
first false b p = p

second : (a b : Bool) → T (a && b) → T b
second true b p = p
second false b p = absurd p

less : (r : Ordering) → T (is_lt r) → r ≡ Less
less Less p = refl
less Equal p = absurd p
less Greater p = absurd p

module _ {K X : Type 0} (R : K → K → Ordering) (o : IsTotalOrder R) where
  below_last : (q k : K) (x : X) (xs ys : List (K × X)) → T (below_all R q (xs ++ (k, x) ∷ ys)) → T (is_lt (R q k))
  below_last q k x [] ys h = first _ _ h
  below_last q k x (e ∷ xs) ys h = below_last q k x xs ys (second _ _ h)

  -- an item after all keys of a map is inserted at its end
  pub put_last : (xs ys : List (K × X)) (k : K) (x : X) → T (is_sorted R (xs ++ (k, x) ∷ ys)) → put R k x xs ≡ xs ++ (k, x) ∷ []
  put_last [] ys k x h = refl
  put_last (e ∷ xs) ys k x h =
      let below : R e.0 k ≡ Less = less (R e.0 k) (below_last e.0 k x xs ys (first _ _ h)) in
      let above : R k e.0 ≡ Greater = o.antisymm k e.0 ∙ ap ordering_reverse below in
      ap (λ r. by_order r ((k, x) ∷ e ∷ xs) ((e.0, x) ∷ xs) (e ∷ put R k x xs)) above ∙ ap (λ (l : List (K × X)). e ∷ l) (put_last xs ys k x (second _ _ h))

  -- one more of the remaining items of a sorted list
  pub put_one : (xs rest ys zs all : List (K × X)) (k : K) (x : X) → xs ++ rest ≡ all → rest ≡ (k, x) ∷ ys → T (is_sorted R all) → zs ≡ put R k x xs → zs ++ ys ≡ all
  put_one xs rest ys zs all k x moved step h is =
      let P : List (K × X) → Type 0 = λ l. T (is_sorted R l) in
      let whole : xs ++ (k, x) ∷ ys ≡ all = ap (λ (l : List (K × X)). xs ++ l) (sym step) ∙ moved in
      ap (λ (l : List (K × X)). l ++ ys) (is ∙ put_last xs ys k x (subst P (sym whole) h)) ∙ append_assoc xs ((k, x) ∷ []) ys ∙ whole

  -- one more item of a sorted list
  pub put_next : (es : List (K × X)) (i : ℕ) (e : K × X) → i < length es → e ≡ get_or es i e → T (is_sorted R es) → put R e.0 e.1 (take i es) ≡ take (i + 1) es
  put_next es i e below is h =
      let rest : drop i es ≡ e ∷ drop (suc i) es = drop-cons es i e below ∙ ap (λ (x : K × X). x ∷ drop (suc i) es) (sym is) in
      let whole : take i es ++ e ∷ drop (suc i) es ≡ es = ap (λ (l : List (K × X)). take i es ++ l) (sym rest) ∙ take-append-drop i es in
      let P : List (K × X) → Type 0 = λ l. T (is_sorted R l) in
      put_last (take i es) (drop (suc i) es) e.0 e.1 (subst P (sym whole) h) ∙ sym (ap (λ (n : ℕ). take n es) (add-one i) ∙ taken es i e below is)
    where
      taken : (l : List (K × X)) (n : ℕ) (x : K × X) → n < length l → x ≡ get_or l n x → take (suc n) l ≡ take n l ++ x ∷ []
      taken [] n x b s = absurd (omega (arith, b))
      taken (y ∷ l) zero x b s = ap (λ (z : K × X). z ∷ []) (sym s)
      taken (y ∷ l) (suc n) x b s = ap (λ (t : List (K × X)). y ∷ t) (taken l n x (omega (arith, b)) s)

pub take_none : {A : Type 0} (Q : A → Type 0) (xs : List A) → AllByRecursion Q (take 0 xs)
take_none Q [] = tt
take_none Q (x ∷ xs) = tt

all_to_suc : {A : Type 0} (P Q : A → Type 0) (xs : List A) (i : ℕ) (x : A) → x ≡ get_or xs i x → ((y : A) → P y → Q y) → Q x → AllByRecursion P (take i xs) → AllByRecursion Q (take (suc i) xs)
all_to_suc P Q [] i x is more last h = tt
all_to_suc P Q (y ∷ xs) zero x is more last h = (subst Q is last, take_none Q xs)
all_to_suc P Q (y ∷ xs) (suc i) x is more last h = (more y h.0, all_to_suc P Q xs i x is more last h.1)

-- a fact of each item of a prefix, for one more
pub all_to_next : {A : Type 0} (P Q : A → Type 0) (xs : List A) (i : ℕ) (x : A) → x ≡ get_or xs i x → ((y : A) → P y → Q y) → Q x → AllByRecursion P (take i xs) → AllByRecursion Q (take (i + 1) xs)
all_to_next P Q xs i x is more last h = rw add-one (all_to_suc P Q xs i x is more last h)
