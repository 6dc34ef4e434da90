-- Concatenations of lists sorted by key.
use Rattle.std.proofs.Common.{◌≡◌, ℕ, ◌-◌, Bool, true, false, ◌&&◌, T, List, [], ◌∷◌, ◌++◌, length, Some, refl, sym, ap, subst, ◌∙◌, arith}
use Rattle.std.specs.Prelude.{slice_get}
use Rattle.std.specs.Ordering.{is_lt}
use Rattle.std.specs.Cmp.{IsTotalOrder}
use Rattle.std.specs.declared.cmp.Ordering.{Ordering}
use Rattle.std.specs.declared.cmp.Ordering.TheVariants.{Less, Equal, Greater}
use Rattle.std.specs.FinMap.Entries.{below_all, is_sorted}

both : (a b : Bool) → T a → T b → T (a && b)
both true b p q = q
both false b p q = absurd p

first : (a b : Bool) → T (a && b) → T a
first true b p = tt
first false b p = absurd p

second : (a b : Bool) → T (a && b) → T b
second true b p = p
second false b p = absurd p

is_true : (b : Bool) → T b → b ≡ true
is_true true t = refl
is_true false t = absurd t

holds : (b : Bool) → b ≡ true → T b
holds true e = tt
holds false e = absurd cc

less : (o : Ordering) → T (is_lt o) → o ≡ Less
less Less t = refl
less Equal t = absurd t
less Greater t = absurd t

and_false : (a : Bool) → (a && false) ≡ false
and_false true = refl
and_false false = refl

module _ {K X : Type 0} (cmp : K → K → Ordering) (total : IsTotalOrder cmp) where
  below_through : (k : K) (f : K × X) (es : List (K × X)) → T (is_lt (cmp k f.0)) → T (below_all cmp f.0 es) → T (below_all cmp k es)
  below_through k f [] l b = tt
  below_through k f (e ∷ es) l b =
      let lower : cmp k e.0 ≡ Less = total.trans k f.0 e.0 (less (cmp k f.0) l) (less (cmp f.0 e.0) (first (is_lt (cmp f.0 e.0)) (below_all cmp f.0 es) b)) in
      both (is_lt (cmp k e.0)) (below_all cmp k es) (subst (λ (o : Ordering). T (is_lt o)) (sym lower) tt) (below_through k f es l (second (is_lt (cmp f.0 e.0)) (below_all cmp f.0 es) b))

  one_before : (x : K × X) (y : K × X) (ys : List (K × X)) → T (is_sorted cmp (y ∷ ys)) → is_sorted cmp (x ∷ y ∷ ys) ≡ is_lt (cmp x.0 y.0)
  one_before x y ys b =
      elim (is_lt (cmp x.0 y.0)) as (λ t. is_lt (cmp x.0 y.0) ≡ t → is_sorted cmp (x ∷ y ∷ ys) ≡ t) [
        | true ↦ λ e.
            let l : T (is_lt (cmp x.0 y.0)) = holds (is_lt (cmp x.0 y.0)) e in
            let under : T (below_all cmp x.0 (y ∷ ys)) = both (is_lt (cmp x.0 y.0)) (below_all cmp x.0 ys) l (below_through x.0 y ys l (first (below_all cmp y.0 ys) (is_sorted cmp ys) b)) in
            is_true (is_sorted cmp (x ∷ y ∷ ys)) (both (below_all cmp x.0 (y ∷ ys)) (is_sorted cmp (y ∷ ys)) under b)
        | false ↦ λ e. rw e refl
      ] refl

  more_before : (x z : K × X) (zs : List (K × X)) (t : Bool) → T (is_sorted cmp (x ∷ z ∷ [])) → is_sorted cmp (z ∷ zs) ≡ t → is_sorted cmp (x ∷ z ∷ zs) ≡ t
  more_before x z zs true a e =
      let rest : T (is_sorted cmp (z ∷ zs)) = holds (is_sorted cmp (z ∷ zs)) e in
      let l : T (is_lt (cmp x.0 z.0)) = first (is_lt (cmp x.0 z.0)) true (first (is_lt (cmp x.0 z.0) && true) (is_sorted cmp (z ∷ [])) a) in
      one_before x z zs rest ∙ is_true (is_lt (cmp x.0 z.0)) l
  more_before x z zs false a e = ap (λ t. below_all cmp x.0 (z ∷ zs) && t) e ∙ and_false (below_all cmp x.0 (z ∷ zs))

  first_two : (x z : K × X) (zs : List (K × X)) → T (is_sorted cmp (x ∷ z ∷ zs)) → T (is_sorted cmp (x ∷ z ∷ []))
  first_two x z zs a =
      both (is_lt (cmp x.0 z.0) && true) (true && true) (both (is_lt (cmp x.0 z.0)) true (first (is_lt (cmp x.0 z.0)) (below_all cmp x.0 zs) (first (below_all cmp x.0 (z ∷ zs)) (is_sorted cmp (z ∷ zs)) a)) tt) tt

  joined : (x : K × X) (xs : List (K × X)) (y : K × X) (ys : List (K × X)) (last : K × X) → T (is_sorted cmp (x ∷ xs)) → T (is_sorted cmp (y ∷ ys)) → slice_get (x ∷ xs) (length xs) ≡ Some last
      → is_sorted cmp (x ∷ xs ++ y ∷ ys) ≡ is_lt (cmp last.0 y.0)
  joined x [] y ys last a b l = let same : x ≡ last = cc in one_before x y ys b ∙ ap (λ (k : K × X). is_lt (cmp k.0 y.0)) same
  joined x (z ∷ zs) y ys last a b l =
      more_before x z (zs ++ y ∷ ys) (is_lt (cmp last.0 y.0)) (first_two x z zs a) (joined z zs y ys last (second (below_all cmp x.0 (z ∷ zs)) (is_sorted cmp (z ∷ zs)) a) b l)

  -- a sorted list comes before another exactly if its last key is below the other's first
  pub by_ends : (xs ys : List (K × X)) (x y : K × X) → T (is_sorted cmp xs) → T (is_sorted cmp ys) → slice_get xs (length xs - 1) ≡ Some x → slice_get ys 0 ≡ Some y → is_lt (cmp x.0 y.0) ≡ is_sorted cmp (xs ++ ys)
  by_ends [] ys x y s t l f = absurd cc
  by_ends (a ∷ more) [] x y s t l f = absurd cc
  by_ends (a ∷ more) (b ∷ bs) x y s t l f =
      let n : length (a ∷ more) - 1 ≡ length more = omega arith in
      let end : slice_get (a ∷ more) (length more) ≡ Some x = subst (λ (i : ℕ). slice_get (a ∷ more) i ≡ Some x) n l in
      let same : y ≡ b = cc in
      ap (λ (k : K × X). is_lt (cmp x.0 k.0)) same ∙ sym (joined a more b bs x s t end)
