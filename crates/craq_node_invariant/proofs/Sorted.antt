-- Lists sorted by key: their parts and their concatenations.
use Rattle.std.proofs.Common.{ℕ, zero, suc, Bool, true, false, ◌&&◌, T, List, [], ◌∷◌, ◌++◌, take, drop}
use Rattle.std.specs.List.{AllByRecursion}
use Rattle.std.specs.Ordering.{is_lt}
use Rattle.std.specs.declared.cmp.Ordering.{Ordering}
use Rattle.std.specs.FinMap.Entries.{below_all, is_sorted}
use Rattle.craq_names.proofs.Lists.{all_append, all_take}

pub both : (a b : Bool) → T a → T b → T (a && b)
both true b p q = q
both false b p q = absurd p

pub first : (a b : Bool) → T (a && b) → T a
first true b p = tt
first false b p = absurd p

pub second : (a b : Bool) → T (a && b) → T b
second true b p = p
second false b p = absurd p

pub all_split : {A : Type 0} (P : A → Type 0) (xs ys : List A) → AllByRecursion P (xs ++ ys) → AllByRecursion P xs × AllByRecursion P ys
all_split P [] ys a = (tt, a)
all_split P (x ∷ xs) ys a = let rest = all_split P xs ys a.1 in ((a.0, rest.0), rest.1)

module _ {K X : Type 0} (cmp : K → K → Ordering) where
  -- the key is below those of all entries
  abbrev pub IsBelow : K → List (K × X) → Type 0
  IsBelow k es = AllByRecursion (λ (e : K × X). T (is_lt (cmp k e.0))) es

  -- each key of the first entries is below those of the others
  abbrev pub AreBelow : List (K × X) → List (K × X) → Type 0
  AreBelow xs ys = AllByRecursion (λ (x : K × X). IsBelow x.0 ys) xs

  abbrev pub IsRising : List (K × X) → Type 0
  IsRising es = T (is_sorted cmp es)

  is_below : (k : K) (es : List (K × X)) → T (below_all cmp k es) → IsBelow k es
  is_below k [] h = tt
  is_below k (e ∷ es) h = (first _ _ h, is_below k es (second _ _ h))

  below_is : (k : K) (es : List (K × X)) → IsBelow k es → T (below_all cmp k es)
  below_is k [] h = tt
  below_is k (e ∷ es) h = both _ _ h.0 (below_is k es h.1)

  pub rising_take : (n : ℕ) (es : List (K × X)) → IsRising es → IsRising (take n es)
  rising_take zero es h = tt
  rising_take (suc n) [] h = tt
  rising_take (suc n) (e ∷ es) h =
      both _ _ (below_is e.0 (take n es) (all_take (λ (x : K × X). T (is_lt (cmp e.0 x.0))) n es (is_below e.0 es (first _ _ h)))) (rising_take n es (second _ _ h))

  pub rising_drop : (n : ℕ) (es : List (K × X)) → IsRising es → IsRising (drop n es)
  rising_drop zero es h = h
  rising_drop (suc n) [] h = tt
  rising_drop (suc n) (e ∷ es) h = rising_drop n es (second _ _ h)

  pub rising_append : (xs ys : List (K × X)) → IsRising xs → IsRising ys → AreBelow xs ys → IsRising (xs ++ ys)
  rising_append [] ys a b c = b
  rising_append (x ∷ xs) ys a b c =
      both _ _ (below_is x.0 (xs ++ ys) (all_append (λ (e : K × X). T (is_lt (cmp x.0 e.0))) xs ys (is_below x.0 xs (first _ _ a)) c.0)) (rising_append xs ys (second _ _ a) b c.1)

  pub rising_parts : (xs ys : List (K × X)) → IsRising (xs ++ ys) → IsRising xs × IsRising ys × AreBelow xs ys
  rising_parts [] ys h = (tt, h, tt)
  rising_parts (x ∷ xs) ys h =
      let below = all_split (λ (e : K × X). T (is_lt (cmp x.0 e.0))) xs ys (is_below x.0 (xs ++ ys) (first _ _ h)) in
      let rest = rising_parts xs ys (second _ _ h) in
      (both _ _ (below_is x.0 xs below.0) rest.0, rest.1, (below.1, rest.2))
