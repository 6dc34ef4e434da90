-- A property of each value of a map holds for look-ups.
use Rattle.std.proofs.Common.{List, [], ◌∷◌, Option, Some, MatchOption}
use Rattle.std.proofs.lemmas.Bool.{cond_both}
use Rattle.std.specs.Prelude.{⊤}
use Rattle.std.specs.List.{AllByRecursion}
use Rattle.std.specs.Ordering.{eq_by_cmp}
use Rattle.std.specs.declared.cmp.Ordering.{Ordering}
use Rattle.std.specs.declared.cmp.Ordering.TheVariants.{Less, Equal, Greater}
use Rattle.std.specs.FinMap.Entries.{by_order, find, put}

-- the value found at a key has the property of all values
pub found_is : {K X : Type 0} (R : K → K → Ordering) (Q : X → Type 0) (q : K) (es : List (K × X)) → AllByRecursion (λ (e : K × X). Q e.1) es → MatchOption (find R q es) ⊤ Q
found_is R Q q [] a = tt
found_is {K} {X} R Q q (e ∷ es) a =
    cond_both (eq_by_cmp R q e.0) (Some e.1) (find R q es) (λ (o : Option X). MatchOption o ⊤ Q) (λ h. a.0) (λ h. found_is R Q q es a.1)

pub put_is : {K X : Type 0} (R : K → K → Ordering) (Q : X → Type 0) (k : K) (v : X) (es : List (K × X)) → Q v → AllByRecursion (λ (e : K × X). Q e.1) es
    → AllByRecursion (λ (e : K × X). Q e.1) (put R k v es)
put_is R Q k v [] q a = (q, tt)
put_is {K} {X} R Q k v (e ∷ es) q a =
    elim (R k e.0) as (λ o. AllByRecursion (λ (e : K × X). Q e.1) (by_order o ((k, v) ∷ e ∷ es) ((e.0, v) ∷ es) (e ∷ put R k v es))) [
      | Less ↦ (q, a)
      | Equal ↦ (q, a.1)
      | Greater ↦ (a.0, put_is R Q k v es q a.1)
    ]
