-- Boolean tests of concatenated lists.
use Rattle.std.proofs.Common.{◌≡◌, List, ◌++◌, map, arith}
use Rattle.std.proofs.lemmas.List.Folds.{list_all-append, list_any-append}
use Rattle.std.specs.Prelude.{Bool, ◌&&◌, ◌||◌}
use Rattle.std.specs.List.{list_all, list_any}
use mathlib.Core.List.{map-id}

pub of_three : {A : Type 0} (p : A → Bool) (xs ys zs : List A) → list_all p (xs ++ ys ++ zs) ≡ (list_all p xs && list_all p (map (λ y. y) ys) && list_all p zs)
of_three p xs ys zs = grind (arith, list_all-append p (xs ++ ys) zs, list_all-append p xs ys, map-id ys)

pub some_of_three : {A : Type 0} (p : A → Bool) (xs ys zs : List A) → list_any p (xs ++ ys ++ zs) ≡ (list_any p xs || list_any p (map (λ y. y) ys) || list_any p zs)
some_of_three p xs ys zs = grind (arith, list_any-append p (xs ++ ys) zs, list_any-append p xs ys, map-id ys)
