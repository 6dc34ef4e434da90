-- Lists of objects without duplicates.
use Rattle.std.proofs.Common.{◌≡◌, false, List, [], ◌∷◌, arith}
use Rattle.std.specs.Prelude.{Bool}
use Rattle.std.specs.List.{IsDistinct, AllByRecursion, list_any}
use Rattle.craq_names.specs.declared.name.ObjectId.{ObjectId}
use Rattle.craq_commands.specs.Transaction.{same_object, stands_twice}

none_of : (p : ObjectId → Bool) (os : List ObjectId) → list_any p os ≡ false → AllByRecursion (λ o. p o ≡ false) os
none_of p [] h = tt
none_of p (o ∷ os) h = grind (arith, h, none_of p os)

pub distinct_unless_twice : (os : List ObjectId) → stands_twice os ≡ false → IsDistinct same_object os
unfolding IsDistinct
distinct_unless_twice [] h = tt
distinct_unless_twice (o ∷ os) h = grind (arith, h, none_of (same_object o) os, distinct_unless_twice os)
