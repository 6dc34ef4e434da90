-- No absent object has used up its versions.
use Rattle.std.proofs.Common.{◌≡◌, false, List, [], ◌∷◌, refl}
use Rattle.craq_names.specs.declared.name.ObjectId.{ObjectId}
use Rattle.craq_commands.specs.Objects.{object_of}
use Rattle.craq_commands.specs.Evaluation.{some_used_up}

pub none_used_up : (os : List ObjectId) → some_used_up [] os ≡ false
unfolding some_used_up object_of
none_used_up [] = refl
none_used_up (o ∷ os) = none_used_up os
