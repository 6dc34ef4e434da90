-- The state after a concatenation of entries.
use Rattle.std.proofs.Common.{◌≡◌, List, [], ◌∷◌, ◌++◌, refl}
use Rattle.craq_commands.specs.declared.entry.Entry.{Entry}
use Rattle.craq_commands.specs.declared.state.State.{State}
use Rattle.craq_commands.specs.SingleCopy.{after_entries, after_entry}

pub after_entries-append : (s : State) (xs ys : List Entry) → after_entries s (xs ++ ys) ≡ after_entries (after_entries s xs) ys
after_entries-append s [] ys = refl
after_entries-append s (x ∷ xs) ys = after_entries-append (after_entry s x) xs ys
