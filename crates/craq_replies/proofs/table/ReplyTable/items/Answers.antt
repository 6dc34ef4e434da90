use Rattle.std.proofs.Common.{List, ℕ, map, sym, ◌∙◌, ap, subst}
use Rattle.std.specs.Ordering.{nat_cmp}
use Rattle.std.specs.List.Sorted.{IsStrictlySortedBy}
use Rattle.craq_commands.specs.Kept.{Window}
use Rattle.craq_names.specs.Places.{filled}
use Rattle.craq_names.proofs.Places.{keys_filled}
use Rattle.craq_replies.specs.Replies.{shown}
use Rattle.craq_replies.proofs.table.ReplyTable.items.Goals as goal

pub returns-clause-rising : goal.returns-clause-rising
returns-clause-rising c =
    let Rises : List (ℕ × Window) → Type 0 = λ l. IsStrictlySortedBy nat_cmp (map (λ k. k.0) l) in
    subst Rises (sym (c.of.ensures ∙ ap (filled shown) c.iter.ensures.rest)) (keys_filled nat_cmp shown c.self.inside.places.entries c.self.invariant)
