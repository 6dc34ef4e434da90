use Rattle.std.proofs.Common.{◌≡◌, ◌≤◌, ◌++◌, ◌∷◌, [], length, take, drop}
use Rattle.craq_replies.proofs.held.shift_in.Given as goal

-- with the reply in hand at its place, these are all replies
abbrev pub invariant-loop-index : goal.invariant-loop-index
invariant-loop-index l = record {
  all : take l.index l.replies.items ++ l.kept ∷ drop l.index l.replies.items ≡ l.fn.replies.items ++ l.fn.newest ∷ [];
  within : l.index ≤ length l.replies.items;
}
