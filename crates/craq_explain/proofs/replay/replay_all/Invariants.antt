use Rattle.std.proofs.Common.{◌≡◌}
use Rattle.craq_explain.specs.Noted.{IsNoted}
use Rattle.craq_explain.proofs.Replaying.{account_at, chain_at}
use Rattle.craq_explain.proofs.replay.replay_all.Given as goal

-- the chain and the notes are those after this number of moves
abbrev pub invariant-loop-place : goal.invariant-loop-place
invariant-loop-place l = record {
  core : l.core ≡ chain_at l.fn.chain l.run l.place;
  notes : IsNoted (account_at l.fn.chain l.run l.place) l.notes;
}
