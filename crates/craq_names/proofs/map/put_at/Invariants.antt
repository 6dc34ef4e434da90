use Rattle.std.proofs.Common.{◌≡◌, ◌++◌, take, drop}
use Rattle.std.specs.Prelude.{vec_len, vec_capacity}
use Rattle.std.specs.FinMap.Entries.{put}
use Rattle.craq_names.proofs.map.put_at.Given as goal

-- the insertion point is not before the visited items, and the list is unchanged
abbrev pub invariant-loop-place : goal.invariant-loop-place
invariant-loop-place g l = record {
  same : l.items.items ≡ l.fn.items.items;
  len : vec_len l.items ≡ vec_len l.fn.items;
  room : vec_capacity l.items ≡ vec_capacity l.fn.items;
  later : take l.place l.items.items ++ put g.K.Ord.cmp l.key l.value (drop l.place l.items.items) ≡ put g.K.Ord.cmp l.key l.value l.fn.items.items;
}
