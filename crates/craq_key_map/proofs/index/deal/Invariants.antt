use Rattle.std.proofs.Common.{◌≡◌, ◌++◌, take}
use Rattle.craq_key_map.specs.Indexed.{slots_going, slots_staying}
use Rattle.craq_key_map.proofs.index.deal.Given as goal

-- the slots before the index are copied
abbrev pub invariant-loop-index : goal.invariant-loop-index
invariant-loop-index l = record {
  rest : l.rest.items ≡ l.initial.rest.items ++ slots_staying l.layout.half l.layout.count (take l.index l.bucket);
  next : l.next.items ≡ l.initial.next.items ++ slots_going l.layout.half l.layout.count (take l.index l.bucket);
}
