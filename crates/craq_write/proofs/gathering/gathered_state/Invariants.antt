use Rattle.std.proofs.Common.{◌≡◌, ◌++◌, ℕ}
use Rattle.std.specs.List.{flat_map}
use Rattle.craq_commands.specs.declared.state.State.{State}
use Rattle.craq_write.proofs.gathering.gathered_state.Given as goal

-- the joined items and those of the remaining parts are all items
abbrev pub invariant-loop-state : goal.invariant-loop-state
invariant-loop-state l = record {
  objects : l.objects.items ++ flat_map (λ (held : ℕ × State). held.1.objects) l.state-iterator.rest.items ≡ flat_map (λ (held : ℕ × State). held.1.objects) l.fn.parts;
  kept : l.kept.items ++ flat_map (λ (held : ℕ × State). held.1.kept) l.state-iterator.rest.items ≡ flat_map (λ (held : ℕ × State). held.1.kept) l.fn.parts;
}
