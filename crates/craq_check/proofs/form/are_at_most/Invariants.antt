use Rattle.std.proofs.Common.{◌≡◌, drop}
use Rattle.std.specs.Prelude.{nat_le}
use Rattle.std.specs.List.{list_all}
use Rattle.craq_check.proofs.form.are_at_most.Given as goal

-- each so far is at most the number
abbrev pub invariant-loop-ask : goal.invariant-loop-ask
invariant-loop-ask l = list_all (λ a. nat_le a l.number) (drop l.ask-index l.asks) ≡ list_all (λ a. nat_le a l.number) l.asks
