-- Runs in which the membership never changes.
use Rattle.std.specs.Prelude.{⊤, List, [], ◌∷◌}
use Rattle.craq_runs.specs.declared.run.Move.{Move}
use Rattle.craq_runs.specs.declared.run.Move.TheVariants.{Ask, Deliver, Tick, Stop, Remove, Join}
use Rattle.craq_runs.specs.declared.run.Taken.{Taken}

-- the move is a request, a delivery or a tick
abbrev pub IsSteady : Move → Type 0
IsSteady (Ask node ask) = ⊤
IsSteady (Deliver number) = ⊤
IsSteady (Tick node) = ⊤
IsSteady (Stop node) = ⊥
IsSteady (Remove node) = ⊥
IsSteady (Join node) = ⊥

-- no node stops, is removed or joins
abbrev pub HasFixedMembership : List Taken → Type 0
HasFixedMembership [] = ⊤
HasFixedMembership (t ∷ ts) = IsSteady t.chosen × HasFixedMembership ts
