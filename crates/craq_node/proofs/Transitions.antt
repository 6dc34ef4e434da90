-- The transition in a result.
use Rattle.std.specs.Prelude.{Result, Ok, Err}
use Rattle.craq_names.specs.declared.refusal.Refusal.{Refusal}
use Rattle.craq_model.specs.Settle.{Transition}

-- the transition, or another one if it was refused
abbrev pub transition_in : Transition → Result Transition Refusal → Transition
transition_in other (Ok t) = t
transition_in other (Err e) = other
