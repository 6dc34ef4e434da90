-- States of a connection in which the bytes that were read have no whole frame left.
use Rattle.std.specs.Prelude.{⊤, ℕ, List}
use Rattle.craq_frames.specs.Frame.{IsPartial}
use Rattle.craq_event_loop.specs.declared.connection_state.Phase.{Phase}
use Rattle.craq_event_loop.specs.declared.connection_state.Phase.TheVariants as phases

-- no message and no call is left to be asked or answered, and of the next frame there is less than a frame; or it is over
abbrev pub IsStarved : Phase → List ℕ → Type 0
IsStarved phases.Idle input = IsPartial input
IsStarved (phases.Over why) input = ⊤
IsStarved phase input = ⊥
