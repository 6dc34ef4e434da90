-- Updates that wait for a reply.
use Rattle.std.specs.Prelude.{ℕ, nat_le, Bool, true, ◌&&◌, List, [], ◌∷◌}
use Rattle.craq_model.specs.declared.waiting.WaitingUpdate.{WaitingUpdate}

-- the updates in the order of their requests, and how many more have reserved room
pub record Waiting : Type 0 where
  pub items : List WaitingUpdate
  pub room : ℕ

-- no position is below the one before it, nor the first below this one
abbrev pub rise_from : ℕ → List WaitingUpdate → Bool
rise_from low [] = true
rise_from low (u ∷ us) = nat_le low u.position && rise_from u.position us

-- the positions never fall
abbrev pub rise : List WaitingUpdate → Bool
rise us = rise_from 0 us
