-- States what a play on locked nodes and a chain returns.
use Rattle.std.specs.Prelude.{◌≡◌, ⊤, ℕ, List, Result, Ok, Err}
use Rattle.craq_names.specs.declared.refusal.Refusal.{Refusal}
use Rattle.craq_names.specs.declared.refusal.Refusal.TheVariants.{Memory}
use Rattle.craq_play.specs.declared.fault.PlayFault.{PlayFault}
use Rattle.craq_play.specs.declared.fault.PlayFault.TheVariants.{Refused, Differs}
use Rattle.craq_play.specs.Played.{Plays}

-- the faults that can end the play of a parsed script: out of memory, or a locked node that differs from the
-- chain
abbrev pub EndsPlay : PlayFault → Type 0
EndsPlay (Refused e) = e ≡ Memory
EndsPlay Differs = ⊤

-- the result is that of the chain alone; or a locked node differs from the chain, and there is no
-- text
abbrev pub PlaysOnCells : {S : Type 0} → (S → List ℕ) → Result S PlayFault → Result (List ℕ) Refusal → Type 0
PlaysOnCells bytes (Ok text) wanted = Plays bytes (Ok text) wanted
PlaysOnCells bytes (Err (Refused e)) wanted = Plays bytes (Err e) wanted
PlaysOnCells bytes (Err Differs) wanted = ⊤
