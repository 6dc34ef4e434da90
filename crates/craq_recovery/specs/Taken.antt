-- Moves that are taken.
use Rattle.std.specs.Prelude.{◌≡◌, ◌≢◌, ⊤, ℕ, zero, suc, List, [], ◌∷◌, Result, Ok, Err}
use Rattle.craq_names.specs.declared.refusal.Refusal.{Refusal}
use Rattle.craq_names.specs.declared.refusal.Refusal.TheVariants.{Exhausted}
use Rattle.craq_runs.specs.Chain.{Chain, Progress, chain_step}
use Rattle.craq_runs.specs.Runs.{after_move}
use Rattle.craq_runs.specs.declared.run.Move.{Move}
use Rattle.craq_recovery.specs.Rounds.{after_moves_by, round}

-- a move is taken, or refused only because counters are exhausted
abbrev pub IsTaken : Result Progress Refusal → Type 0
IsTaken (Ok x) = ⊤
IsTaken (Err e) = e ≡ Exhausted

-- each of these moves, one after the other, is taken, or refused only because counters are
-- exhausted
abbrev pub AreTakenInOrder : Chain → List Move → Type 0
AreTakenInOrder c [] = ⊤
AreTakenInOrder c (m ∷ ms) = IsTaken (chain_step c m) × AreTakenInOrder (after_move c m) ms

-- none of these moves is refused because counters are exhausted
abbrev pub HaveNumbers : Chain → List Move → Type 0
HaveNumbers c [] = ⊤
HaveNumbers c (m ∷ ms) = (chain_step c m ≢ Err Exhausted) × HaveNumbers (after_move c m) ms

-- no move of this number of rounds of count hops is refused because counters are exhausted
abbrev pub HaveNumbersFor : ℕ → ℕ → Chain → Type 0
HaveNumbersFor count zero c = ⊤
HaveNumbersFor count (suc rounds) c = HaveNumbers c (round after_move count c) × HaveNumbersFor count rounds (after_moves_by after_move c (round after_move count c))
