-- The promise of a world about its chains at all times.
use Rattle.std.specs.Prelude.{◌≡◌, ⊤, ℕ, ◌+◌, List, [], ◌∷◌}
use Rattle.std.specs.List.{AllZip}
use Rattle.craq_updates.specs.ValidEntries.{IsBeginning}
use Rattle.craq_runs.specs.Explain.{explain}
use Rattle.craq_runs.specs.Typed.{IsTypedRunOf}
use Rattle.craq_runs.specs.Valid.{IsValid}
use Rattle.craq_chain.specs.Chained.{Chained}
use Rattle.craq_chain_invariants.specs.Invariants.{HasInvariants}

-- the chain of this id has a run by the definitions, the explanation that `explain` chooses holds
-- of it, and the chain has its invariants
pub record ChainIsExplained (id : ℕ) (w : Chained) : Type 0 where
  pub own : w.chain ≡ id
  pub run : IsTypedRunOf id w.run
  pub valid : IsValid w.run (explain id w.run)
  pub invariants : HasInvariants id w.run

-- each chain is explained, with the ids from this one on
abbrev pub AreExplained : ℕ → List Chained → Type 0
AreExplained id [] = ⊤
AreExplained id (w ∷ ws) = ChainIsExplained id w × AreExplained (id + 1) ws

-- the explanation of the first is the beginning of that of the second
abbrev pub BeginsAs : Chained → Chained → Type 0
BeginsAs v w = IsBeginning (explain v.chain v.run) (explain w.chain w.run)

-- no explanation of any chain is taken back
abbrev pub NothingIsTakenBack : List Chained → List Chained → Type 0
NothingIsTakenBack old new = AllZip BeginsAs old new
