-- The invariants of a running chain's parts.
use Rattle.std.specs.Prelude.{◌≡◌, ℕ, List, length}
use Rattle.std.specs.List.{AllByRecursion}
use Rattle.craq_model.specs.Plain.{Plain}
use Rattle.craq_model.specs.Encodable.{IsEncodable}
use Rattle.craq_epochs.specs.Mastered.{Mastered}
use Rattle.craq_runs.specs.Typed.{IsTypedRunOf}
use Rattle.craq_chain.specs.Chained.{Chained, chain_of_run}
use Rattle.craq_chain.specs.Parts.{AreParts}
use Rattle.craq_chain.specs.Sent.{counts_from, sent_by}

-- the parts stand for the chain to which the run leads, and the counts are those of its messages
pub record IsStanding {C : Type 0} (represents : C → Plain → Type 0) (cores : List C) (m : Mastered) (sent : List ℕ) (w : Chained) : Type 0 where
  pub parts : AreParts represents cores m (chain_of_run w)
  pub run : IsTypedRunOf w.chain w.run
  pub counts : sent ≡ counts_from 0 w.run.moves
  pub messages : (chain_of_run w).messages ≡ sent_by w.run.moves
  pub moves : (chain_of_run w).moves ≡ length w.run.moves
  pub spelled : AllByRecursion IsEncodable (sent_by w.run.moves)
