-- The view that contracts have of a client of a running store, and the refusals of its calls.
use Rattle.std.specs.Prelude.{◌≡◌, ◌<◌, ◌≤◌, ◌⊎◌, ◌+◌, ℕ, List, Result, Ok, Err}
use Rattle.craq_names.specs.declared.name.NodeName.{NodeName}
use Rattle.craq_names.specs.declared.refusal.Refusal.{Refusal}
use Rattle.craq_names.specs.declared.refusal.Refusal.TheVariants.{UnknownChain}
use Rattle.craq_seat.specs.RefusedCalls.{CanRefuse}
use Rattle.craq_model.specs.declared.ask.Ask.{Ask}
use Rattle.craq_store_history.specs.declared.entry.HistoryEntry.{HistoryEntry}

-- the number of chains of the client's store, with ids from 0; the largest stamp that the client has seen; the number of its session;
-- the number of calls that it made, and the history that it has seen
pub record Asker : Type 0 where
  pub chains : ℕ
  pub pass : ℕ
  pub client : ℕ
  pub made : ℕ
  pub seen : List HistoryEntry

-- the client made one call more; or none, where it was refused first
abbrev pub MakesOne : {X : Type 0} → ℕ → Result X Refusal → ℕ → Type 0
MakesOne old (Ok x) new = new ≡ old + 1
MakesOne old (Err e) new = (new ≡ old) ⊎ (new ≡ old + 1)

-- the refusals of a request at a node in a store of that many chains: it has no such chain; or it has it, and such a request may be
-- refused so
abbrev pub RefusesAsk : ℕ → NodeName → Ask → Refusal → Type 0
RefusesAsk chains node ask e = ((e ≡ UnknownChain) × (chains ≤ node.chain)) ⊎ ((node.chain < chains) × CanRefuse ask e)
