-- Refusals of a call at a served store.
use Rattle.std.specs.Prelude.{◌≡◌, ◌≢◌, ◌<◌, ◌⊎◌, ℕ}
use Rattle.craq_names.specs.declared.name.NodeName.{NodeName}
use Rattle.craq_names.specs.declared.refusal.Refusal.{Refusal}
use Rattle.craq_names.specs.declared.refusal.Refusal.TheVariants.{Exhausted, Memory}
use Rattle.craq_model.specs.declared.ask.Ask.{Ask}
use Rattle.craq_workers.specs.Clients.{RefusesAsk}

-- a server that bounds passes by `most_leap` above those in earlier replies may not take the pass: it has such a bound, and the pass is
-- above it
abbrev pub Leaps : ℕ → ℕ → Type 0
Leaps most_leap pass = (most_leap ≢ 0) × (most_leap < pass)

-- the pass is too far above those in earlier replies, or the server is out of memory; or the refusal is that of a store of that many
-- chains
abbrev pub RefusesServed : ℕ → NodeName → Ask → Refusal → Type 0
RefusesServed chains node ask e = (e ≡ Exhausted) ⊎ ((e ≡ Memory) ⊎ RefusesAsk chains node ask e)
