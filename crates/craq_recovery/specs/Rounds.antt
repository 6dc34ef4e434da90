-- Rounds of a chain: the moves of a clock that ticks and of a network that loses nothing for a
-- while.
use Rattle.std.specs.Prelude.{ℕ, zero, suc, ◌+◌, if◌then◌else◌, List, [], ◌∷◌, ◌++◌, length, drop}
use Rattle.craq_model.specs.Plain.{Plain}
use Rattle.craq_model.specs.declared.message.LinkMessage.{LinkMessage}
use Rattle.craq_runs.specs.Chain.{Chain, is_running, node_at}
use Rattle.craq_runs.specs.declared.run.Move.{Move}
use Rattle.craq_runs.specs.declared.run.Move.TheVariants.{Deliver, Tick}

-- the effect of one move on a chain; in the store it is `after_move`
abbrev pub Rule : Type 0
Rule = Chain → Move → Chain

-- moves by a rule, one after the other
abbrev pub after_moves_by : Rule → Chain → List Move → Chain
after_moves_by rule c [] = c
after_moves_by rule c (m ∷ ms) = after_moves_by rule (rule c m) ms

-- ticks of those nodes that run
abbrev pub ticks_of : List Plain → List ℕ → List Move
ticks_of nodes [] = []
ticks_of nodes (id ∷ ids) = if is_running (node_at nodes id) then Tick id ∷ ticks_of nodes ids else ticks_of nodes ids

-- the master ticks, and then each member that runs
abbrev pub ticks : Chain → List Move
ticks c = Tick 0 ∷ ticks_of c.nodes c.members

-- messages arrive, each once and in order, the first of them under this number; none arrives at a
-- stopped node
abbrev pub arrivals_of : List Plain → ℕ → List LinkMessage → List Move
arrivals_of nodes number [] = []
arrivals_of nodes number (m ∷ ms) =
    if is_running (node_at nodes m.receiver) then Deliver number ∷ arrivals_of nodes (number + 1) ms else arrivals_of nodes (number + 1) ms

-- all messages but the first `sent` arrive
unfoldable pub arrivals : Chain → ℕ → List Move
arrivals c sent = arrivals_of c.nodes (sent + 1) (drop sent c.messages)

-- in each of count hops, the messages sent since the last hop arrive; the messages that the last
-- hop sends are lost
abbrev pub hops : Rule → ℕ → ℕ → Chain → List Move
hops rule zero sent c = []
hops rule (suc count) sent c = arrivals c sent ++ hops rule count (length c.messages) (after_moves_by rule c (arrivals c sent))

-- a round of count hops: all tick, and then messages travel
unfoldable pub round : Rule → ℕ → Chain → List Move
round rule count c = ticks c ++ hops rule count (length c.messages) (after_moves_by rule c (ticks c))

-- the chain after this number of rounds of count hops
abbrev pub after_rounds : Rule → ℕ → ℕ → Chain → Chain
after_rounds rule count zero c = c
after_rounds rule count (suc rounds) c = after_rounds rule count rounds (after_moves_by rule c (round rule count c))
