-- Room for rounds: a bound, by what the chain holds, on the numbers that they use, and counters
-- that have these numbers left.
use Rattle.std.specs.Prelude.{ℕ, ◌+◌, ◌*◌, ◌≤◌, max, List, [], ◌∷◌, length}
use Rattle.craq_names.specs.Limits.{greatest, greatest_count}
use Rattle.craq_model.specs.Parts.{item_count}
use Rattle.craq_model.specs.Plain.{Plain, length_of, newest}
use Rattle.craq_runs.specs.Chain.{Chain}

-- the greatest count of a node, 0 if there is none
abbrev pub greatest_of : (Plain → ℕ) → List Plain → ℕ
greatest_of count [] = 0
greatest_of count (p ∷ ps) = max (count p) (greatest_of count ps)

-- the length of the longest history
abbrev pub longest_history : Chain → ℕ
longest_history c = greatest_of length_of c.nodes

-- the number of items of the largest state
abbrev pub largest_state : Chain → ℕ
largest_state c = greatest_of (λ (p : Plain). item_count (newest p)) c.nodes

-- the greatest number of reads that wait at a node
abbrev pub most_reads : Chain → ℕ
most_reads c = greatest_of (λ (p : Plain). length p.waiting_reads) c.nodes

-- a step sends at most this number of messages: one for each entry, item and waiting read, and two
-- more
abbrev pub step_sends : Chain → ℕ
step_sends c = longest_history c + largest_state c + most_reads c + 2

-- the ticks of a round send at most this number of messages, and so does each of its hops
abbrev pub hop_sends : Chain → ℕ
hop_sends c = 3 * (length c.members * (step_sends c + 1))

-- this number of rounds of count hops uses at most this number of message numbers and of move
-- numbers
abbrev pub spent : ℕ → ℕ → Chain → ℕ
spent count rounds c = rounds * ((count + 1) * (hop_sends c + 1))

-- the counters have these numbers left
pub record HasRoom (count rounds : ℕ) (c : Chain) : Type 0 where
  pub step : step_sends c ≤ greatest_count  -- a step's messages, by their index
  pub messages : length c.messages + spent count rounds c ≤ greatest
  pub moves : c.moves + spent count rounds c ≤ greatest
