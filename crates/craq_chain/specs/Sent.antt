-- The messages of moves, and their count up to each move.
use Rattle.std.specs.Prelude.{ℕ, ◌+◌, List, [], ◌∷◌, ◌++◌, length}
use Rattle.craq_model.specs.declared.message.LinkMessage.{LinkMessage}
use Rattle.craq_runs.specs.declared.run.Taken.{Taken}
use Rattle.craq_runs.specs.Chain.{sent_in}

-- the messages that moves sent, in order
abbrev pub sent_by : List Taken → List LinkMessage
sent_by [] = []
sent_by (t ∷ ts) = sent_in t.step.outs ++ sent_by ts

-- the count of messages up to each move, starting from the count before
abbrev pub counts_from : ℕ → List Taken → List ℕ
counts_from before [] = []
counts_from before (t ∷ ts) = (before + length (sent_in t.step.outs)) ∷ counts_from (before + length (sent_in t.step.outs)) ts
