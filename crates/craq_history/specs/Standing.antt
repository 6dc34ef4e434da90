-- A node's place in its chain, and its sends from there.
use Rattle.std.specs.Prelude.{ℕ, ◌==◌, if◌then◌else◌, List, [], ◌∷◌, ◌++◌, map}
use Rattle.craq_names.specs.declared.name.NodeName.{NodeName}
use Rattle.craq_commands.specs.declared.entry.Entry.{Entry}
use Rattle.craq_model.specs.declared.message.Body.{Body}
use Rattle.craq_model.specs.declared.message.Body.TheVariants as bodies
use Rattle.craq_model.specs.declared.step.Out.{Out}
use Rattle.craq_model.specs.declared.step.Out.TheVariants.{Send}
use Rattle.craq_model.specs.declared.waiting.WaitingRead.{WaitingRead}
use Rattle.craq_model.specs.Members.{last_of, successor_in, predecessor_in}
use Rattle.craq_model.specs.Sends.{to_neighbour, entry_bodies}

-- a message of a node in its epoch
abbrev pub sent_from : NodeName → ℕ → ℕ → Body → Out
sent_from name epoch to body =
    Send to (record { chain = name.chain; sender = name.node; receiver = to; stamp = 1; index = 0; epoch = epoch; body = body })

-- consecutive entries, then the length of the history
abbrev pub caught_up : NodeName → ℕ → List Entry → ℕ → ℕ → List Out
caught_up name epoch entries length to = map (sent_from name epoch to) (entry_bodies entries ++ bodies.Floor length ∷ [])

-- the sends that a ready node repeats
abbrev pub ready_outs : NodeName → ℕ → List ℕ → List Entry → ℕ → ℕ → List WaitingRead → List Out
ready_outs name epoch members entries length acknowledged reads =
    to_neighbour (successor_in members name.node) (caught_up name epoch entries length)
    ++ to_neighbour (predecessor_in members name.node) (λ to. sent_from name epoch to (bodies.Ack acknowledged) ∷ [])
    ++ (if last_of members == name.node then [] else map (λ (r : WaitingRead). sent_from name epoch (last_of members) (bodies.Query r.ticket r.key)) reads)

-- the sends that an unready node repeats
abbrev pub unready_outs : NodeName → ℕ → List ℕ → ℕ → List Out
unready_outs name epoch members length =
    to_neighbour (predecessor_in members name.node) (λ to. sent_from name epoch to (bodies.Blank length) ∷ [])
