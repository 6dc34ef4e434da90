-- The entries that a node forwards.
use Rattle.std.specs.Prelude.{ℕ, ◌+◌, List, map}
use Rattle.craq_names.specs.declared.name.NodeName.{NodeName}
use Rattle.craq_commands.specs.declared.entry.Entry.{Entry}
use Rattle.craq_commands.specs.declared.entry.Write.{Write}
use Rattle.craq_commands.specs.declared.reply.Reply.{Reply}
use Rattle.craq_model.specs.declared.step.Out.{Out}
use Rattle.craq_model.specs.Members.{successor_in}
use Rattle.craq_model.specs.Plain.{Plain, length_of, id_of}
use Rattle.craq_model.specs.Sends.{to_neighbour, entry_bodies}
use Rattle.craq_history.specs.Standing.{sent_from}

-- consecutive entries, to the successor if there is one
abbrev pub forwarded : NodeName → ℕ → List ℕ → List Entry → List Out
forwarded name epoch members es = to_neighbour (successor_in members name.node) (λ to. map (sent_from name epoch to) (entry_bodies es))

-- the entry of a new update with this outcome
abbrev pub entry_with : Plain → ℕ → ℕ → List Write × Reply → Entry
entry_with p client number outcome =
    record {
      position = length_of p + 1;
      origin_node = id_of p;
      origin_ticket = p.last_ticket + 1;
      client = client;
      number = number;
      reply = outcome.1;
      writes = outcome.0;
    }
