-- The plain node that a node represents.
use Rattle.std.specs.Prelude.{true}
use Rattle.craq_model.specs.Plain.{Plain}
use Rattle.craq_history.specs.declared.node.Node.{Node}
use Rattle.craq_model.specs.Past.{Past}

-- a running node, with the past that its history represents
abbrev pub plain_of : {H : Type 0} → (H → Past) → Node H → Plain
plain_of past n =
    record {
      name = n.name;
      epoch = n.epoch;
      members = n.members;
      ready = n.ready;
      past = past n.history;
      floor = n.floor;
      gathering = n.gathering;
      last_ticket = n.last_ticket;
      waiting_updates = n.waiting_updates.items;
      waiting_reads = n.waiting_reads.items;
      running = true;
    }
