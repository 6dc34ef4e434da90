-- The sizes of the runs and parts in which entries and states are sent.
use Rattle.std.specs.Prelude.{ℕ, List, [], ◌∷◌, length, map, replicate}
use Rattle.craq_commands.specs.declared.entry.Entry.{Entry}
use Rattle.craq_commands.specs.declared.state.State.{State}
use Rattle.craq_model.specs.declared.message.StatePart.{StatePart}
use Rattle.craq_model.specs.Parts.{item_count, parts_of}
use Rattle.craq_model.specs.Sends.{runs_of}
use Rattle.craq_examples.specs.Steps.{first_entry}

-- the lengths of the runs of `count` entries
abbrev pub run_lengths : ℕ → List ℕ
run_lengths count = map (λ (run : List Entry). length run) (runs_of (replicate count first_entry))

-- a state of this many objects, with replies kept for this many clients
abbrev pub state_of : ℕ → ℕ → State
state_of objects clients = record { objects = replicate objects (107 ∷ [], (1, 97 ∷ [])); kept = replicate clients (1, []) }

-- the number of items in each part of that state
abbrev pub part_counts : ℕ → ℕ → List ℕ
part_counts objects clients = map (λ (p : StatePart). item_count p.state) (parts_of 1 (state_of objects clients))
