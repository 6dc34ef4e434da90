-- A node that adopts a membership, one that waits to become ready, and one that takes entries.
use Rattle.std.specs.Prelude.{◌≡◌, ◌≤◌, ℕ, List, [], None, false}
use Rattle.craq_model.specs.Plain.{Plain, length_of}

-- the node in another membership, with no floor and no gathered parts yet
abbrev pub in_membership : Plain → ℕ → List ℕ → Plain
in_membership p epoch members = record p { epoch = epoch; members = members; floor = None; gathering = None }

-- no request waits at the node
pub record IsIdle (p : Plain) : Type 0 where
  pub updates : p.waiting_updates ≡ []
  pub reads : p.waiting_reads ≡ []

-- a node that can take entries: it holds its committed entries, and while it is not ready no
-- request waits at it
pub record CanTakeEntries (p : Plain) : Type 0 where
  pub idle : p.ready ≡ false → IsIdle p
  pub within : p.past.acknowledged ≤ length_of p
