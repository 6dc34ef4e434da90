-- The index of clients' entries.
use Rattle.std.specs.Prelude.{◌≡◌, ℕ, ◌+◌, ◌-◌, ◌≤◌, ◌==◌, if◌then◌else◌, List, [], ◌∷◌, length, take, Option, unwrap_or}
use Rattle.std.specs.Map.{lookup}
use Rattle.std.specs.BTreeMap.{is_at}
use Rattle.std.specs.Ordering.{nat_cmp}
use Rattle.craq_commands.specs.declared.entry.Entry.{Entry}

-- positions, sorted by client
abbrev pub Placed : Type 0
Placed = List (ℕ × List ℕ)

abbrev pub place_of : Placed → ℕ → Option (List ℕ)
place_of ps client = lookup (is_at (nat_cmp client)) ps

-- the indexed positions of a client
abbrev pub noted_of : Placed → ℕ → List ℕ
noted_of ps client = unwrap_or (place_of ps client) []

-- the positions of a client's entries, among entries that follow a position
unfoldable pub positions_of : ℕ → ℕ → List Entry → List ℕ
positions_of client after [] = []
positions_of client after (e ∷ es) = if e.client == client then (after + 1) ∷ positions_of client (after + 1) es else positions_of client (after + 1) es

-- positions of the entries after one position, up to another
pub record Indexed : Type 0 where
  pub from : ℕ
  pub to : ℕ
  pub places : Placed

-- the index is right: it holds the positions of each client's entries after `from`, up to `to`
pub record Tells (x : Indexed) (entries : List Entry) : Type 0 where
  pub from : x.from ≤ x.to
  pub to : x.to ≤ x.from + length entries
  pub positions : (client : ℕ) → noted_of x.places client ≡ positions_of client x.from (take (x.to - x.from) entries)
