-- Kept replies by client, with reserved room.
use Rattle.std.specs.Prelude.{◌≡◌, ℕ, ◌≤◌, ◌==◌, false, List, [], ◌∷◌, map, Option, Some, None, unwrap_or}
use Rattle.std.specs.Borrow.{Bor}
use Rattle.craq_names.specs.Maps.{at_number}
use Rattle.craq_names.specs.Places.{filled}
use Rattle.craq_commands.specs.Kept.{Window}
use Rattle.craq_replies.specs.Held.{Held}

pub record Replies : Type 0 where
  pub kept : List (ℕ × Window)  -- the clients with replies, sorted
  pub rooms : List (ℕ × ℕ)  -- by client, the number of further replies that need no allocation

-- the replies kept for a client
abbrev pub window_of : Replies → ℕ → Window
window_of t client = unwrap_or (at_number t.kept client) []

-- the number of further replies to a client that need no allocation
abbrev pub room_at : Replies → ℕ → ℕ
room_at t client = unwrap_or (at_number t.rooms client) 0

-- no client has less room than before
abbrev pub KeepsRoom : Replies → Replies → Type 0
KeepsRoom s t = (q : ℕ) → room_at s q ≤ room_at t q

-- no other client has less room than before
abbrev pub KeepsOthersRoom : Replies → Replies → ℕ → Type 0
KeepsOthersRoom s t client = (q : ℕ) → (client == q) ≡ false → room_at s q ≤ room_at t q

abbrev pub unless_empty : Window → Option Window
unless_empty [] = None
unless_empty (k ∷ ks) = Some (k ∷ ks)

-- a slot's replies, if there are some
abbrev pub shown : Held → Option Window
shown h = unless_empty h.replies

abbrev pub Entries : Type 0
Entries = List (ℕ × Held)

-- the table of these slots; a slot without replies only reserves room
abbrev pub table_of : Entries → Replies
table_of es = record { kept = filled shown es; rooms = map (λ (e : ℕ × Held). (e.0, e.1.room)) es }

-- a client with its slot's borrowed replies
abbrev pub shown_pair : ℕ × Bor Window → ℕ × Window
shown_pair p = (p.0, p.1.now)
