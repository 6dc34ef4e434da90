-- Calls that need no allocation.
use Rattle.std.specs.Prelude.{◌⊎◌, ⊤, ℕ, ◌+◌, ◌<◌, ◌≤◌, ◌==◌, if◌then◌else◌, List, [], ◌∷◌, length, unwrap_or}
use Rattle.std.specs.List.{AllByRecursion}
use Rattle.craq_names.specs.Maps.{at_key}
use Rattle.craq_commands.specs.declared.entry.Entry.{Entry}
use Rattle.craq_commands.specs.declared.entry.Write.{Write}
use Rattle.craq_model.specs.Past.{values_after}
use Rattle.craq_replies.specs.Replies.{Replies, room_at}
use Rattle.craq_compact_state.specs.Placed.{Placed, count_of}
use Rattle.craq_versions.specs.Tables as tables

-- there is room for the versions that these writes give each object
abbrev pub HasRoomForWrites : Placed → List Write → Type 0
HasRoomForWrites t ws = (key : List ℕ) → count_of ws key ≤ tables.room_at t key

-- there is room for the versions that these entries give each object; `rooms` gives the room of
-- each key
abbrev pub HasRoomForVersions : List (List ℕ × ℕ) → List Entry → Type 0
HasRoomForVersions rooms es = (key : List ℕ) → length (values_after es key) ≤ unwrap_or (at_key rooms key) 0

-- each object's room shrinks at most by the number of versions that these entries give it
abbrev pub KeepsRoomBut : List Entry → Placed → Placed → Type 0
KeepsRoomBut es t u = (key : List ℕ) → tables.room_at t key ≤ tables.room_at u key + length (values_after es key)

-- the number of a client's entries among these
unfoldable pub replies_to : List Entry → ℕ → ℕ
replies_to [] client = 0
replies_to (e ∷ es) client = (if e.client == client then 1 else 0) + replies_to es client

-- each client has at most one of the entries, and room for its reply
abbrev pub HasRoomForReplies : Replies → List Entry → Type 0
HasRoomForReplies t es = (client : ℕ) → (replies_to es client ≤ 1) × (replies_to es client ≤ room_at t client)

-- each object that the entry writes existed before it
abbrev pub IsRewrite : Entry → Type 0
IsRewrite e = AllByRecursion (λ (w : Write). 2 ≤ w.version) e.writes

-- the entry after a base can be applied without more room in lists: it is indexed, or writes only
-- existing objects
abbrev pub IsAppliable : ℕ → ℕ → Entry → Type 0
IsAppliable base indexed e = (base < indexed) ⊎ IsRewrite e

-- each of these entries can be applied without more room in lists, one after another
unfoldable pub AreAppliable : ℕ → ℕ → List Entry → Type 0
AreAppliable base indexed [] = ⊤
AreAppliable base indexed (e ∷ es) = IsAppliable base indexed e × AreAppliable (base + 1) indexed es
