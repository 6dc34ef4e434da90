-- The status of a store as JSON.
use Rattle.std.specs.Prelude.{◌≡◌, ℕ, List, map, codes, string_bytes}
use Rattle.serde_json.specs.Data.{Data, number, unsigned, string, array, object, member, no_members}
use Rattle.serde_json.specs.View.{items_of}
use Rattle.serde_json.specs.Written.{compact_text}
use Rattle.craq_locked_chain.specs.Membered.{AreMembershipsOf}
use Rattle.craq_workers.specs.declared.store.ChainStatus.{ChainStatus}
use Rattle.craq_workers.specs.Stores.{Stored}

abbrev pub member_data : ℕ → Data
member_data id = number (unsigned id)

abbrev pub members_data : List ℕ → Data
members_data ids = array (items_of (map member_data ids))

-- a chain: its epoch, its members and its name
abbrev pub chain_data : ChainStatus → Data
chain_data chain =
    object (member (codes "epoch") (number (unsigned chain.config.epoch)) (member (codes "members") (members_data chain.config.members) (member (codes "name") (string (string_bytes chain.name)) no_members)))

unfoldable pub status_data : List ChainStatus → Data
status_data chains = object (member (codes "chains") (array (items_of (map chain_data chains))) no_members)

-- the compact JSON of a status
unfoldable pub status_text : List ChainStatus → List ℕ
status_text chains = compact_text (status_data chains)

-- the text is that of the store's chains by name, in order, each with a membership that its master has after some steps
abbrev pub TellsStatus : Stored → List ℕ → Type 0
TellsStatus store text =
    (chains : List ChainStatus) × (map (λ (c : ChainStatus). string_bytes c.name) chains ≡ store.names)
    × AreMembershipsOf store.masters (map (λ (c : ChainStatus). c.config) chains) × (text ≡ status_text chains)
