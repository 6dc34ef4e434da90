-- The plan that a text stands for.
use Rattle.std.specs.Prelude.{◌≡◌, ◌≤◌, ◌&&◌, ◌||◌, ◌==◌, nat_le, Bool, ℕ, List, map, length, codes, pos, Some, true}
use Rattle.std.specs.List.{AllByRecursion, IsDistinct, list_all}
use Rattle.craq_names.specs.Maps.{same_bytes}
use Rattle.craq_model.specs.Members.{IsMembership}
use Rattle.toml.specs.Data.{Data, string, integer, array, table, Members, no_members, member}
use Rattle.toml.specs.View.{items_of}
use Rattle.toml.specs.Parse.{parse_document}

-- a chain: its name's bytes, and its nodes, head first
abbrev pub Chain : Type 0
Chain = List ℕ × List ℕ

-- a letter, a digit, `_` or `-`
abbrev pub is_name_byte : ℕ → Bool
is_name_byte b =
    (nat_le 97 b && nat_le b 122) || ((nat_le 65 b && nat_le b 90) || ((nat_le 48 b && nat_le b 57) || ((b == 95) || (b == 45))))

-- 1 to 32 of these
abbrev pub is_name : List ℕ → Bool
is_name bytes = nat_le 1 (length bytes) && (nat_le (length bytes) 32 && list_all is_name_byte bytes)

-- a chain has a name and 1 to 8 nodes, none twice
pub record IsChain (c : Chain) : Type 0 where
  pub name : is_name c.0 ≡ true
  pub nodes : IsMembership c.1

-- 1 to 64 chains, no name twice
pub record IsPlan (chains : List Chain) : Type 0 where
  pub some : 1 ≤ length chains
  pub few : length chains ≤ 64
  pub each : AllByRecursion IsChain chains
  pub once : IsDistinct same_bytes (map (λ (c : Chain). c.0) chains)

-- the integer that stands for an id
abbrev pub node_data : ℕ → Data
node_data id = integer (pos id)

-- a table of exactly a name and nodes
abbrev pub chain_data : Chain → Data
chain_data c = table (member (codes "name") (string c.0) (member (codes "nodes") (array (items_of (map node_data c.1))) no_members))

-- a table of exactly an array of chains
abbrev pub plan_data : List Chain → Members
plan_data chains = member (codes "chain") (array (items_of (map chain_data chains))) no_members

-- TOML reads the text as these chains, and they are a plan
pub record IsPlanText (text : List ℕ) (chains : List Chain) : Type 0 where
  pub read : parse_document text ≡ Some (plan_data chains)
  pub plan : IsPlan chains
