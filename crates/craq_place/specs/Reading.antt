-- Reads a plan from the data that TOML reads in a text.
use Rattle.std.specs.Prelude.{◌≡◌, ◌⊎◌, ◌&&◌, ◌||◌, ◌==◌, nat_le, Bool, not, ℕ, ℤ, pos, negsuc, List, [], ◌∷◌, ◌++◌, length, codes, Option, Some, None, option_and_then, Result, Ok, Err, if◌then◌else◌}
use Rattle.std.specs.List.{list_any, list_all}
use Rattle.std.specs.Str.{bytes_eq}
use Rattle.craq_names.specs.Limits.{greatest_count, member_limit}
use Rattle.craq_names.specs.declared.refusal.Refusal.{Refusal}
use Rattle.craq_names.specs.declared.refusal.Refusal.TheVariants.{Memory, BadConfig}
use Rattle.craq_epochs.specs.Doubles.{stands_twice}
use Rattle.toml.specs.Data.{Data, Items, no_items, item, Members, no_members, member, as_integer, as_str, as_array, as_table}
use Rattle.craq_place.specs.Plan.{Chain, is_name}

-- a function's result is what the data stands for; on an error it stands for nothing, or memory ran
-- out
abbrev pub Reads : {X Y : Type 0} → (X → Y) → Result X Refusal → Option Y → Type 0
Reads view (Ok x) o = o ≡ Some (view x)
Reads view (Err e) o = (e ≡ Memory) ⊎ ((e ≡ BadConfig) × (o ≡ None))

-- the integer, if it is from 0 to 2^32 - 1
abbrev pub in_range : ℤ → Option ℕ
in_range (pos n) = if nat_le n greatest_count then Some n else None
in_range (negsuc n) = None

-- the number for which the data stands
abbrev pub number_in : Data → Option ℕ
number_in d = option_and_then in_range (as_integer d)

-- the numbers of the items, after those in front
abbrev pub numbers_from : List ℕ → Items → Option (List ℕ)
numbers_from front no_items = Some front
numbers_from front (item d ds) = option_and_then (λ n. numbers_from (front ++ n ∷ []) ds) (number_in d)

-- the id of a node: at least 1, and of 32 bits
abbrev pub is_node : ℕ → Bool
is_node id = nat_le 1 id && nat_le id greatest_count

-- 1 to 8 nodes, none twice
unfoldable pub is_membership : List ℕ → Bool
is_membership ids = nat_le 1 (length ids) && (nat_le (length ids) member_limit && (list_all is_node ids && not (stands_twice ids)))

-- the two values of a table of exactly these two keys
abbrev pub fields_in : List ℕ → List ℕ → Members → Option (Data × Data)
fields_in k l no_members = None
fields_in k l (member a d no_members) = None
fields_in k l (member a d (member b e no_members)) = if bytes_eq a k && bytes_eq b l then Some (d, e) else None
fields_in k l (member a d (member b e (member c f ms))) = None

-- the value of a table of exactly this key
abbrev pub field_in : List ℕ → Members → Option Data
field_in k no_members = None
field_in k (member a d no_members) = if bytes_eq a k then Some d else None
field_in k (member a d (member b e ms)) = None

-- the name for which the data stands
abbrev pub name_in : Data → Option (List ℕ)
name_in d = option_and_then (λ n. if is_name n then Some n else None) (as_str d)

-- the nodes for which the data stands
abbrev pub nodes_in : Data → Option (List ℕ)
nodes_in d = option_and_then (λ ds. option_and_then (λ ns. if is_membership ns then Some ns else None) (numbers_from [] ds)) (as_array d)

-- the chain for which the data stands
unfoldable pub chain_in : Data → Option Chain
chain_in d =
    option_and_then (λ ms. option_and_then (λ f. option_and_then (λ n. option_and_then (λ ns. Some (n, ns)) (nodes_in f.1)) (name_in f.0)) (fields_in (codes "name") (codes "nodes") ms)) (as_table d)

-- a chain of this name is there
abbrev pub has_name : List ℕ → List Chain → Bool
has_name name chains = list_any (λ c. bytes_eq name c.0) chains

-- the chains of the items, after those in front
unfoldable pub chains_from : List Chain → Items → Option (List Chain)
chains_from front no_items = Some front
chains_from front (item d ds) =
    option_and_then (λ c. if has_name c.0 front || nat_le 64 (length front) then None else chains_from (front ++ c ∷ []) ds) (chain_in d)

-- the plan for which the table stands
unfoldable pub plan_in : Members → Option (List Chain)
plan_in ms =
    option_and_then (λ d. option_and_then (λ ds. option_and_then (λ cs. if length cs == 0 then None else Some cs) (chains_from [] ds)) (as_array d)) (field_in (codes "chain") ms)
