-- The node that a word of a line of `craqd --control` names: CHAIN/N, for chains of these names.
use Rattle.std.specs.Prelude.{ℕ, ◌+◌, List, [], ◌∷◌, length, nat_lt, Option, Some, None, if◌then◌else◌}
use Rattle.craq_names.specs.Maps.{same_bytes}
use Rattle.craq_names.specs.declared.name.NodeName.{NodeName}
use Rattle.craq_script.specs.Reading.{◌>>=◌}
use Rattle.craq_script.specs.Words.{cut_at, number_up_to, greatest_chain, greatest_node}
use Rattle.craq_cli.specs.Numbers.{number_between}

-- the index of the first name that is this word, where the first of these names has index i
abbrev pub index_from : ℕ → List ℕ → List (List ℕ) → Option ℕ
index_from i word [] = None
index_from i word (name ∷ names) = if same_bytes name word then Some i else index_from (i + 1) word names

-- a number below the number of names
abbrev pub below : ℕ → ℕ → Option ℕ
below count n = if nat_lt n count then Some n else None

-- the index of a name; where the word is no name, the index that it spells
abbrev pub chain_or_index : List (List ℕ) → List ℕ → Option ℕ → Option ℕ
chain_or_index names word (Some index) = Some index
chain_or_index names word None = number_up_to greatest_chain word >>= below (length names)

-- the chain of this name or, where no chain has it, of this index
unfoldable pub chain_of : List (List ℕ) → List ℕ → Option ℕ
chain_of names word = chain_or_index names word (index_from 0 word names)

-- CHAIN/N, with N from 1 on
unfoldable pub node_of : List (List ℕ) → List ℕ → Option NodeName
node_of names word = do
  parts ← cut_at 47 word
  chain ← chain_of names parts.0
  node ← number_between 1 greatest_node parts.1
  Some (record { chain = chain; node = node })
