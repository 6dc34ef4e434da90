-- The chains of a plan, without the memory of their names.
use Rattle.std.specs.Prelude.{ℕ, List, map, String, string_bytes}
use Rattle.std.specs.declared.alloc.Global.{Global}
use Rattle.craq_place.specs.Plan.{Chain}

-- a chain, without the memory of its name
abbrev pub chain_of : String Global × List ℕ → Chain
chain_of e = (string_bytes e.0, e.1)

-- chains, without the memory of their names
abbrev pub chains_of : List (String Global × List ℕ) → List Chain
chains_of es = map chain_of es
