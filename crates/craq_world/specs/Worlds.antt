-- A world: running chains, numbered from 0.
use Rattle.std.specs.Prelude.{◌≡◌, ◌≤◌, ⊤, ℕ, ◌+◌, List, [], ◌∷◌, length, set, Option, Some, None, Result, Ok, Err, slice_get}
use Rattle.std.specs.List.{AllByRecursion}
use Rattle.craq_names.specs.Order.{RefusesWhere}
use Rattle.craq_names.specs.declared.refusal.Refusal.{Refusal}
use Rattle.craq_names.specs.declared.refusal.Refusal.TheVariants.{UnknownChain}
use Rattle.craq_model.specs.Members.{IsMembership}
use Rattle.craq_runs.specs.declared.run.Move.{Move}
use Rattle.craq_runs.specs.Typed.{IsTypedRunOf}
use Rattle.craq_chain.specs.Chained.{Chained, Finds, after_taking, chain_of_run, opened_chain}

-- the chains have the ids from this one on, and each has a run by the definitions
abbrev pub AreRunning : ℕ → List Chained → Type 0
AreRunning id [] = ⊤
AreRunning id (w ∷ ws) = (w.chain ≡ id) × IsTypedRunOf w.chain w.run × AreRunning (id + 1) ws

-- chains of these members before any move, with the ids from this one on
abbrev pub opened_from : ℕ → List (List ℕ) → List Chained
opened_from id [] = []
opened_from id (members ∷ others) = opened_chain id members ∷ opened_from (id + 1) others

-- the chains, with this one in its place
abbrev pub with_chain : List Chained → ℕ → Result Chained Refusal → Result (List Chained) Refusal
with_chain ws id (Ok w) = Ok (set ws id w)
with_chain ws id (Err e) = Err e

-- a move of one chain: every other one stays
abbrev pub move_of : List Chained → ℕ → Move → Option Chained → Result (List Chained) Refusal
move_of ws id m None = Err UnknownChain
move_of ws id m (Some w) = with_chain ws id (after_taking w m)

-- a move of the chain of this id
abbrev pub world_move : List Chained → ℕ → Move → Result (List Chained) Refusal
world_move ws id m = move_of ws id m (slice_get ws id)

-- the number of moves that a chain has taken
abbrev pub moves_in : Option Chained → ℕ
moves_in None = 0
moves_in (Some w) = length w.run.moves

-- the world has the chain, and the chain has the node of a move and was sent its message
abbrev pub FindsIn : Option Chained → Move → Type 0
FindsIn None m = ⊥
FindsIn (Some w) m = Finds (chain_of_run w) m

-- the search found them, or refuses the move as the world does
abbrev pub HasFoundIn : List Chained → ℕ → Move → Result Unit Refusal → Type 0
HasFoundIn ws id m (Ok done) = FindsIn (slice_get ws id) m
HasFoundIn ws id m (Err e) = world_move ws id m ≡ Err e

-- the move was taken and has this number in its chain; or nothing changed, and it was refused as
-- wanted, or out of memory, which comes after the search for the chain, the node and the message
abbrev pub GivesWorld : List Chained → List Chained → ℕ → Move → Result ℕ Refusal → Type 0
GivesWorld old new id m (Ok number) = (world_move old id m ≡ Ok new) × (number ≡ moves_in (slice_get new id))
GivesWorld old new id m (Err e) = RefusesWhere (FindsIn (slice_get old id) m) e (world_move old id m) × (new ≡ old)

-- 1 to 64 chains can have these members
pub record AreChains (lists : List (List ℕ)) : Type 0 where
  pub some : 1 ≤ length lists
  pub few : length lists ≤ 64
  pub memberships : AllByRecursion IsMembership lists

-- the moves were taken or refused one after another, with these results
abbrev pub RunsTo : List Chained → List (ℕ × Move) → List (Result ℕ Refusal) → List Chained → Type 0
RunsTo old [] [] new = new ≡ old
RunsTo old [] (r ∷ rs) new = ⊥
RunsTo old (m ∷ ms) [] new = ⊥
RunsTo old (m ∷ ms) (r ∷ rs) new = (mid : List Chained) × GivesWorld old mid m.0 m.1 r × RunsTo mid ms rs new
