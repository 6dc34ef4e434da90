-- The chain of an object or a transaction.
use Rattle.std.specs.Prelude.{ℕ, ◌==◌, nat_lt, Bool, not, List, [], ◌∷◌, ◌++◌, length, Option, Some, None, Result, Ok, Err, if◌then◌else◌, slice_get}
use Rattle.std.specs.List.{list_any}
use Rattle.std.specs.Option.{ok_or}
use Rattle.craq_names.specs.declared.name.ObjectId.{ObjectId}
use Rattle.craq_names.specs.declared.refusal.Refusal.{Refusal}
use Rattle.craq_names.specs.declared.refusal.Refusal.TheVariants.{UnknownChain, TwoChains}
use Rattle.craq_commands.specs.Transaction.{Transaction, compared, written}
use Rattle.craq_place.specs.Plan.{Chain}

-- the chain of this index, counted from 0
abbrev pub chain_at : List Chain → ℕ → Result Chain Refusal
chain_at chains id = ok_or (slice_get chains id) UnknownChain

-- the objects of a transaction, in the order of its lists
abbrev pub objects_of : Transaction → List ObjectId
objects_of t = compared t ++ (t.reads ++ written t)

-- the object is on another chain
abbrev pub is_of_another : ℕ → ObjectId → Bool
is_of_another chain o = not (o.chain == chain)

-- one of the objects is on another chain
abbrev pub goes_elsewhere : List ObjectId → ℕ → Bool
goes_elsewhere os chain = list_any (is_of_another chain) os

-- the chain of the first object, if it exists and all other objects are on it
abbrev pub chain_of_all : List Chain → List ObjectId → Result ℕ Refusal
chain_of_all chains [] = Err UnknownChain
chain_of_all chains (o ∷ os) =
    if not (nat_lt o.chain (length chains)) then Err UnknownChain
    else if goes_elsewhere os o.chain then Err TwoChains
    else Ok o.chain

-- the chain of the first object
abbrev pub first_chain_of : List ObjectId → Option ℕ
first_chain_of [] = None
first_chain_of (o ∷ os) = Some o.chain
