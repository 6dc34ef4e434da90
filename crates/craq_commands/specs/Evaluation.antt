-- The writes and the reply of a command on a single copy of the objects.
use Rattle.std.specs.Prelude.{ℕ, ◌+◌, ◌-◌, ◌==◌, nat_lt, Bool, if◌then◌else◌, List, [], ◌∷◌, ◌++◌, length, map, Option, Some, None}
use Rattle.std.specs.List.{list_all, list_any}
use Rattle.std.specs.Int.{to_be_bytes, from_be_bytes, w64}
use Rattle.craq_names.specs.Limits.{greatest, value_limit}
use Rattle.craq_names.specs.declared.name.ObjectId.{ObjectId}
use Rattle.craq_commands.specs.declared.command.Command.{Command}
use Rattle.craq_commands.specs.declared.command.Command.TheVariants.{Put, TestAndSet, Append, Prepend, Increment, Decrement, Mini}
use Rattle.craq_commands.specs.declared.reply.Reply.{Reply}
use Rattle.craq_commands.specs.declared.reply.Reply.TheVariants.{Written, Mismatch, TooLong, NotANumber, Overflow, Underflow, Done, CompareFailed}
use Rattle.craq_commands.specs.Transaction.{Transaction}
use Rattle.craq_commands.specs.Objects.{Objects, object_of, version_of, value_of}

-- the writes, by key, and the reply
abbrev pub Outcome : Type 0
Outcome = List (List ℕ × List ℕ) × Reply

-- the object gets the value as its next version
abbrev pub writes_one : List ℕ → ℕ → List ℕ → Outcome
writes_one key version value = ((key, value) ∷ [], Written (version + 1))

-- nothing is written
abbrev pub writes_none : Reply → Outcome
writes_none reply = ([], reply)

-- writes the value if the version is the expected one
unfoldable pub tested : List ℕ → ℕ → List ℕ → ℕ → Outcome
tested key expect value version = if version == expect then writes_one key version value else writes_none (Mismatch version)

-- writes the joined value if it is not too long
unfoldable pub joined : List ℕ → List ℕ → ℕ → Outcome
joined key value version = if nat_lt value_limit (length value) then writes_none TooLong else writes_one key version value

-- an object's number: 0 if it is absent, the big-endian number if its value has 8 bytes
unfoldable pub number_in_bytes : ℕ → List ℕ → Option ℕ
number_in_bytes version value =
    if version == 0 then Some 0 else if length value == 8 then Some (from_be_bytes w64 value) else None

-- writes a number as 8 bytes, big-endian
abbrev pub writes_number : List ℕ → ℕ → ℕ → Outcome
writes_number key version n = writes_one key version (to_be_bytes w64 n)

unfoldable pub increased : List ℕ → ℕ → ℕ → Option ℕ → Outcome
increased key by version None = writes_none NotANumber
increased key by version (Some n) = if nat_lt greatest (n + by) then writes_none Overflow else writes_number key version (n + by)

unfoldable pub decreased : List ℕ → ℕ → ℕ → Option ℕ → Outcome
decreased key by version None = writes_none NotANumber
decreased key by version (Some n) = if nat_lt n by then writes_none Underflow else writes_number key version (n - by)

-- the number at a key
abbrev pub number_at : Objects → List ℕ → Option ℕ
number_at m key = number_in_bytes (version_of m key) (value_of m key)

-- the index of the first compare whose object has another version
unfoldable pub first_difference : Objects → ℕ → List (ObjectId × ℕ) → Option ℕ
first_difference m i [] = None
first_difference m i (c ∷ cs) = if version_of m c.0.key == c.1 then first_difference m (i + 1) cs else Some i

-- a transaction: its reads return the objects before its writes
unfoldable pub transacted : Objects → Transaction → Option ℕ → Outcome
transacted m t (Some i) = writes_none (CompareFailed i)
transacted m t None = (map (λ w. (w.0.key, w.1)) t.writes, Done (map (λ o. object_of m o.key) t.reads))

-- the writes and the reply of a command
abbrev pub eval : Objects → Command → Outcome
eval m (Put object value) = writes_one object.key (version_of m object.key) value
eval m (TestAndSet object expect value) = tested object.key expect value (version_of m object.key)
eval m (Append object value) = joined object.key (value_of m object.key ++ value) (version_of m object.key)
eval m (Prepend object value) = joined object.key (value ++ value_of m object.key) (version_of m object.key)
eval m (Increment object by) = increased object.key by (version_of m object.key) (number_at m object.key)
eval m (Decrement object by) = decreased object.key by (version_of m object.key) (number_at m object.key)
eval m (Mini t) = transacted m t (first_difference m 0 t.compares)

-- the objects that a command names: compared, then read, then written
abbrev pub objects_named : Command → List ObjectId
objects_named (Put object value) = object ∷ []
objects_named (TestAndSet object expect value) = object ∷ []
objects_named (Append object value) = object ∷ []
objects_named (Prepend object value) = object ∷ []
objects_named (Increment object by) = object ∷ []
objects_named (Decrement object by) = object ∷ []
objects_named (Mini t) = map (λ c. c.0) t.compares ++ t.reads ++ map (λ w. w.0) t.writes

-- the chain of the first object, 0 if there is none
abbrev pub chain_of_first : List ObjectId → ℕ
chain_of_first [] = 0
chain_of_first (object ∷ objects) = object.chain

-- each object is of the chain
unfoldable pub all_of_chain : ℕ → List ObjectId → Bool
all_of_chain chain objects = list_all (λ o. o.chain == chain) objects

-- some object is at the greatest version
unfoldable pub some_used_up : Objects → List ObjectId → Bool
some_used_up m objects = list_any (λ o. version_of m o.key == greatest) objects
