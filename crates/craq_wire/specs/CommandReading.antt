-- Reads commands from left to right.
use Rattle.std.specs.Prelude.{ℕ, List, Option, Some, None, ◌==◌, if◌then◌else◌}
use Rattle.std.specs.Int.{w8, w64}
use Rattle.std.specs.Result.{result_ok}
use Rattle.craq_names.specs.declared.name.ObjectId.{ObjectId}
use Rattle.craq_commands.specs.declared.command.Command.{Command}
use Rattle.craq_commands.specs.declared.command.Command.TheVariants.{Put, TestAndSet, Append, Prepend, Increment, Decrement, Mini}
use Rattle.craq_commands.specs.Transaction.{Transaction, mini_of}
use Rattle.craq_wire.specs.NumberReading.{◌>>=◌, number_at}
use Rattle.craq_wire.specs.PartReading.{value_at, object_at, pair_at, counted_at, mapped}

-- the transaction with these lists
abbrev pub transaction_of : List (ObjectId × ℕ) × (List ObjectId × List (ObjectId × List ℕ)) → Transaction
transaction_of x = record { compares = x.0; reads = x.1.0; writes = x.1.1 }

-- the transaction at the front: three lists within its limits
unfoldable pub transaction_at : List ℕ → Option (Transaction × List ℕ)
transaction_at bytes = do
  lists ← pair_at (counted_at w8 (pair_at object_at (number_at w64))) (pair_at (counted_at w8 object_at) (counted_at w8 (pair_at object_at value_at))) bytes
  t ← result_ok (mini_of (transaction_of lists.0))
  Some (t, lists.1)

-- decodes the bytes after a command's tag
unfoldable pub command_body_at : ℕ → List ℕ → Option (Command × List ℕ)
command_body_at tag bytes =
    if tag == 1 then mapped (λ (x : ObjectId × List ℕ). Put x.0 x.1) (pair_at object_at value_at bytes)
    else if tag == 2 then mapped (λ (x : ObjectId × (ℕ × List ℕ)). TestAndSet x.0 x.1.0 x.1.1) (pair_at object_at (pair_at (number_at w64) value_at) bytes)
    else if tag == 3 then mapped (λ (x : ObjectId × List ℕ). Append x.0 x.1) (pair_at object_at value_at bytes)
    else if tag == 4 then mapped (λ (x : ObjectId × List ℕ). Prepend x.0 x.1) (pair_at object_at value_at bytes)
    else if tag == 5 then mapped (λ (x : ObjectId × ℕ). Increment x.0 x.1) (pair_at object_at (number_at w64) bytes)
    else if tag == 6 then mapped (λ (x : ObjectId × ℕ). Decrement x.0 x.1) (pair_at object_at (number_at w64) bytes)
    else if tag == 7 then mapped Mini (transaction_at bytes)
    else None

-- a tag, and what follows it
unfoldable pub command_at : List ℕ → Option (Command × List ℕ)
command_at bytes = do
  tag ← number_at w8 bytes
  command_body_at tag.0 tag.1
