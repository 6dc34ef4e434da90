-- The encoding of commands: a tag, and what follows it.
use Rattle.std.specs.Prelude.{◌<◌, ◌^◌, ℕ, List, ◌++◌}
use Rattle.std.specs.List.{AllByRecursion}
use Rattle.std.specs.Int.{w8, w64}
use Rattle.craq_commands.specs.declared.command.Command.{Command}
use Rattle.craq_commands.specs.declared.command.Command.TheVariants.{Put, TestAndSet, Append, Prepend, Increment, Decrement, Mini}
use Rattle.craq_commands.specs.Transaction.{Transaction, IsWithinLimits}
use Rattle.craq_wire.specs.NumberEncoding.{number}
use Rattle.craq_wire.specs.PartEncoding.{value, object, pair, counted, IsValue, IsObject, IsPair}

-- the tag of a command
abbrev pub command_tag : Command → ℕ
command_tag (Put o v) = 1
command_tag (TestAndSet o expect v) = 2
command_tag (Append o v) = 3
command_tag (Prepend o v) = 4
command_tag (Increment o by) = 5
command_tag (Decrement o by) = 6
command_tag (Mini t) = 7

-- the compares, the reads and the writes, each list after a count of one byte
abbrev pub transaction : Transaction → List ℕ
transaction t =
    counted w8 (pair object (number w64)) t.compares ++ (counted w8 object t.reads ++ counted w8 (pair object value) t.writes)

-- the bytes after a command's tag
abbrev pub command_body : Command → List ℕ
command_body (Put o v) = object o ++ value v
command_body (TestAndSet o expect v) = object o ++ (number w64 expect ++ value v)
command_body (Append o v) = object o ++ value v
command_body (Prepend o v) = object o ++ value v
command_body (Increment o by) = object o ++ number w64 by
command_body (Decrement o by) = object o ++ number w64 by
command_body (Mini t) = transaction t

-- a command: its tag, and what follows it
unfoldable pub command : Command → List ℕ
command c = number w8 (command_tag c) ++ command_body c

-- the transaction is within its limits, and its lists hold parts of their kinds
pub record TransactionFits (t : Transaction) : Type 0 where
  pub limits : IsWithinLimits t
  pub compares : AllByRecursion (IsPair IsObject (λ version. version < 2 ^ 64)) t.compares
  pub reads : AllByRecursion IsObject t.reads
  pub writes : AllByRecursion (IsPair IsObject IsValue) t.writes

-- each part of the command is of its kind, and each number fits its width
abbrev pub CommandFits : Command → Type 0
CommandFits (Put o v) = IsObject o × IsValue v
CommandFits (TestAndSet o expect v) = IsObject o × (expect < 2 ^ 64) × IsValue v
CommandFits (Append o v) = IsObject o × IsValue v
CommandFits (Prepend o v) = IsObject o × IsValue v
CommandFits (Increment o by) = IsObject o × (by < 2 ^ 64)
CommandFits (Decrement o by) = IsObject o × (by < 2 ^ 64)
CommandFits (Mini t) = TransactionFits t
