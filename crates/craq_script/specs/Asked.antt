-- Gives the request of a script line, or the refusal before it is played.
use Rattle.std.specs.Prelude.{◌≡◌, ◌⊎◌, ℕ, ◌==◌, ◌&&◌, not, nat_le, Bool, List, [], ◌∷◌, map, length, Result, Ok, Err, if◌then◌else◌}
use Rattle.std.specs.List.{list_all, flat_map}
use Rattle.craq_names.specs.Limits.{value_limit}
use Rattle.craq_names.specs.declared.name.ObjectId.{ObjectId}
use Rattle.craq_names.specs.declared.refusal.Refusal.{Refusal}
use Rattle.craq_names.specs.declared.refusal.Refusal.TheVariants as refusals
use Rattle.craq_commands.specs.declared.command.Command.{Command}
use Rattle.craq_commands.specs.declared.command.Command.TheVariants as commands
use Rattle.craq_commands.specs.Transaction.{Transaction, mini_of}
use Rattle.craq_commands.specs.declared.read_mode.ReadMode.{ReadMode}
use Rattle.craq_model.specs.declared.ask.Ask.{Ask}
use Rattle.craq_model.specs.declared.ask.Ask.TheVariants as asks
use Rattle.craq_script.specs.declared.line.ScriptObject.{ScriptObject}
use Rattle.craq_script.specs.declared.line.MiniItem.{MiniItem}
use Rattle.craq_script.specs.declared.line.MiniItem.TheVariants as items
use Rattle.craq_script.specs.declared.line.ScriptCommand.{ScriptCommand}
use Rattle.craq_script.specs.declared.line.ScriptCommand.TheVariants as changes
use Rattle.craq_script.specs.declared.line.UpdateLine.{UpdateLine}

-- a key of 1 to 128 bytes
abbrev pub has_key : ScriptObject → Bool
has_key object = nat_le 1 (length object.key) && nat_le (length object.key) 128

-- a value of at most 4,096 bytes
abbrev pub is_value : List ℕ → Bool
is_value value = nat_le (length value) value_limit

abbrev pub item_object : MiniItem → ScriptObject
item_object (items.Compare object version) = object
item_object (items.Read object) = object
item_object (items.Write object value) = object

abbrev pub item_value : MiniItem → List (List ℕ)
item_value (items.Compare object version) = []
item_value (items.Read object) = []
item_value (items.Write object value) = value ∷ []

-- the objects that a change names, and the values that it gives
abbrev pub objects_named : ScriptCommand → List ScriptObject
objects_named (changes.Put object value) = object ∷ []
objects_named (changes.TestAndSet object expect value) = object ∷ []
objects_named (changes.Append object value) = object ∷ []
objects_named (changes.Prepend object value) = object ∷ []
objects_named (changes.Increment object by) = object ∷ []
objects_named (changes.Decrement object by) = object ∷ []
objects_named (changes.Mini items) = map item_object items

abbrev pub values_given : ScriptCommand → List (List ℕ)
values_given (changes.Put object value) = value ∷ []
values_given (changes.TestAndSet object expect value) = value ∷ []
values_given (changes.Append object value) = value ∷ []
values_given (changes.Prepend object value) = value ∷ []
values_given (changes.Increment object by) = []
values_given (changes.Decrement object by) = []
values_given (changes.Mini items) = flat_map item_value items

-- the object of this chain and this key
abbrev pub named : ScriptObject → ObjectId
named object = record { chain = object.chain; key = object.key }

abbrev pub item_compare : MiniItem → List (ObjectId × ℕ)
item_compare (items.Compare object version) = (named object, version) ∷ []
item_compare (items.Read object) = []
item_compare (items.Write object value) = []

abbrev pub item_read : MiniItem → List ObjectId
item_read (items.Compare object version) = []
item_read (items.Read object) = named object ∷ []
item_read (items.Write object value) = []

abbrev pub item_write : MiniItem → List (ObjectId × List ℕ)
item_write (items.Compare object version) = []
item_write (items.Read object) = []
item_write (items.Write object value) = (named object, value) ∷ []

-- the items sorted into three lists, each in order
abbrev pub lists_of : List MiniItem → Transaction
lists_of items = record { compares = flat_map item_compare items; reads = flat_map item_read items; writes = flat_map item_write items }

abbrev pub transaction_command : Result Transaction Refusal → Result Command Refusal
transaction_command (Ok transaction) = Ok (commands.Mini transaction)
transaction_command (Err refusal) = Err refusal

-- the command of a change whose keys and values are within their limits
unfoldable pub command_of : ScriptCommand → Result Command Refusal
command_of (changes.Put object value) = Ok (commands.Put (named object) value)
command_of (changes.TestAndSet object expect value) = Ok (commands.TestAndSet (named object) expect value)
command_of (changes.Append object value) = Ok (commands.Append (named object) value)
command_of (changes.Prepend object value) = Ok (commands.Prepend (named object) value)
command_of (changes.Increment object by) = Ok (commands.Increment (named object) by)
command_of (changes.Decrement object by) = Ok (commands.Decrement (named object) by)
command_of (changes.Mini items) = transaction_command (mini_of (lists_of items))

abbrev pub numbered : ℕ → ℕ → Result Command Refusal → Result Ask Refusal
numbered client number (Err refusal) = Err refusal
numbered client number (Ok command) =
    if number == 0 then Err refusals.BadNumber else Ok (asks.Update (record { client = client; number = number; command = command }))

-- the update that a line requests; of all refusals that apply, the one with the lowest number
unfoldable pub asked_update : UpdateLine → Result Ask Refusal
asked_update line =
    if not (list_all has_key (objects_named line.change)) then Err refusals.BadKey
    else (if not (list_all is_value (values_given line.change)) then Err refusals.ValueTooLong
    else numbered line.client line.number (command_of line.change))

-- the read that a line requests
unfoldable pub read_of : ReadMode → ScriptObject → Result Ask Refusal
read_of mode object = if not (has_key object) then Err refusals.BadKey else Ok (asks.Read mode (named object))

-- the result is the wanted one, or memory ran out
abbrev pub AskedOrRefused : {X Y : Type 0} → (X → Y) → Result X Refusal → Result Y Refusal → Type 0
AskedOrRefused view (Ok x) wanted = wanted ≡ Ok (view x)
AskedOrRefused view (Err e) wanted = (e ≡ refusals.Memory) ⊎ (wanted ≡ Err e)
