-- Defines the parse of a verb for people, or the first word that is not what is expected there. Places are counted from 0, where
-- the verb stands. Keys are any bytes.
use Rattle.std.specs.Prelude.{ℕ, ◌+◌, List, [], ◌∷◌, length, drop, codes, nat_le, Bool, Option, Some, None, is_some, Result, Ok, Err, if◌then◌else◌}
use Rattle.craq_names.specs.Limits.{greatest}
use Rattle.craq_names.specs.Maps.{same_bytes}
use Rattle.craq_script.specs.declared.line.ScriptObject.{ScriptObject}
use Rattle.craq_script.specs.declared.line.MiniItem.{MiniItem}
use Rattle.craq_script.specs.declared.line.ScriptCommand.{ScriptCommand}
use Rattle.craq_script.specs.declared.line.ScriptCommand.TheVariants as changes
use Rattle.craq_cli.specs.Numbers.{number_between}
use Rattle.craq_cli.specs.Commands.{◌>>=◌, expect, word_at, at_end}
use Rattle.craq_cli.specs.VerbItems.{value_word, verb_item}
use Rattle.craq_cli.specs.declared.expected.Expected.{Expected}
use Rattle.craq_cli.specs.declared.expected.Expected.TheVariants as expected
use Rattle.craq_cli.specs.declared.expected.BadWord.{BadWord}
use Rattle.craq_cli.specs.declared.task.Request.TheVariants as asks
use Rattle.craq_cli.specs.declared.task.Verb.{Verb}
use Rattle.craq_cli.specs.declared.task.Verb.TheVariants as verbs
use Rattle.craq_cli.specs.declared.task.VerbContext.{VerbContext}
use Rattle.craq_cli.specs.declared.verbs.VerbUpdate.{VerbUpdate}
use Rattle.craq_cli.specs.declared.verbs.VerbUpdate.TheVariants as updates
use Rattle.craq_cli.specs.declared.verbs.VerbName.{VerbName}
use Rattle.craq_cli.specs.declared.verbs.VerbName.TheVariants as names

-- an object of the chain, with any bytes as its key
abbrev pub key_word : ℕ → List ℕ → Option ScriptObject
key_word chain word = Some (record { chain = chain; key = word })

-- `KEY VALUE`
unfoldable pub object_and_value : VerbContext → List (List ℕ) → Result (ScriptObject × List ℕ) BadWord
object_and_value context words = do
  object ← word_at expected.Key (key_word context.chain) words 1
  value ← word_at expected.VerbValue (value_word context.form) words 2
  at_end (object, value) words 3

-- `KEY VERSION VALUE`
unfoldable pub compare_of : VerbContext → List (List ℕ) → Result ScriptCommand BadWord
compare_of context words = do
  object ← word_at expected.Key (key_word context.chain) words 1
  version ← word_at expected.Version (number_between 0 greatest) words 2
  value ← word_at expected.VerbValue (value_word context.form) words 3
  at_end (changes.TestAndSet object version value) words 4

-- `[BY]` at place 2, which is 1 if no word stands there
abbrev pub by_of : List (List ℕ) → Result ℕ BadWord
by_of words = if nat_le (length words) 2 then Ok 1 else word_at expected.By (number_between 0 greatest) words 2

-- `KEY [BY]`
unfoldable pub count_of : VerbContext → List (List ℕ) → Result (ScriptObject × ℕ) BadWord
count_of context words = do
  object ← word_at expected.Key (key_word context.chain) words 1
  by ← by_of words
  at_end (object, by) words 3

-- an item for each word, the first of which stands at the place
abbrev pub items_from : VerbContext → ℕ → List (List ℕ) → Result (List MiniItem) BadWord
items_from context place [] = Ok []
items_from context place (word ∷ words) = do
  item ← expect place expected.VerbItem (verb_item context.chain context.form word)
  items ← items_from context (place + 1) words
  Ok (item ∷ items)

-- the change of an update
unfoldable pub change_of : VerbContext → VerbUpdate → List (List ℕ) → Result ScriptCommand BadWord
change_of context updates.Set words = object_and_value context words >>= λ x. Ok (changes.Put x.0 x.1)
change_of context updates.Append words = object_and_value context words >>= λ x. Ok (changes.Append x.0 x.1)
change_of context updates.Prepend words = object_and_value context words >>= λ x. Ok (changes.Prepend x.0 x.1)
change_of context updates.CompareAndSet words = compare_of context words
change_of context updates.Add words = count_of context words >>= λ x. Ok (changes.Increment x.0 x.1)
change_of context updates.Subtract words = count_of context words >>= λ x. Ok (changes.Decrement x.0 x.1)
change_of context updates.Transaction words = items_from context 1 (drop 1 words) >>= λ items. Ok (changes.Mini items)

-- an update of the context's client and number, of a node that is chosen later
unfoldable pub ask_of : VerbContext → VerbUpdate → List (List ℕ) → Result Verb BadWord
ask_of context name words = do
  change ← change_of context name words
  Ok (verbs.Ask (asks.Update (record { node = 0; client = context.client; number = context.number; change = change })))

-- `KEY`, a read in the context's mode
unfoldable pub get_of : VerbContext → List (List ℕ) → Result Verb BadWord
get_of context words = do
  object ← word_at expected.Key (key_word context.chain) words 1
  at_end (verbs.Ask (asks.Read context.mode object)) words 2

-- the names of verbs
unfoldable pub verb_name : List ℕ → Option VerbName
verb_name word =
    if same_bytes word (codes "set") then Some (names.Update updates.Set)
    else (if same_bytes word (codes "get") then Some names.Get
    else (if same_bytes word (codes "cas") then Some (names.Update updates.CompareAndSet)
    else (if same_bytes word (codes "append") then Some (names.Update updates.Append)
    else (if same_bytes word (codes "prepend") then Some (names.Update updates.Prepend)
    else (if same_bytes word (codes "add") then Some (names.Update updates.Add)
    else (if same_bytes word (codes "sub") then Some (names.Update updates.Subtract)
    else (if same_bytes word (codes "txn") then Some (names.Update updates.Transaction)
    else (if same_bytes word (codes "members") then Some names.Members
    else (if same_bytes word (codes "health") then Some names.Health
    else None)))))))))

-- the options that have no meaning for a verb
abbrev pub meaningless_of : VerbName → List (List ℕ)
meaningless_of (names.Update updates.Add) = codes "mode" ∷ codes "hex" ∷ codes "decimal" ∷ []
meaningless_of (names.Update updates.Subtract) = codes "mode" ∷ codes "hex" ∷ codes "decimal" ∷ []
meaningless_of (names.Update _) = codes "mode" ∷ []
meaningless_of names.Get = codes "client" ∷ codes "number" ∷ []
meaningless_of names.Members = codes "node" ∷ codes "chain" ∷ codes "mode" ∷ codes "client" ∷ codes "number" ∷ codes "hex" ∷ codes "decimal" ∷ codes "print-pass" ∷ []
meaningless_of names.Health = codes "node" ∷ codes "mode" ∷ codes "number" ∷ codes "hex" ∷ codes "decimal" ∷ codes "print-pass" ∷ []

-- the options that have no meaning for the verb of this name
abbrev pub meaningless_by : Option VerbName → List (List ℕ)
meaningless_by None = []
meaningless_by (Some name) = meaningless_of name

abbrev pub meaningless_options : List ℕ → List (List ℕ)
meaningless_options word = meaningless_by (verb_name word)

-- true if a word is the name of a verb
abbrev pub is_verb_name : List ℕ → Bool
is_verb_name word = is_some (verb_name word)

-- a verb of this name
abbrev pub verb_as : VerbContext → List (List ℕ) → VerbName → Result Verb BadWord
verb_as context words (names.Update name) = ask_of context name words
verb_as context words names.Get = get_of context words
verb_as context words names.Members = at_end verbs.Members words 1
verb_as context words names.Health = at_end verbs.Health words 1

-- the verb that the words spell
unfoldable pub verb_of : VerbContext → List (List ℕ) → Result Verb BadWord
verb_of context words = word_at expected.Verb verb_name words 0 >>= verb_as context words
