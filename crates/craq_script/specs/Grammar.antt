-- Defines the grammar of a line: its words are separated by one or more spaces, and each form is
-- given by its words in order.
use Rattle.std.specs.Prelude.{ℕ, List, [], ◌∷◌, codes, Option, Some, None, option_map, if◌then◌else◌}
use Rattle.craq_names.specs.Limits.{greatest}
use Rattle.craq_names.specs.Maps.{same_bytes}
use Rattle.craq_script.specs.declared.line.ScriptObject.{ScriptObject}
use Rattle.craq_script.specs.declared.line.MiniItem.{MiniItem}
use Rattle.craq_script.specs.declared.line.ScriptCommand.{ScriptCommand}
use Rattle.craq_script.specs.declared.line.ScriptCommand.TheVariants as changes
use Rattle.craq_script.specs.declared.line.ScriptLine.{ScriptLine}
use Rattle.craq_script.specs.declared.line.ScriptLine.TheVariants as lines
use Rattle.craq_script.specs.Reading.{◌>>=◌}
use Rattle.craq_script.specs.Words.{greatest_node, number_up_to, script_object, script_value, mode_of, item_of}

-- the first word, and the words after it
abbrev pub next : List (List ℕ) → Option (List ℕ × List (List ℕ))
next [] = None
next (word ∷ words) = Some (word, words)

-- x, if no word is left
abbrev pub at_the_end : {A : Type 0} → A → List (List ℕ) → Option A
at_the_end x [] = Some x
at_the_end x (word ∷ words) = None

-- the next word as a number of at most `most`, and the words after it
unfoldable pub number_at : ℕ → List (List ℕ) → Option (ℕ × List (List ℕ))
number_at most words = do
  word ← next words
  n ← number_up_to most word.0
  Some (n, word.1)

-- the next word as an object, and the words after it
unfoldable pub object_at : List (List ℕ) → Option (ScriptObject × List (List ℕ))
object_at words = do
  word ← next words
  object ← script_object word.0
  Some (object, word.1)

-- VALUE, the last word
unfoldable pub value_last : List (List ℕ) → Option (List ℕ)
value_last words = do
  word ← next words
  value ← script_value word.0
  at_the_end value word.1

-- OBJECT VALUE
unfoldable pub object_and_value : List (List ℕ) → Option (ScriptObject × List ℕ)
object_and_value words = do
  object ← object_at words
  value ← value_last object.1
  Some (object.0, value)

-- OBJECT and a number of 64 bits
unfoldable pub object_and_number : List (List ℕ) → Option (ScriptObject × ℕ)
object_and_number words = do
  object ← object_at words
  n ← number_at greatest object.1
  at_the_end (object.0, n.0) n.1

-- OBJECT VERSION VALUE
unfoldable pub test_and_set_of : List (List ℕ) → Option ScriptCommand
test_and_set_of words = do
  object ← object_at words
  expect ← number_at greatest object.1
  value ← value_last expect.1
  Some (changes.TestAndSet object.0 expect.0 value)

-- an item for each word
abbrev pub items_of : List (List ℕ) → Option (List MiniItem)
items_of [] = Some []
items_of (word ∷ words) = do
  item ← item_of word
  items ← items_of words
  Some (item ∷ items)

-- a change by its first word; the words after it are OBJECT VALUE, OBJECT BY, OBJECT VERSION VALUE,
-- or items
unfoldable pub change_of : List ℕ → List (List ℕ) → Option ScriptCommand
change_of kind words =
    if same_bytes kind (codes "put") then option_map (λ x. changes.Put x.0 x.1) (object_and_value words)
    else (if same_bytes kind (codes "append") then option_map (λ x. changes.Append x.0 x.1) (object_and_value words)
    else (if same_bytes kind (codes "prepend") then option_map (λ x. changes.Prepend x.0 x.1) (object_and_value words)
    else (if same_bytes kind (codes "tas") then test_and_set_of words
    else (if same_bytes kind (codes "inc") then option_map (λ x. changes.Increment x.0 x.1) (object_and_number words)
    else (if same_bytes kind (codes "dec") then option_map (λ x. changes.Decrement x.0 x.1) (object_and_number words)
    else (if same_bytes kind (codes "mini") then option_map changes.Mini (items_of words)
    else None))))))

-- NODE CLIENT NUMBER and a change
unfoldable pub line_update : List ℕ → List (List ℕ) → Option ScriptLine
line_update kind words = do
  node ← number_at greatest_node words
  client ← number_at greatest node.1
  number ← number_at greatest client.1
  change ← change_of kind number.1
  Some (lines.Update (record { node = node.0; client = client.0; number = number.0; change = change }))

-- NODE MODE OBJECT
unfoldable pub read_of : List (List ℕ) → Option ScriptLine
read_of words = do
  node ← number_at greatest_node words
  word ← next node.1
  mode ← mode_of word.0
  object ← object_at word.1
  at_the_end (lines.Read node.0 mode object.0) object.1

-- one number of at most `most`
unfoldable pub number_alone : ℕ → List (List ℕ) → Option ℕ
number_alone most words = do
  n ← number_at most words
  at_the_end n.0 n.1

-- a line by its first word and the words after it
unfoldable pub line_of_kind : List ℕ → List (List ℕ) → Option ScriptLine
line_of_kind kind words =
    if same_bytes kind (codes "read") then read_of words
    else (if same_bytes kind (codes "deliver") then option_map lines.Deliver (number_alone greatest words)
    else (if same_bytes kind (codes "tick") then option_map lines.Tick (number_alone greatest_node words)
    else (if same_bytes kind (codes "stop") then option_map lines.Stop (number_alone greatest_node words)
    else (if same_bytes kind (codes "remove") then option_map lines.Remove (number_alone greatest_node words)
    else (if same_bytes kind (codes "join") then option_map lines.Join (number_alone greatest_node words)
    else (if same_bytes kind (codes "explain") then at_the_end lines.Explain words
    else line_update kind words))))))

-- a line by its words
unfoldable pub line_of_words : List (List ℕ) → Option ScriptLine
line_of_words words = do
  kind ← next words
  line_of_kind kind.0 kind.1
