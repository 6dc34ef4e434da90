-- The request that the words of a command of `craq` make, or the first word that is not the one expected there. Places are counted
-- from 0, where the command's name stands. Single words are read as in scripts.
use Rattle.std.specs.Prelude.{◌≡◌, ⊤, ℕ, ◌+◌, ◌&&◌, Bool, List, [], ◌∷◌, length, drop, codes, nat_le, Option, Some, None, Result, Ok, Err, slice_get, if◌then◌else◌}
use Rattle.std.specs.List.{list_all}
use Rattle.craq_names.specs.Limits.{greatest}
use Rattle.craq_names.specs.Maps.{same_bytes}
use Rattle.craq_script.specs.declared.line.ScriptObject.{ScriptObject}
use Rattle.craq_script.specs.declared.line.MiniItem.{MiniItem}
use Rattle.craq_script.specs.declared.line.ScriptCommand.{ScriptCommand}
use Rattle.craq_script.specs.declared.line.ScriptCommand.TheVariants as changes
use Rattle.craq_script.specs.Words.{script_object, script_value, mode_of, item_of}
use Rattle.craq_cli.specs.Numbers.{number_between}
use Rattle.craq_cli.specs.declared.expected.Expected.{Expected}
use Rattle.craq_cli.specs.declared.expected.Expected.TheVariants as expected
use Rattle.craq_cli.specs.declared.expected.BadWord.{BadWord}
use Rattle.craq_cli.specs.declared.expected.UsageError.{UsageError}
use Rattle.craq_cli.specs.declared.expected.UsageError.TheVariants as unread
use Rattle.craq_cli.specs.declared.commands.UpdateName.{UpdateName}
use Rattle.craq_cli.specs.declared.commands.UpdateName.TheVariants as updates
use Rattle.craq_cli.specs.declared.commands.Name.{Name}
use Rattle.craq_cli.specs.declared.commands.Name.TheVariants as names
use Rattle.craq_cli.specs.declared.task.Request.{Request}
use Rattle.craq_cli.specs.declared.task.Request.TheVariants as asks
use Rattle.craq_cli.specs.declared.task.Task.{Task}
use Rattle.craq_cli.specs.declared.task.Task.TheVariants as tasks
use Rattle.craq_cli.specs.declared.task.BenchLoad.{BenchLoad}
use Rattle.craq_cli.specs.Loads.{usual_load}

infixl 10 ◌>>=◌
abbrev pub ◌>>=◌ : {A B : Type 0} → Result A BadWord → (A → Result B BadWord) → Result B BadWord
(Ok x) >>= f = f x
(Err bad) >>= f = Err bad

-- the result of a function, seen by view, is the request of the words or their first bad word, unless it ran out of memory
abbrev pub Reads : {X Y : Type 0} → (X → Y) → Result X UsageError → Result Y BadWord → Type 0
Reads view (Ok x) asked = asked ≡ Ok (view x)
Reads view (Err (unread.Bad bad)) asked = asked ≡ Err bad
Reads view (Err unread.Memory) asked = ⊤

-- returns the value at a place, or says what was expected there
abbrev pub expect : {A : Type 0} → ℕ → Expected → Option A → Result A BadWord
expect place expected (Some x) = Ok x
expect place expected None = Err (record { place = place; expected = expected })

-- returns the value that the word encodes, if there is a word
abbrev pub spelled : {A : Type 0} → (List ℕ → Option A) → Option (List ℕ) → Option A
spelled read None = None
spelled read (Some word) = read word

-- a printable ASCII character without the blank: `!` to `~`
abbrev pub is_printable : ℕ → Bool
is_printable c = nat_le 33 c && nat_le c 126

-- returns the value that a word encodes, if the word can stand in a line of a script
abbrev pub in_line : {A : Type 0} → (List ℕ → Option A) → List ℕ → Option A
in_line read word = if list_all is_printable word then read word else None

-- the word at a place as what is expected there
abbrev pub word_at : {A : Type 0} → Expected → (List ℕ → Option A) → List (List ℕ) → ℕ → Result A BadWord
word_at expected read words place = expect place expected (spelled read (slice_get words place))

-- x, where no word stands at the place
abbrev pub at_end : {A : Type 0} → A → List (List ℕ) → ℕ → Result A BadWord
at_end x words place = if nat_le (length words) place then Ok x else Err (record { place = place; expected = expected.End })

-- OBJECT VALUE, behind CLIENT NUMBER
unfoldable pub object_and_value : List (List ℕ) → Result (ScriptObject × List ℕ) BadWord
object_and_value words = do
  object ← word_at expected.Object script_object words 3
  value ← word_at expected.Value (in_line script_value) words 4
  at_end (object, value) words 5

-- OBJECT BY, behind CLIENT NUMBER
unfoldable pub object_and_number : List (List ℕ) → Result (ScriptObject × ℕ) BadWord
object_and_number words = do
  object ← word_at expected.Object script_object words 3
  by ← word_at expected.By (number_between 0 greatest) words 4
  at_end (object, by) words 5

-- OBJECT VERSION VALUE, behind CLIENT NUMBER
unfoldable pub test_and_set_of : List (List ℕ) → Result ScriptCommand BadWord
test_and_set_of words = do
  object ← word_at expected.Object script_object words 3
  expect ← word_at expected.Version (number_between 0 greatest) words 4
  value ← word_at expected.Value (in_line script_value) words 5
  at_end (changes.TestAndSet object expect value) words 6

-- an item for each word, the first of which stands at the place
abbrev pub items_from : ℕ → List (List ℕ) → Result (List MiniItem) BadWord
items_from place [] = Ok []
items_from place (word ∷ words) = do
  item ← expect place expected.Item (in_line item_of word)
  items ← items_from (place + 1) words
  Ok (item ∷ items)

-- the change of an update, behind CLIENT NUMBER
unfoldable pub change_of : UpdateName → List (List ℕ) → Result ScriptCommand BadWord
change_of updates.Put words = object_and_value words >>= λ x. Ok (changes.Put x.0 x.1)
change_of updates.TestAndSet words = test_and_set_of words
change_of updates.Append words = object_and_value words >>= λ x. Ok (changes.Append x.0 x.1)
change_of updates.Prepend words = object_and_value words >>= λ x. Ok (changes.Prepend x.0 x.1)
change_of updates.Increment words = object_and_number words >>= λ x. Ok (changes.Increment x.0 x.1)
change_of updates.Decrement words = object_and_number words >>= λ x. Ok (changes.Decrement x.0 x.1)
change_of updates.Mini words = items_from 3 (drop 3 words) >>= λ items. Ok (changes.Mini items)

-- CLIENT NUMBER and a change, asked of this node
unfoldable pub command_update : ℕ → UpdateName → List (List ℕ) → Result Request BadWord
command_update node name words = do
  client ← word_at expected.Client (number_between 0 greatest) words 1
  number ← word_at expected.Number (number_between 0 greatest) words 2
  change ← change_of name words
  Ok (asks.Update (record { node = node; client = client; number = number; change = change }))

-- MODE OBJECT
unfoldable pub read_of : List (List ℕ) → Result Request BadWord
read_of words = do
  mode ← word_at expected.Mode mode_of words 1
  object ← word_at expected.Object script_object words 2
  at_end (asks.Read mode object) words 3

-- the names of commands
unfoldable pub name_of : List ℕ → Option Name
name_of word =
    if same_bytes word (codes "put") then Some (names.Update updates.Put)
    else (if same_bytes word (codes "tas") then Some (names.Update updates.TestAndSet)
    else (if same_bytes word (codes "append") then Some (names.Update updates.Append)
    else (if same_bytes word (codes "prepend") then Some (names.Update updates.Prepend)
    else (if same_bytes word (codes "inc") then Some (names.Update updates.Increment)
    else (if same_bytes word (codes "dec") then Some (names.Update updates.Decrement)
    else (if same_bytes word (codes "mini") then Some (names.Update updates.Mini)
    else (if same_bytes word (codes "read") then Some names.Read
    else (if same_bytes word (codes "status") then Some names.Status
    else None))))))))

-- returns the request of a command of this name
abbrev pub request_as : ℕ → List (List ℕ) → Name → Result Request BadWord
request_as node words (names.Update name) = command_update node name words
request_as node words names.Read = read_of words
request_as node words names.Status = at_end asks.Status words 1

-- returns the request that the words of a command make at this node
unfoldable pub request_of : ℕ → List (List ℕ) → Result Request BadWord
request_of node words = word_at expected.Command name_of words 0 >>= request_as node words

-- CONNECTIONS SECONDS READS
unfoldable pub worded_load : List (List ℕ) → Result BenchLoad BadWord
worded_load words = do
  connections ← word_at expected.Connections (number_between 1 1000) words 1
  seconds ← word_at expected.Seconds (number_between 1 86400) words 2
  reads ← word_at expected.Reads (number_between 0 100) words 3
  at_end (record usual_load { connections = connections; seconds = seconds; reads = reads }) words 4

-- nothing, or CONNECTIONS SECONDS READS
unfoldable pub load_of : List (List ℕ) → Result BenchLoad BadWord
load_of words = if nat_le (length words) 1 then Ok usual_load else worded_load words

-- nothing, or SECONDS
unfoldable pub watch_of : List (List ℕ) → Result (Option ℕ) BadWord
watch_of words =
    if nat_le (length words) 1 then Ok None
    else (word_at expected.Seconds (number_between 1 86400) words 1 >>= λ seconds. at_end (Some seconds) words 2)

-- returns the task of `craq` by the command's first word: no word asks for a prompt
abbrev pub task_by : ℕ → List (List ℕ) → Option (List ℕ) → Result Task BadWord
task_by node words None = Ok tasks.Shell
task_by node words (Some word) =
    if same_bytes word (codes "shell") then at_end tasks.Shell words 1
    else (if same_bytes word (codes "watch") then (watch_of words >>= λ seconds. Ok (tasks.Watch seconds))
    else (if same_bytes word (codes "bench") then (load_of words >>= λ load. Ok (tasks.Bench load))
    else (request_of node words >>= λ request. Ok (tasks.Ask request))))

-- returns the task of `craq` by all words of the command
unfoldable pub task_of : ℕ → List (List ℕ) → Result Task BadWord
task_of node words = task_by node words (slice_get words 0)
