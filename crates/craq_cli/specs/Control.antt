-- The request of the words of a line of `craqd --control`, for chains of these names, or the first word that is wrong:
--
--   stop NODE [--force] | remove NODE | join NODE | status | help
--
-- No words ask for nothing.
use Rattle.std.specs.Prelude.{ℕ, List, length, codes, nat_le, Option, Some, None, Result, Ok, if◌then◌else◌}
use Rattle.craq_names.specs.Maps.{same_bytes}
use Rattle.craq_names.specs.declared.name.NodeName.{NodeName}
use Rattle.craq_cli.specs.Commands.{◌>>=◌, word_at, at_end}
use Rattle.craq_cli.specs.ControlNode.{node_of}
use Rattle.craq_cli.specs.declared.expected.Expected.TheVariants as expected
use Rattle.craq_cli.specs.declared.expected.BadWord.{BadWord}
use Rattle.craq_cli.specs.declared.control.ControlVerb.{ControlVerb}
use Rattle.craq_cli.specs.declared.control.ControlVerb.TheVariants as verbs
use Rattle.craq_cli.specs.declared.control.ControlLine.{ControlLine}
use Rattle.craq_cli.specs.declared.control.ControlLine.TheVariants as lines

-- the verb of this name
unfoldable pub verb_of : List ℕ → Option ControlVerb
verb_of word =
    if same_bytes word (codes "stop") then Some verbs.Stop
    else (if same_bytes word (codes "remove") then Some verbs.Remove
    else (if same_bytes word (codes "join") then Some verbs.Join
    else (if same_bytes word (codes "status") then Some verbs.Status
    else (if same_bytes word (codes "help") then Some verbs.Help
    else None))))

-- a stop in any case, by the word `--force`
abbrev pub forced : NodeName → List ℕ → Option ControlLine
forced node word = if same_bytes word (codes "--force") then Some (lines.ForceStop node) else None

-- NODE [--force], behind `stop`
unfoldable pub stop_of : List (List ℕ) → List (List ℕ) → Result ControlLine BadWord
stop_of names words = do
  node ← word_at expected.ChainNode (node_of names) words 1
  if nat_le (length words) 2 then Ok (lines.Stop node)
      else (word_at expected.Force (forced node) words 2 >>= λ line. at_end line words 3)

-- NODE, behind `remove`
unfoldable pub remove_of : List (List ℕ) → List (List ℕ) → Result ControlLine BadWord
remove_of names words = do
  node ← word_at expected.ChainNode (node_of names) words 1
  at_end (lines.Remove node) words 2

-- NODE, behind `join`
unfoldable pub join_of : List (List ℕ) → List (List ℕ) → Result ControlLine BadWord
join_of names words = do
  node ← word_at expected.ChainNode (node_of names) words 1
  at_end (lines.Join node) words 2

-- the request of the words behind this verb
abbrev pub line_as : List (List ℕ) → List (List ℕ) → ControlVerb → Result ControlLine BadWord
line_as names words verbs.Stop = stop_of names words
line_as names words verbs.Remove = remove_of names words
line_as names words verbs.Join = join_of names words
line_as names words verbs.Status = at_end lines.Status words 1
line_as names words verbs.Help = at_end lines.Help words 1

-- the request of the words of a line
unfoldable pub control_line : List (List ℕ) → List (List ℕ) → Result ControlLine BadWord
control_line names words =
    if nat_le (length words) 0 then Ok lines.Nothing
    else (word_at expected.ControlVerb verb_of words 0 >>= line_as names words)
