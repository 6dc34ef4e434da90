-- Defines the values and the items of transactions on the command line of people's verbs.
use Rattle.std.specs.Prelude.{ℕ, List, ◌++◌, codes, option_map, Option, Some, None, if◌then◌else◌}
use Rattle.std.specs.Int.{to_be_bytes, w64}
use Rattle.craq_names.specs.Limits.{greatest}
use Rattle.craq_names.specs.Maps.{same_bytes}
use Rattle.craq_script.specs.declared.line.MiniItem.{MiniItem}
use Rattle.craq_script.specs.declared.line.MiniItem.TheVariants as items
use Rattle.craq_script.specs.Reading.{◌>>=◌}
use Rattle.craq_script.specs.Words.{cut_at, number_up_to, script_value}
use Rattle.craq_cli.specs.declared.task.ValueForm.{ValueForm}
use Rattle.craq_cli.specs.declared.task.ValueForm.TheVariants as forms

-- the word's bytes, pairs of hexadecimal digits in lower case, or the 8 bytes of a number in decimal digits
unfoldable pub value_word : ValueForm → List ℕ → Option (List ℕ)
value_word forms.Bytes word = Some word
value_word forms.Hexadecimal word = script_value (codes "0x" ++ word)
value_word forms.Decimal word = option_map (to_be_bytes w64) (number_up_to greatest word)

-- `KEY:VERSION`, after `c:`
unfoldable pub compare_item : ℕ → List ℕ → Option MiniItem
compare_item chain text = do
  parts ← cut_at 58 text
  version ← number_up_to greatest parts.1
  Some (items.Compare (record { chain = chain; key = parts.0 }) version)

-- `KEY` without a colon, by the text and its parts around a colon
abbrev pub read_in : ℕ → List ℕ → Option (List ℕ × List ℕ) → Option MiniItem
read_in chain text None = Some (items.Read (record { chain = chain; key = text }))
read_in chain text (Some parts) = None

-- `KEY` without a colon, after `r:`
unfoldable pub read_item : ℕ → List ℕ → Option MiniItem
read_item chain text = read_in chain text (cut_at 58 text)

-- `KEY:VALUE`, after `w:`
unfoldable pub write_item : ℕ → ValueForm → List ℕ → Option MiniItem
write_item chain form text = do
  parts ← cut_at 58 text
  value ← value_word form parts.1
  Some (items.Write (record { chain = chain; key = parts.0 }) value)

-- an item, by the text before and after its first colon
abbrev pub item_in : ℕ → ValueForm → List ℕ × List ℕ → Option MiniItem
item_in chain form parts =
    if same_bytes parts.0 (codes "c") then compare_item chain parts.1
    else (if same_bytes parts.0 (codes "r") then read_item chain parts.1
    else (if same_bytes parts.0 (codes "w") then write_item chain form parts.1
    else None))

-- an item of a transaction with keys of this chain
unfoldable pub verb_item : ℕ → ValueForm → List ℕ → Option MiniItem
verb_item chain form word = cut_at 58 word >>= item_in chain form
