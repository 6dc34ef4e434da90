-- Defines the parse of single words. Characters are given by their codes.
use Rattle.std.specs.Prelude.{ℕ, ◌+◌, ◌-◌, ◌*◌, ◌^◌, ◌==◌, ◌&&◌, ◌||◌, not, Bool, List, [], ◌∷◌, length, take, drop, codes, nat_le, Option, Some, None, option_map, if◌then◌else◌, slice_index}
use Rattle.std.specs.List.{list_all, position}
use Rattle.craq_names.specs.Limits.{greatest}
use Rattle.craq_names.specs.Maps.{same_bytes}
use Rattle.craq_commands.specs.declared.read_mode.ReadMode.{ReadMode}
use Rattle.craq_commands.specs.declared.read_mode.ReadMode.TheVariants as modes
use Rattle.craq_script.specs.declared.line.ScriptObject.{ScriptObject}
use Rattle.craq_script.specs.declared.line.MiniItem.{MiniItem}
use Rattle.craq_script.specs.declared.line.MiniItem.TheVariants as items
use Rattle.craq_script.specs.Reading.{◌>>=◌}

-- the greatest id of a node, and the greatest bound of a read
abbrev pub greatest_node : ℕ
greatest_node = 2 ^ 32 - 1

-- the greatest id of a chain
abbrev pub greatest_chain : ℕ
greatest_chain = 2 ^ 16 - 1

-- the text before the first c, and the text after it
abbrev pub cut_at : ℕ → List ℕ → Option (List ℕ × List ℕ)
cut_at c text = option_map (λ i. (take i text, drop (i + 1) text)) (position (λ x. x == c) text)

-- `0` to `9`
abbrev pub is_digit : ℕ → Bool
is_digit c = nat_le 48 c && nat_le c 57

-- one or more digits; only the word `0` begins with `0`
abbrev pub is_decimal : List ℕ → Bool
is_decimal word = not (length word == 0) && list_all is_digit word && (length word == 1 || not (slice_index word 0 == 48))

-- the number n, continued with decimal digits
abbrev pub number_behind : ℕ → List ℕ → ℕ
number_behind n [] = n
number_behind n (digit ∷ digits) = number_behind (10 * n + (digit - 48)) digits

-- a number in decimal digits, of at most `most`
unfoldable pub number_up_to : ℕ → List ℕ → Option ℕ
number_up_to most word = if is_decimal word && nat_le (number_behind 0 word) most then Some (number_behind 0 word) else None

-- an ASCII letter, a digit, `_` or `-`
abbrev pub is_key_character : ℕ → Bool
is_key_character c = is_digit c || (nat_le 65 c && nat_le c 90) || (nat_le 97 c && nat_le c 122) || c == 95 || c == 45

-- one or more characters allowed in keys
unfoldable pub key_of : List ℕ → Option (List ℕ)
key_of word = if not (length word == 0) && list_all is_key_character word then Some word else None

-- `KEY`, of chain 0, or `CHAIN/KEY`
abbrev pub object_in : List ℕ → Option (List ℕ × List ℕ) → Option ScriptObject
object_in word None = do
  key ← key_of word
  Some (record { chain = 0; key = key })
object_in word (Some parts) = do
  chain ← number_up_to greatest_chain parts.0
  key ← key_of parts.1
  Some (record { chain = chain; key = key })

unfoldable pub script_object : List ℕ → Option ScriptObject
script_object word = object_in word (cut_at 47 word)

-- `0` to `9` or `a` to `f`
abbrev pub hexadecimal : ℕ → Option ℕ
hexadecimal c = if is_digit c then Some (c - 48) else if nat_le 97 c && nat_le c 102 then Some (c - 87) else None

-- two digits for each byte, the higher first
abbrev pub hexadecimal_bytes : List ℕ → Option (List ℕ)
hexadecimal_bytes [] = Some []
hexadecimal_bytes (high ∷ []) = None
hexadecimal_bytes (high ∷ low ∷ digits) = do
  h ← hexadecimal high
  l ← hexadecimal low
  bytes ← hexadecimal_bytes digits
  Some ((16 * h + l) ∷ bytes)

-- after `0x`, bytes in hexadecimal digits; any other word stands for its own bytes
unfoldable pub script_value : List ℕ → Option (List ℕ)
script_value word =
    if same_bytes (take 2 word) (codes "0x") then hexadecimal_bytes (drop 2 word)
    else (if length word == 0 then None else Some word)

-- `strong`, `eventual` or `bounded:K`
unfoldable pub mode_of : List ℕ → Option ReadMode
mode_of word =
    if same_bytes word (codes "strong") then Some modes.Strong
    else (if same_bytes word (codes "eventual") then Some modes.Eventual
    else (if same_bytes (take 8 word) (codes "bounded:") then option_map modes.Bounded (number_up_to greatest_node (drop 8 word))
    else None))

-- `OBJECT:VERSION`, after `c:`
unfoldable pub compare_of : List ℕ → Option MiniItem
compare_of text = do
  parts ← cut_at 58 text
  object ← script_object parts.0
  version ← number_up_to greatest parts.1
  Some (items.Compare object version)

-- `OBJECT`, after `r:`
unfoldable pub read_of : List ℕ → Option MiniItem
read_of text = do
  object ← script_object text
  Some (items.Read object)

-- `OBJECT:VALUE`, after `w:`
unfoldable pub write_of : List ℕ → Option MiniItem
write_of text = do
  parts ← cut_at 58 text
  object ← script_object parts.0
  value ← script_value parts.1
  Some (items.Write object value)

-- an item, by the text before and after its first colon
abbrev pub item_in : List ℕ × List ℕ → Option MiniItem
item_in parts =
    if same_bytes parts.0 (codes "c") then compare_of parts.1
    else (if same_bytes parts.0 (codes "r") then read_of parts.1
    else (if same_bytes parts.0 (codes "w") then write_of parts.1
    else None))

-- an item of a transaction
unfoldable pub item_of : List ℕ → Option MiniItem
item_of word = cut_at 58 word >>= item_in
