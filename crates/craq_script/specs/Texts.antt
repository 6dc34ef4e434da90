-- Defines the parse of a script: its lines, or the number of the first line outside the grammar.
use Rattle.std.specs.Prelude.{◌≡◌, ⊤, ℕ, ◌+◌, ◌-◌, ◌==◌, ◌&&◌, ◌||◌, not, Bool, List, [], ◌∷◌, length, nat_le, Option, Some, None, option_map, Result, Ok, Err, if◌then◌else◌, slice_index}
use Rattle.std.specs.List.{list_all, slice_split, filter}
use Rattle.craq_names.specs.declared.refusal.Refusal.{Refusal}
use Rattle.craq_names.specs.declared.refusal.Refusal.TheVariants as refusals
use Rattle.craq_script.specs.declared.line.ScriptLine.{ScriptLine}
use Rattle.craq_script.specs.Grammar.{line_of_words}

-- the text split at its line feeds; a text that ends in a line feed has an empty line after it, and
-- empty lines are skipped
abbrev pub lines_in : List ℕ → List (List ℕ)
lines_in text = slice_split (λ c. c == 10) text

-- the parts of a line between its spaces, without the empty ones
abbrev pub words_in : List ℕ → List (List ℕ)
words_in line = filter (λ word. not (length word == 0)) (slice_split (λ c. c == 32) line)

-- every character is printable ASCII
abbrev pub is_printable : List ℕ → Bool
is_printable line = list_all (λ c. nat_le 32 c && nat_le c 126) line

-- an empty line, or one whose first character is `#`
abbrev pub is_skipped : List ℕ → Bool
is_skipped line = (length line == 0) || (slice_index line 0 == 35)

-- the line neither begins nor ends with a space
abbrev pub is_trimmed : List ℕ → Bool
is_trimmed line = not (slice_index line 0 == 32) && not (slice_index line (length line - 1) == 32)

-- the line that a text stands for
unfoldable pub line_of : List ℕ → Option ScriptLine
line_of text = if is_trimmed text then line_of_words (words_in text) else None

-- the line that a text stands for, or none if the text is skipped
unfoldable pub line_or_skip : List ℕ → Option (Option ScriptLine)
line_or_skip text = if not (is_printable text) then None else if is_skipped text then Some None else option_map Some (line_of text)

-- the lines, with the line that was found in front of them
abbrev pub in_front : Option ScriptLine → Result (List ScriptLine) ℕ → Result (List ScriptLine) ℕ
in_front found (Err n) = Err n
in_front None (Ok lines) = Ok lines
in_front (Some line) (Ok lines) = Ok (line ∷ lines)

-- if the text of line n is outside the grammar, the result is n
abbrev pub line_then : ℕ → Option (Option ScriptLine) → Result (List ScriptLine) ℕ → Result (List ScriptLine) ℕ
line_then n None others = Err n
line_then n (Some found) others = in_front found others

-- the lines of the texts, the first of which is line n
abbrev pub lines_from : ℕ → List (List ℕ) → Result (List ScriptLine) ℕ
lines_from n [] = Ok []
lines_from n (text ∷ texts) = line_then n (line_or_skip text) (lines_from (n + 1) texts)

-- the lines of a script, or the number of the first line outside the grammar, counted from 1
unfoldable pub script_of : List ℕ → Result (List ScriptLine) ℕ
script_of text = lines_from 1 (lines_in text)

-- a result is the defined parse of the script, unless memory ran out
abbrev pub Reads : {X : Type 0} → (X → List ScriptLine) → Result X Refusal → Result (List ScriptLine) ℕ → Type 0
Reads view (Ok x) spelled = spelled ≡ Ok (view x)
Reads view (Err (refusals.BadScript n)) spelled = spelled ≡ Err n
Reads view (Err refusals.Memory) spelled = ⊤
Reads view (Err other) spelled = ⊥
