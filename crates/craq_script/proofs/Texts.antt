-- Relates the lines read so far to the rest of the text.
use Rattle.std.proofs.Common.{ℕ, List, ◌++◌, Result, Ok, Err}
use Rattle.craq_script.specs.declared.line.ScriptLine.{ScriptLine}

-- the lines, followed by those of the rest
abbrev pub behind : List ScriptLine → Result (List ScriptLine) ℕ → Result (List ScriptLine) ℕ
behind lines (Ok more) = Ok (lines ++ more)
behind lines (Err n) = Err n
