-- Items behind those that were read.
use Rattle.std.proofs.Common.{List, ◌++◌, Result, Ok, Err}
use Rattle.craq_script.specs.declared.line.MiniItem.{MiniItem}
use Rattle.craq_cli.specs.declared.expected.BadWord.{BadWord}

-- the result of reading the words, with items in front of it
abbrev pub behind : List MiniItem → Result (List MiniItem) BadWord → Result (List MiniItem) BadWord
behind items (Ok more) = Ok (items ++ more)
behind items (Err bad) = Err bad
