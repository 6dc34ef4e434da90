use Rattle.std.proofs.Common.{◌≡◌, drop}
use Rattle.craq_key_map.specs.Hashed.{last_word}
use Rattle.craq_key_map.proofs.sip.last_word_of.Given as goal

-- the word so far and the bytes that are left make the whole word
abbrev pub invariant-loop-byte : goal.invariant-loop-byte
invariant-loop-byte l = last_word l.word (drop l.byte-index l.bytes) ≡ last_word l.count l.bytes
