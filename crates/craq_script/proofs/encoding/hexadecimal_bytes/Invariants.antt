use Rattle.std.proofs.Common.{◌≡◌, ◌++◌, length, option_map}
use Rattle.craq_script.specs.Words.{hexadecimal_bytes}
use Rattle.craq_script.proofs.encoding.hexadecimal_bytes.Given as goal

abbrev pub decreases-loop-rest : goal.decreases-loop-rest
decreases-loop-rest l = length l.rest

-- the bytes so far, followed by those of the remaining digits, are all bytes
abbrev pub invariant-loop-rest : goal.invariant-loop-rest
invariant-loop-rest l = option_map (λ more. l.bytes.items ++ more) (hexadecimal_bytes l.rest) ≡ hexadecimal_bytes l.fn.digits
