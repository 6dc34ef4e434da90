-- Numbers on command lines, written as in scripts.
use Rattle.std.specs.Prelude.{ℕ, List, Option, Some, None, nat_le, if◌then◌else◌}
use Rattle.craq_script.specs.Words.{number_up_to}

-- a number that is not too small
abbrev pub at_least : ℕ → Option ℕ → Option ℕ
at_least least None = None
at_least least (Some n) = if nat_le least n then Some n else None

-- a number in decimal digits within these bounds
abbrev pub number_between : ℕ → ℕ → List ℕ → Option ℕ
number_between least most word = at_least least (number_up_to most word)
