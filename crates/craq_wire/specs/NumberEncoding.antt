-- The encoding of numbers: highest byte first.
use Rattle.std.specs.Prelude.{ℕ, List}
use Rattle.std.specs.Int.{Width, to_be_bytes}

-- a number of this width
unfoldable pub number : Width → ℕ → List ℕ
number w n = to_be_bytes w n
