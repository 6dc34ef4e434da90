-- The ticks that a quiet chain takes.
use Rattle.std.specs.Prelude.{ℕ, ◌%◌, ◌==◌, ◌||◌, nat_lt, Bool}

-- after this many quiet ticks the next one is taken: each of the first 20, and then each 20th
abbrev pub takes_tick : ℕ → Bool
takes_tick quiet = nat_lt quiet 20 || (quiet % 20 == 0)
