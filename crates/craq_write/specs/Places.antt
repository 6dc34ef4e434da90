-- Admission of an update: it gets its reply in its step, or it can wait.
use Rattle.std.specs.Prelude.{ℕ, nat_le, Bool, ◌||◌, not, if◌then◌else◌}
use Rattle.craq_model.specs.Asks.{is_full}
use Rattle.craq_model.specs.Plain.{Plain, is_last}

-- the commit index once the history has this length
abbrev pub committed_then : Plain → ℕ → ℕ
committed_then p count = if is_last p then count else p.past.acknowledged

-- an update that waits for a position gets its reply at this history length, or can wait
abbrev pub has_place : Plain → ℕ → ℕ → Bool
has_place p count position = nat_le position (committed_then p count) || not (is_full p)
