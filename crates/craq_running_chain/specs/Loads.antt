-- The load of a chain's head, by which its chain thread calls a second thread.
use Rattle.std.specs.Prelude.{◌+◌, ◌-◌, ℕ, zero, suc, if◌then◌else◌, min, nat_lt}

-- the load from which on a second thread is worth its cost
abbrev pub most_load : ℕ
most_load = 128

-- the load after a batch of `taken` requests, while one thread takes all nodes: unchanged where there were none, one more where the
-- batch is full, else none
abbrev pub noted_alone : ℕ → ℕ → ℕ
noted_alone zero load = load
noted_alone (suc n) load = if nat_lt (suc n) 16 then 0 else min (load + 1) most_load

-- the load after a batch of `taken` requests, while a second thread helps: unchanged where there were none, one less where they are
-- few, else one more
abbrev pub noted_helped : ℕ → ℕ → ℕ
noted_helped zero load = load
noted_helped (suc n) load = if nat_lt (suc n) 6 then load - 1 else min (load + 1) most_load
