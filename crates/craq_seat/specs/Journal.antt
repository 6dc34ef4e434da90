-- A journal and its replay, for a node and for a master: `step` defines a step, `N` is the type of
-- states, `E` the type of events.
use Rattle.std.specs.Prelude.{◌≡◌, ◌<◌, ◌≤◌, ℕ, List, [], ◌∷◌, Option, Some, None, Result, Ok}
use Rattle.craq_names.specs.declared.refusal.Refusal.{Refusal}
use Rattle.craq_model.specs.declared.step.Step.{Step}
use Rattle.craq_seat.specs.declared.journal.Record.{Record}
use Rattle.craq_seat.specs.Stamps.{next_stamp}

-- the state after an event with the step that was taken, or a refusal
abbrev pub Stepping : Type 0 → Type 0 → Type 0
Stepping N E = N → E → Result (N × Step) Refusal

-- replaying the records leads from the first state to the last, and each step is the one recorded
abbrev pub Replays : {N E : Type 0} → Stepping N E → N → List (Record E) → N → Type 0
Replays {N} {E} step first [] last = last ≡ first
Replays {N} {E} step first (r ∷ rs) last = (next : N) × (step first r.event ≡ Ok (next, r.step)) × Replays step next rs last

-- the stamps ascend from the first, and this is the last
abbrev pub RisesTo : {E : Type 0} → ℕ → List (Record E) → ℕ → Type 0
RisesTo first [] last = last ≡ first
RisesTo first (r ∷ rs) last = (first < r.stamp) × RisesTo r.stamp rs last

-- a core stands for the replay of its journal; without a journal, for some state
abbrev pub Stands : {C N E : Type 0} → (C → N → Type 0) → Stepping N E → N → C → Option (List (Record E)) → Type 0
Stands {C} {N} {E} represents step first core None = (n : N) × represents core n
Stands {C} {N} {E} represents step first core (Some rs) = (n : N) × Replays step first rs n × represents core n

-- each stamp is the next after the one before, given the pass and the event's stamp, and this is
-- the last
abbrev pub AreStamped : {E : Type 0} → (E → ℕ) → ℕ → List (Record E) → ℕ → Type 0
AreStamped {E} bears first [] last = last ≡ first
AreStamped {E} bears first (r ∷ rs) last = (next_stamp first r.pass (bears r.event) ≡ Ok r.stamp) × AreStamped bears r.stamp rs last

-- the stamps of a journal are such; without a journal, the last stamp is not below the first
abbrev pub IsStamped : {E : Type 0} → (E → ℕ) → ℕ → Option (List (Record E)) → ℕ → Type 0
IsStamped {E} bears first None last = first ≤ last
IsStamped {E} bears first (Some rs) last = AreStamped bears first rs last
