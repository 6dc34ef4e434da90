-- A cell, and one step of it.
use Rattle.std.specs.Prelude.{◌≡◌, ◌⊎◌, ℕ, Bool, if◌then◌else◌, List, [], ◌∷◌, ◌++◌, Option, Some, None, IsSome, IsOk, Result, Ok, Err}
use Rattle.std.specs.Option.{option_map}
use Rattle.craq_names.specs.Order.{RefusesWhere}
use Rattle.craq_names.specs.declared.refusal.Refusal.{Refusal}
use Rattle.craq_model.specs.declared.step.Step.{Step}
use Rattle.craq_seat.specs.declared.journal.Opening.{Opening}
use Rattle.craq_seat.specs.declared.journal.Receipt.{Receipt}
use Rattle.craq_seat.specs.declared.journal.Record.{Record}
use Rattle.craq_seat.specs.Journal.{Stepping}
use Rattle.craq_seat.specs.Stamps.{next_stamp}

-- a node or a master, or a core that stands for one, with its stamp and its journal
pub record Celled (N E : Type 0) : Type 0 where
  pub opening : Opening
  pub inside : N
  pub stamp : ℕ  -- of the last step; the opening's if there is none
  pub journal : Option (List (Record E))  -- if one is kept
  pub last : Option Step  -- the last step

-- a cell before its first step
abbrev pub opened : {N E : Type 0} → Opening → Bool → N → Celled N E
opened opening journal inside =
    record { opening = opening; inside = inside; stamp = opening.stamp; journal = if journal then Some [] else None; last = None }

-- the cell with this node inside
abbrev pub with_inside : {M N E : Type 0} → Celled M E → N → Celled N E
with_inside c inside =
    record { opening = c.opening; inside = inside; stamp = c.stamp; journal = c.journal; last = c.last }

-- one more step was taken
abbrev pub with_record : {N E : Type 0} → Celled N E → N → Record E → Celled N E
with_record c inside r =
    record {
      opening = c.opening;
      inside = inside;
      stamp = r.stamp;
      journal = option_map (λ rs. rs ++ r ∷ []) c.journal;
      last = Some r.step;
    }

-- the receipt of the last step
abbrev pub receipt_of : {N E : Type 0} → Celled N E → Receipt
receipt_of c = record { node = c.opening.name.node; stamp = c.stamp }

-- the step is recorded, or its refusal stays
abbrev pub recorded : {N E : Type 0} → Celled N E → ℕ → E → ℕ → Result (N × Step) Refusal → Result (Celled N E) Refusal
recorded c stamp event pass (Ok t) = Ok (with_record c t.0 (record { stamp = stamp; event = event; pass = pass; step = t.1 }))
recorded c stamp event pass (Err e) = Err e

-- the step is taken under a stamp, if there is one
abbrev pub stamped : {N E : Type 0} → Stepping N E → Celled N E → E → ℕ → Result ℕ Refusal → Result (Celled N E) Refusal
stamped step c event pass (Ok stamp) = recorded c stamp event pass (step c.inside event)
stamped step c event pass (Err e) = Err e

-- one step of a cell on an event with its stamp and a pass: the cell after it, or a refusal
unfoldable pub cell_step : {N E : Type 0} → Stepping N E → Celled N E → E → ℕ → ℕ → Result (Celled N E) Refusal
cell_step step c event borne pass = stamped step c event pass (next_stamp c.stamp pass borne)

-- where memory can run out: once there is a stamp, always with a journal, and without one where the
-- step inside can
abbrev pub CanWant : {N E : Type 0} → Celled N E → ℕ → ℕ → Type 0 → Type 0
CanWant c borne pass inside = IsOk (next_stamp c.stamp pass borne) × (IsSome c.journal ⊎ inside)

-- the step was taken, and the receipt names it; or nothing changed, and it was refused as wanted,
-- or out of memory where that can come
abbrev pub Takes : {N E : Type 0} → Celled N E → Celled N E → Result Receipt Refusal → Type 0 → Result (Celled N E) Refusal → Type 0
Takes old new (Ok receipt) can wanted = (wanted ≡ Ok new) × (receipt ≡ receipt_of new)
Takes old new (Err e) can wanted = RefusesWhere can e wanted × (new ≡ old)

-- a cell whose core stands for a plain node takes the step, and its core then stands for the plain node's
-- successor
abbrev pub TakesFor : {C N E : Type 0} → (C → N → Type 0) → Celled C E → Celled N E → Result Receipt Refusal → Type 0 → Result (Celled N E) Refusal → Type 0
TakesFor {C} {N} represents now old result can wanted = (n : N) × Takes old (with_inside now n) result can wanted × represents now.inside n
