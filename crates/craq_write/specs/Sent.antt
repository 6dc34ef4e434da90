-- Sending a state.
use Rattle.std.specs.Prelude.{◌≡◌, ◌<◌, ◌⊎◌, ℕ, false}
use Rattle.craq_names.specs.Limits.{greatest_count}
use Rattle.craq_names.specs.declared.refusal.Refusal.{Refusal}
use Rattle.craq_names.specs.declared.refusal.Refusal.TheVariants.{Memory, Exhausted}
use Rattle.craq_commands.specs.declared.state.State.{State}
use Rattle.craq_model.specs.Deliveries.{fill_bodies}
use Rattle.craq_model.specs.Node.{outs_fit}
use Rattle.craq_model.specs.Parts.{part_count}
use Rattle.craq_model.specs.Plain.{Plain}
use Rattle.craq_model.specs.Sends.{send_all}
use Rattle.craq_model.specs.Settle.{Transition}

-- out of memory, or the state has more parts than 32 bits count
abbrev pub CannotSend : State → Refusal → Type 0
CannotSend s e = (e ≡ Memory) ⊎ ((e ≡ Exhausted) × (greatest_count < part_count s))

-- out of memory, or a successor with this many entries needs more parts, or sends, than messages
-- count
abbrev pub CannotFill : Plain → ℕ → ℕ → Refusal → Type 0
CannotFill p to count e = (e ≡ Memory) ⊎ ((e ≡ Exhausted) × (outs_fit (send_all p to (fill_bodies p count)) ≡ false))

-- out of memory, or the step's sends have more parts, or are more, than messages count
abbrev pub LacksOrOutgrows : Transition → Refusal → Type 0
LacksOrOutgrows transition e = (e ≡ Memory) ⊎ ((e ≡ Exhausted) × (outs_fit transition.1.outs ≡ false))
