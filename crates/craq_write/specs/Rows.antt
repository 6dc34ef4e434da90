-- Consecutive entries, as they arrive.
use Rattle.std.specs.Prelude.{ℕ, ◌+◌, nat_le, nat_lt, not, if◌then◌else◌, Option, Some, None}
use Rattle.craq_model.specs.declared.step.Why.{Why}
use Rattle.craq_model.specs.declared.step.Why.TheVariants.{NotNeighbour, AlreadyHave, OutOfOrder}
use Rattle.craq_model.specs.Members.{is_id}
use Rattle.craq_model.specs.Plain.{Plain, length_of, predecessor}

-- why entries with these first and last positions are ignored, whatever they write
abbrev pub why_ignored : Plain → ℕ → ℕ → ℕ → Option Why
why_ignored p sender start end =
    if not (is_id (predecessor p) sender) then Some NotNeighbour
    else if nat_le end (length_of p) then Some AlreadyHave
    else if nat_lt (length_of p + 1) start then Some OutOfOrder
    else None
