-- Replies to reads.
use Rattle.std.specs.Prelude.{ℕ, List, [], ◌∷◌, Some, None}
use Rattle.craq_model.specs.declared.ask.Answer.TheVariants as answers
use Rattle.craq_model.specs.declared.step.Out.TheVariants as outs
use Rattle.craq_model.specs.declared.step.Step.{Step}

-- the step of a read that gets its reply at once
abbrev pub read_step : ℕ → ℕ → List ℕ → Step
read_step ticket version value =
    record { ticket = Some ticket; outs = outs.Answer ticket (answers.Read version value) ∷ []; ignored = None }
