use Rattle.std.proofs.Common.{◌≡◌, ◌++◌, string_bytes, drop}
use Rattle.craq_schedules.specs.Drawn.{after_choices, choices_text}
use Rattle.craq_schedules.proofs.drawing.play_choices.Given as goal

-- the text and the chain so far, continued with the remaining choices, are those of all choices
abbrev pub invariant-loop-choice : goal.invariant-loop-choice
invariant-loop-choice g l =
    (string_bytes l.text ++ choices_text (drop l.choice-index l.choices) l.chain l.left ≡ string_bytes l.initial.text ++ choices_text l.choices l.initial.chain l.initial.left)
    × (after_choices (drop l.choice-index l.choices) l.chain l.left ≡ after_choices l.choices l.initial.chain l.initial.left)
