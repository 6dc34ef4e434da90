-- The bounded reads of a script, and the replies before them.
use Rattle.std.specs.Prelude.{ℕ, List, [], ◌∷◌}
use Rattle.craq_commands.specs.declared.read_mode.ReadMode.TheVariants as modes
use Rattle.craq_commands.specs.declared.reply.Reply.TheVariants.{Written}
use Rattle.craq_model.specs.declared.ask.Answer.TheVariants as answers
use Rattle.craq_runs.specs.declared.run.Run.{Run}
use Rattle.craq_runs.specs.declared.explanation.Explanation.{Explanation}
use Rattle.craq_runs.specs.Explain.{explain}
use Rattle.craq_runs.specs.Seen.{Answered}
use Rattle.craq_runs.specs.Valid.{ReadAnswer}
use Rattle.craq_examples.specs.Printed.{run_of}
use Rattle.craq_examples.specs.Rows.{bounded_reads_moves, object}

abbrev pub run : Run
run = run_of (1 ∷ 2 ∷ 3 ∷ []) bounded_reads_moves

abbrev pub explanation : Explanation
explanation = explain 0 run

-- the replies before the read with bound 1: to a put, and to the read with bound 0
abbrev pub earlier : List Answered
earlier =
    record { move = 5; node = 1; ticket = 1; answer = answers.Update (Written 1) }
    ∷ record { move = 9; node = 1; ticket = 5; answer = answers.Read 1 (97 ∷ []) } ∷ []

-- a reply to the read with bound 1
abbrev pub answered : ℕ → List ℕ → Answered
answered version value = record { move = 10; node = 1; ticket = 6; answer = answers.Read version value }

abbrev pub look : ℕ → List ℕ → ReadAnswer
look version value = record { mode = modes.Bounded 1; object = object 0 (107 ∷ []); version = version; value = value }
