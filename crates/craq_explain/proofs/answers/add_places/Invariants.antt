use Rattle.std.proofs.Common.{◌≡◌, ◌++◌, ℕ, List, drop}
use Rattle.craq_commands.specs.declared.entry.Entry.{Entry}
use Rattle.craq_runs.specs.declared.explanation.Place.{Place}
use Rattle.craq_runs.specs.Explain.{places_of}
use Rattle.craq_runs.specs.Seen.{answers_in, asks_from}
use Rattle.craq_full_history.specs.contracts.history.FullHistoryHistory.TheImpl.{past-value}
use Rattle.craq_explain.specs.Shown.{plain_in}
use Rattle.craq_explain.specs.Tables.{AreTables}
use Rattle.craq_explain.proofs.answers.add_places.Given as goal

-- the places so far and those to come are all
abbrev pub invariant-loop-out : goal.invariant-loop-out
invariant-loop-out l =
    (number : ℕ) (pending : List Place) (entries : List Entry) → AreTables (asks_from 1 l.moves) pending entries l.tables → l.places.items ++ places_of (asks_from 1 l.moves) pending entries (plain_in past-value.it l.stands) l.replayed.word (answers_in number l.replayed.node (drop l.out-index l.replayed.taken.now.step.outs)) ≡ l.initial.places.items ++ places_of (asks_from 1 l.moves) pending entries (plain_in past-value.it l.stands) l.replayed.word (answers_in number l.replayed.node l.replayed.taken.now.step.outs)
