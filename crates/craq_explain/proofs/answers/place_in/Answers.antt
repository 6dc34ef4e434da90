use Rattle.craq_runs.specs.Seen.{asks_from}
use Rattle.craq_full_history.specs.contracts.history.FullHistoryHistory.TheImpl.{past-value}
use Rattle.craq_explain.specs.Shown.{plain_in}
use Rattle.craq_explain.proofs.Places.{answered_ok}
use Rattle.craq_explain.proofs.answers.place_in.Goals as goal

pub returns-in-Some : goal.returns-in-Some
returns-in-Some c = λ number later pending entries tables.
    let xs = asks_from 1 c.args.moves.now in
    answered_ok xs pending entries (plain_in past-value.it c.args.stands) c.args.replayed.now.word number c.args.replayed.now.node c.in-Answer.ticket c.in-Answer.answer c.args.out.now later c.in-Some.ask.now c.place_by.result c.in-Answer.is (c.in-Some.ensures tables.asked) (c.place_by.ensures number c.in-Answer.answer xs pending entries tables)
