use Rattle.std.proofs.Common.{sym, ap, ◌∙◌}
use Rattle.std.specs.Option.{option_copied}
use Rattle.craq_explain.proofs.FirstAsks.{asked_by, numbered_move, unasked}
use Rattle.craq_runs.specs.Seen.{asks_from}
use Rattle.craq_explain.proofs.asks.ask_of.Goals as goal

pub returns-in_err-number : goal.returns-in_err-number
returns-in_err-number c = λ tells.
    ap option_copied c.from_residual.ensures ∙ unasked (asks_from 1 c.args.moves.now) c.args.node c.args.ticket (sym c.in_err-number.was ∙ c.number_of_ask.ensures ∙ tells (c.args.node, c.args.ticket))

pub returns-in-None : goal.returns-in-None
returns-in-None c = λ tells. absurd (numbered_move c.args.moves.now c.args.node c.args.ticket c.in_ok-number.number (sym c.in_ok-number.was ∙ c.number_of_ask.ensures ∙ tells (c.args.node, c.args.ticket)) c.in-None.ensures)

pub returns-in-Some : goal.returns-in-Some
returns-in-Some c = λ tells.
    asked_by c.args.moves.now c.in-Some.taken.now c.args.node c.args.ticket c.in_ok-number.number (option_copied c.asked_in.result) (sym c.in_ok-number.was ∙ c.number_of_ask.ensures ∙ tells (c.args.node, c.args.ticket)) c.in-Some.ensures c.asked_in.ensures
