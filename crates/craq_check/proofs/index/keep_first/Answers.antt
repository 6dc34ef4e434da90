use Rattle.std.proofs.Common.{Some, ◌∙◌, sym, ap}
use Rattle.craq_check.proofs.Asks.{kept_first}
use Rattle.craq_check.proofs.index.keep_first.Goals as goal

pub returns : goal.returns
returns c =
    kept_first c.args.asks.now c.insert.new.self c.args.ask c.get.result c.get-2.result (c.get.ensures ∙ c.node.ensures) (sym c.in-Some.ensures ∙ ap Some (sym c.get-2.ensures)) c.if-contains_key.ensures c.in_ok-insert.ensures.updates.0
