use Rattle.std.proofs.Common.{◌≡◌, ◌∙◌, ap, sym, arith}
use Rattle.craq_ghost_history.proofs.Keeping.{adds_allowed}
use Rattle.craq_ghost_history.proofs.history.GhostHistory.add_as.Goals as goal

pub load-requires : goal.load-requires
load-requires g c =
    let is = c.args.self.now.is in
    let words : c.args.self.now.table.shared.table_id.words ≡ 1 = ap (λ z. z.words) is.0 ∙ is.1 in
    (c.requires.table ∙ sym is.0, omega arith, adds_allowed g.X.HistoryRule.author g.X.HistoryRule.permit g.X.HistoryRule.holds _ c.args.seat.now.id c.args.seat.now.me g.K.Saying.entry c.args.entry.now c.requires.entry c.requires.owns c.requires.uses c.requires.may)

pub returns-clause-adds : goal.returns-clause-adds
returns-clause-adds g c = rw c.requires.entry at c.load.ensures.2.0
