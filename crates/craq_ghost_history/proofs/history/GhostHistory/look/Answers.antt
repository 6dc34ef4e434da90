use Rattle.std.proofs.Common.{◌≡◌, ◌∙◌, ap, sym, arith}
use Rattle.craq_ghost_history.proofs.Keeping.{looks_allowed}
use Rattle.craq_ghost_history.proofs.history.GhostHistory.look.Goals as goal

pub load-requires : goal.load-requires
load-requires g c =
    let is = c.args.self.now.is in
    let words : c.args.self.now.table.shared.table_id.words ≡ 1 = ap (λ z. z.words) is.0 ∙ is.1 in
    (c.requires.table ∙ sym is.0, omega arith, looks_allowed g.X.HistoryRule.author g.X.HistoryRule.permit g.X.HistoryRule.holds _ c.args.seat.now.id c.args.seat.now.me)
