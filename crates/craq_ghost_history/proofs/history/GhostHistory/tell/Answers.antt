use Rattle.std.proofs.Common.{◌≡◌, ◌∙◌, ap, sym, arith}
use Rattle.craq_ghost_history.proofs.Keeping.{tells_splits}
use Rattle.craq_ghost_history.proofs.history.GhostHistory.tell.Goals as goal

pub split_seat-requires : goal.split_seat-requires
split_seat-requires g c =
    let is = c.args.self.now.is in
    let words : c.args.self.now.table.shared.table_id.words ≡ 1 = ap (λ z. z.words) is.0 ∙ is.1 in
    (c.requires.table ∙ sym is.0, omega arith, tells_splits g.X.HistoryRule.author g.X.HistoryRule.permit g.X.HistoryRule.holds c.args.seat.now.id c.args.seat.now.me.0)
