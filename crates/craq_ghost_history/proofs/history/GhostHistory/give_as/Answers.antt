use Rattle.std.proofs.Common.{◌≡◌, ◌∙◌, ap, sym, arith, subst}
use Rattle.craq_ghost_history.specs.declared.author.Author.{Author}
use Rattle.craq_ghost_history.specs.Authors.{MayGive}
use Rattle.craq_ghost_history.proofs.Keeping.{gives_splits}
use Rattle.craq_ghost_history.proofs.history.GhostHistory.give_as.Goals as goal

pub split_seat-requires : goal.split_seat-requires
split_seat-requires g c =
    let is = c.args.self.now.is in
    let words : c.args.self.now.table.shared.table_id.words ≡ 1 = ap (λ z. z.words) is.0 ∙ is.1 in
    let me = c.args.seat.now.me in
    (c.requires.table ∙ sym is.0, omega arith, gives_splits g.X.HistoryRule.author g.X.HistoryRule.permit g.X.HistoryRule.holds c.args.seat.now.id g.K.Choosing.chosen me.0 (subst (λ (a : Author). MayGive me.0.right a) c.requires.author c.requires.owns))
