use Rattle.std.proofs.Common.{List, map, subst, sym, ◌∙◌}
use Rattle.std.specs.List.{AllByRecursion}
use Rattle.craq_seat.specs.Books.{members_of}
use Rattle.craq_store_history.specs.declared.entry.HistoryEntry.{HistoryEntry}
use Rattle.craq_store_history.proofs.Lines.{members_prefix}
use Rattle.craq_store_parts.specs.Recorded.{BookHadLinesIn, BookHasLinesIn, HadLinesIn, HasLinesIn}
use Rattle.craq_locked_chain.specs.Held.{cell_in}
use Rattle.craq_locked_chain.proofs.locked_chain.show_history.Goals as goal

pub see-requires : goal.see-requires
see-requires g c = subst (BookHadLinesIn c.learn_from.new.token) (sym c.token-token.ensures.same) (c.token-token.result, c.learn_from.ensures.later, c.token-token.ensures.lines)

pub show_to-requires : goal.show_to-requires
show_to-requires g c = subst (λ (log : List HistoryEntry). AllByRecursion (HadLinesIn log) (map (cell_in {C = g.row.C.Denot}) c.learn_from.new.seats)) (sym c.see.ensures.token) c.learn_from.ensures.seen

pub returns-clause-shown : goal.returns-clause-shown
returns-clause-shown g c =
    let log = c.learn_from.new.token in
    let book = c.args.book.now in
    record {
      log = log;
      rule = c.see.ensures.rule;
      first = members_prefix book.opening.name.chain c.token-token.result log (members_of book.opening.config) c.learn_from.ensures.later c.token-token.ensures.first;
      book = subst (BookHasLinesIn log) c.token-token.ensures.same c.see.ensures.lines;
      cells = subst (AllByRecursion (HasLinesIn log)) (c.show_to.ensures.same ∙ c.learn_from.ensures.same)
          (subst (λ (seen : List HistoryEntry). AllByRecursion (HasLinesIn seen) (map (cell_in {C = g.row.C.Denot}) c.show_to.new.seats)) c.see.ensures.token c.show_to.ensures.lines);
    }
