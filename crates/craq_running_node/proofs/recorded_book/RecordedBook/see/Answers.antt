use Rattle.std.proofs.Common.{List, subst, sym}
use mathlib.Core.List.{IsPrefix}
use Rattle.craq_epochs.specs.Mastered.{Mastered}
use Rattle.craq_seat.specs.declared.journal.BookEvent.{BookEvent}
use Rattle.craq_seat.specs.Cells.{Celled}
use Rattle.craq_store_history.specs.declared.entry.HistoryEntry.{HistoryEntry}
use Rattle.craq_store_parts.specs.Recorded.{BookHadLinesIn, BookHasLinesIn}
use Rattle.craq_running_node.proofs.Beginning.{ordered_later}
use Rattle.craq_running_node.proofs.Between.{master_lines_seen}
use Rattle.craq_running_node.proofs.recorded_book.RecordedBook.see.Goals as goal

pub invariant_of-self : goal.invariant_of-self
invariant_of-self g c =
    ordered_later c.self.inside.cell c.self.inside.writer c.learn.new.self c.self.invariant c.learn.ensures.author c.learn.ensures.own c.learn.ensures.this

pub returns-clause-lines : goal.returns-clause-lines
returns-clause-lines g c =
    let b : Celled Mastered BookEvent = c.self.inside.cell in
    let later = ordered_later b c.self.inside.writer c.learn.new.self c.self.invariant c.learn.ensures.author c.learn.ensures.own c.learn.ensures.this in
    let had : BookHadLinesIn c.args.token.now b = subst (BookHadLinesIn c.args.token.now) (sym c.self.view_is) c.requires in
    let that : IsPrefix c.args.token.now c.learn.new.self.seen = subst (λ (log : List HistoryEntry). IsPrefix log c.learn.new.self.seen) c.again-seen.ensures.copy c.learn.ensures.that in
    subst (BookHasLinesIn c.args.token.now) c.self.view_is (master_lines_seen c.args.token.now c.learn.new.self.seen b had that later.journal)
