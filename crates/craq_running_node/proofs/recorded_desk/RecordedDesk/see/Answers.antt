use Rattle.std.proofs.Common.{List, subst, sym}
use mathlib.Core.List.{IsPrefix}
use Rattle.craq_seat.specs.Calls.{Desked}
use Rattle.craq_store_history.specs.declared.entry.HistoryEntry.{HistoryEntry}
use Rattle.craq_store_parts.specs.Recorded.{HadLinesIn, HasLinesIn}
use Rattle.craq_running_node.proofs.Between.{lines_seen}
use Rattle.craq_running_node.proofs.Refusing.{recorded_later}
use Rattle.craq_running_node.proofs.recorded_desk.RecordedDesk.see.Goals as goal

pub invariant_of-self : goal.invariant_of-self
invariant_of-self g c =
    recorded_later g.C.Core.represents c.self.inside.desk c.self.inside.writer c.learn.new.self c.self.invariant c.learn.ensures.author c.learn.ensures.own c.learn.ensures.this

pub returns-clause-lines : goal.returns-clause-lines
returns-clause-lines g c =
    let d : Desked g.row.C.Denot = c.self.inside.desk in
    let later = recorded_later g.C.Core.represents d c.self.inside.writer c.learn.new.self c.self.invariant c.learn.ensures.author c.learn.ensures.own c.learn.ensures.this in
    let had : HadLinesIn c.args.token.now d.cell = subst (λ (x : Desked g.row.C.Denot). HadLinesIn c.args.token.now x.cell) (sym c.self.view_is) c.requires in
    let that : IsPrefix c.args.token.now c.learn.new.self.seen = subst (λ (log : List HistoryEntry). IsPrefix log c.learn.new.self.seen) c.again-seen.ensures.copy c.learn.ensures.that in
    subst (λ (x : Desked g.row.C.Denot). HasLinesIn c.args.token.now x.cell) c.self.view_is (lines_seen c.args.token.now c.learn.new.self.seen d.cell had that later.journal)
