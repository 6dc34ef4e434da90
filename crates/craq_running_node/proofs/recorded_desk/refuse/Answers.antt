use Rattle.std.proofs.Common.{◌≡◌, ◌∙◌, ap, List, subst, sym}
use Rattle.craq_ghost_history.specs.Histories.{Written}
use Rattle.craq_store_history.specs.declared.entry.HistoryEntry.{HistoryEntry}
use Rattle.craq_store_parts.specs.Recorded.{IsRecorded}
use Rattle.craq_store_parts.specs.Sent.{MadeCall, Moment}
use Rattle.craq_store_parts.specs.Witnessed.{HasRefusedCall}
use Rattle.craq_running_node.proofs.Refusing.{asks_call, recorded_later, refused_call}
use Rattle.craq_running_node.proofs.recorded_desk.refuse.Goals as goal

pub by_node-requires : goal.by_node-requires
by_node-requires g c =
    let d = c.args.desk.now in
    let w = c.args.writer.now in
    let v = c.learn.new.self in
    let made = c.in-Some.made in
    let pass = c.args.cause.pass in
    let asked = asks_call c.args.cause.origin made w.seen d.cell.opening.name d.cell.stamp c.requires.refuses.0 pass c.args.refusal (sym c.in-Some.ensures) c.requires.refuses.1 c.requires.refuses.2 in
    let shown = refused_call g.C.Core.represents d w v made pass c.args.refusal c.requires.recorded asked.0 asked.1 asked.2 c.learn.ensures.own c.learn.ensures.this (rw c.token-called.ensures.token at c.learn.ensures.that) in
    let moment : c.new-moment.result ≡ record { pass = pass; seen = v.seen } = c.new-moment.ensures ∙ ap (λ (l : List HistoryEntry). record { pass = pass; seen = l }) c.token.ensures.token in
    let at = subst (λ (m : Moment). HasRefusedCall m.seen made.call m.pass c.args.refusal) (sym moment) shown in
    subst (λ (m : MadeCall). HasRefusedCall c.new-moment.result.seen m.call c.new-moment.result.pass c.args.refusal) (sym c.token-called.ensures.same) at

pub returns-clause-recorded : goal.returns-clause-recorded
returns-clause-recorded g c =
    let later = recorded_later g.C.Core.represents c.args.desk.now c.args.writer.now c.learn.new.self c.requires.recorded c.learn.ensures.author c.learn.ensures.own c.learn.ensures.this in
    subst (λ (w : Written HistoryEntry). IsRecorded g.C.Core.represents c.args.desk.now w) (sym c.token.ensures.same) later
