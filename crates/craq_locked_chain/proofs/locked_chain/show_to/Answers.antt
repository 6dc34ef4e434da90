use Rattle.std.proofs.Common.{◌≡◌, ◌<◌, ◌∙◌, List, length, get_or, sym, ap, subst, arith}
use Rattle.std.proofs.Math.Seq.{map-set_same}
use Rattle.std.specs.Sync.Mutex.{mutex_guard_with_value}
use Rattle.std.specs.declared.sync.MutexGuard.{MutexGuard}
use Rattle.craq_seat.specs.Calls.{Desked}
use Rattle.craq_store_history.specs.declared.entry.HistoryEntry.{HistoryEntry}
use Rattle.craq_store_parts.specs.Recorded.{HadLinesIn, HasLinesIn}
use Rattle.craq_running_node.specs.declared.steps.SeatedNode.{SeatedNode}
use Rattle.craq_locked_chain.specs.Held.{cell_in}
use Rattle.craq_locked_chain.proofs.Guards.{all_at, all_more}
use Rattle.craq_locked_chain.proofs.locked_chain.show_to.Goals as goal

pub see-requires : goal.see-requires
see-requires g c =
    let i = c.loop-seat.seat-index in
    let seats = c.loop-seat.seats in
    let within : i < length seats = omega (arith, c.loop-seat-test.true) in
    let here : HadLinesIn c.args.token.now (cell_in (get_or seats i c.seat-item.result)) =
    all_at (HadLinesIn c.args.token.now) (cell_in {C = g.row.C.Denot}) c.args.seats.now seats i c.seat-item.result within c.loop-seat.invariant.same c.requires in
    let of_desk : HadLinesIn c.args.token.now c.deref_mut.result.now.desk.cell = subst (λ (s : SeatedNode g.row.C.Denot). HadLinesIn c.args.token.now s.desk.cell) (sym c.deref_mut.ensures.value) here in
    subst (λ (log : List HistoryEntry). HadLinesIn log c.deref_mut.result.now.desk.cell) (sym c.loop-seat.invariant.token) of_desk

pub loop-seat-preserved : goal.loop-seat-preserved
loop-seat-preserved g c =
    let i = c.loop-seat.seat-index in
    let seats = c.loop-seat.seats in
    let within : i < length seats = omega (arith, c.loop-seat-test.true) in
    let seat : MutexGuard (SeatedNode g.row.C.Denot) = mutex_guard_with_value (get_or seats i c.seat-item.result) (record { desk = c.see.new.self; callers = c.deref_mut.result.now.callers }) in
    let same : cell_in seat ≡ cell_in (get_or seats i c.seat-item.result) =
    ap (λ (x : Desked g.row.C.Denot). x.cell) c.see.ensures.same ∙ ap (λ (s : SeatedNode g.row.C.Denot). s.desk.cell) c.deref_mut.ensures.value in
    let before : HasLinesIn c.args.token.now c.deref_mut.result.now.desk.cell = subst (λ (log : List HistoryEntry). HasLinesIn log c.deref_mut.result.now.desk.cell) c.loop-seat.invariant.token c.see.ensures.lines in
    let lines : HasLinesIn c.args.token.now (cell_in seat) = subst (λ (x : Desked g.row.C.Denot). HasLinesIn c.args.token.now x.cell) (sym c.see.ensures.same) before in
    record {
      lines = all_more (HasLinesIn c.args.token.now) (cell_in {C = g.row.C.Denot}) seats i seat within c.loop-seat.invariant.lines lines;
      same = map-set_same (cell_in {C = g.row.C.Denot}) seats i seat c.seat-item.result same ∙ c.loop-seat.invariant.same;
      token = c.see.ensures.token ∙ c.loop-seat.invariant.token;
    }
