use Rattle.std.proofs.Common.{◌≡◌, ◌<◌, ◌∙◌, length, get_or, refl, sym, ap, subst, arith}
use Rattle.std.proofs.Math.Seq.{map-set_same}
use Rattle.std.specs.Sync.Mutex.{mutex_guard_with_value}
use Rattle.std.specs.declared.sync.MutexGuard.{MutexGuard}
use Rattle.craq_model.specs.declared.ask.Event.{Event}
use Rattle.craq_seat.specs.Calls.{Desked}
use Rattle.craq_seat.specs.Cells.{Celled}
use Rattle.craq_ghost_history.proofs.Prefixes.{prefix_self, prefix_trans}
use Rattle.craq_store_parts.specs.Recorded.{HadLinesIn, HasLinesIn}
use Rattle.craq_running_node.specs.declared.steps.SeatedNode.{SeatedNode}
use Rattle.craq_locked_chain.specs.Held.{cell_in}
use Rattle.craq_locked_chain.proofs.Guards.{all_more, all_so, had_later}
use Rattle.craq_locked_chain.proofs.locked_chain.learn_from.Goals as goal

pub loop-seat-init : goal.loop-seat-init
loop-seat-init g c = record { later = prefix_self c.args.token.now; seen = tt; same = refl }

pub loop-seat-preserved : goal.loop-seat-preserved
loop-seat-preserved g c =
    let i = c.loop-seat.seat-index in
    let seats = c.loop-seat.seats in
    let within : i < length seats = omega (arith, c.loop-seat-test.true) in
    let seat : MutexGuard (SeatedNode g.row.C.Denot) = mutex_guard_with_value (get_or seats i c.seat-item.result) (record { desk = c.token-own.new.self; callers = c.deref_mut.result.now.callers }) in
    let same : cell_in seat ≡ cell_in (get_or seats i c.seat-item.result) =
    ap (λ (x : Desked g.row.C.Denot). x.cell) c.token-own.ensures.same ∙ ap (λ (s : SeatedNode g.row.C.Denot). s.desk.cell) c.deref_mut.ensures.value in
    let lines : HasLinesIn c.token-own.result (cell_in seat) = subst (λ (x : Desked g.row.C.Denot). HasLinesIn c.token-own.result x.cell) (sym c.token-own.ensures.same) c.token-own.ensures.lines in
    record {
      later = prefix_trans c.args.token.now c.loop-seat.token c.learn.new.self c.loop-seat.invariant.later c.learn.ensures.this;
      seen = all_more (HadLinesIn c.learn.new.self) (cell_in {C = g.row.C.Denot}) seats i seat within
          (all_so (HadLinesIn c.loop-seat.token) (HadLinesIn c.learn.new.self) _ (λ (x : Celled g.row.C.Denot Event). had_later c.loop-seat.token c.learn.new.self x c.learn.ensures.this) c.loop-seat.invariant.seen)
          (c.token-own.result, c.learn.ensures.that, lines);
      same = map-set_same (cell_in {C = g.row.C.Denot}) seats i seat c.seat-item.result same ∙ c.loop-seat.invariant.same;
    }
